mod WorkedBits
mod WorkedCalls
