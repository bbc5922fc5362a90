mod WorkedBits
mod WorkedWalks
