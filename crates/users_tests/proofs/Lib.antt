mod WorkedMatrix
