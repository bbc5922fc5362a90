mod WorkedValues
