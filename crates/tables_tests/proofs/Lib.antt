mod WorkedCanonical
mod WorkedGrammar
