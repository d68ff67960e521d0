-- The proofs of the parsers, in folders by the step of the argument.
pub mod bound
pub mod Folds
pub mod ForCallers
pub mod grammar
pub mod punctuated
pub mod plain
pub mod reading
pub mod theorems
pub mod words
