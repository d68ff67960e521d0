-- The definitions that contracts name, a file for each subject.
pub mod Decimal
pub mod Groups
pub mod Kinds
pub mod Literals
pub mod TokenCallers
pub mod Tokens
pub mod TypedLiterals
