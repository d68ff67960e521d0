-- What texts are read as, and how many turns they take, worked out.
mod Digits
mod Fields
mod Readers
mod Tables
mod Tokens
pub mod WorkedTurns
