-- The definitions that contracts name, a file for each subject.
pub mod Callers
pub mod Columns
pub mod Fields
pub mod Lines
pub mod Numerals
pub mod Parts
pub mod Places
pub mod ReadFields
pub mod ReadSoFar
pub mod Search
pub mod Threes
