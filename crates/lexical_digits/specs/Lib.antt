-- The definitions that contracts name, a file for each subject.
pub mod Lanes
pub mod Value
pub mod Words
pub mod WrittenNumbers
