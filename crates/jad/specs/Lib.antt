-- The definitions that contracts name, a file for each subject.
pub mod Outcome
pub mod Question
