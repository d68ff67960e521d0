-- The definitions that the laws name.
pub mod Integer
pub mod Keeping
