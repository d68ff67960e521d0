-- The definitions that contracts name, a file for each subject.
pub mod Ascii
pub mod Compare
pub mod Digit
pub mod Faults
pub mod Format
pub mod Kind
pub mod Number
pub mod Validity
