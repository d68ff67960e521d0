-- The definitions that contracts name, a file for each subject.
pub mod Append
pub mod Around
pub mod Computed
pub mod Fixed
pub mod Fraction
pub mod Grammar
pub mod Parted
pub mod Quick
pub mod Validity
