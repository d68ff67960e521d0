-- The definitions that contracts name, a file for each subject.
pub mod Change
pub mod Command
pub mod Fault
pub mod Field
pub mod Gather
pub mod Given
pub mod Lines
pub mod Number
pub mod Decimal
pub mod Output
pub mod Settings
