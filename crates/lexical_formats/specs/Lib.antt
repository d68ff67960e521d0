-- The definitions that contracts name.
pub mod Languages
pub mod Names
