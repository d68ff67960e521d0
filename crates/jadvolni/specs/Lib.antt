-- The definitions that contracts name, a file for each subject.
pub mod Arrays
pub mod Columns
pub mod Effect
pub mod Fixed
pub mod FormatFields
pub mod Halves
pub mod Literals
pub mod RowCells
pub mod Skipping
pub mod Tables
