-- The theorems of the test vectors.
pub mod Tables
pub mod rows
