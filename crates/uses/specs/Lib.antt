-- The definitions that contracts name, a file for each subject.
pub mod Config
pub mod Each
pub mod FixedWidth
pub mod Json
pub mod Ledger
pub mod Price
pub mod Source
pub mod Toml
