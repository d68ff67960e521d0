-- Test vectors, a file for each subject.
-- Written by tools/rows.py from tools/rows.txt and tools/languages.txt: make rows writes it anew.
pub mod Affixes
pub mod Behind
pub mod Cfamily
pub mod Compiled
pub mod Data
pub mod Ends
pub mod Flags
pub mod Formats
pub mod Functional
pub mod Literals
pub mod Notations
pub mod Octal
pub mod Radixes
pub mod Scripting
pub mod Separators
pub mod Signs
pub mod Stops
pub mod Zeros
