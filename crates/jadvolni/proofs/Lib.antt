-- The proofs beside the functions, a file for each idea.
pub mod ColumnAmounts
pub mod ColumnArrays
pub mod ColumnCodes
pub mod ColumnNumbers
pub mod ColumnRows
pub mod RowPlaces
pub mod SureAnswers
pub mod TableBits
pub mod TableColumns
pub mod ZeroBytes
