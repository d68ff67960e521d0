-- The proofs beside the functions, a file for each idea.
pub mod ColumnNumbers
pub mod ColumnRows
pub mod ColumnSteps
pub mod FieldAnswers
pub mod FieldEnds
pub mod FieldPieces
pub mod FieldRows
pub mod FieldSteps
pub mod FieldsInParts
pub mod LineRows
pub mod MarkedFields
pub mod Marks
pub mod MovedFields
pub mod Numerals
pub mod ThreeDigits
pub mod WholeFields
