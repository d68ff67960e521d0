-- The lemmas of the proofs, a file for each subject.
pub mod CommandLines
pub mod LineSteps
pub mod DecimalSteps
pub mod DigitPairs
pub mod Pieces
pub mod AfterLast
pub mod AnswerLines
pub mod FieldChanges
pub mod LastGiven
pub mod Sending
