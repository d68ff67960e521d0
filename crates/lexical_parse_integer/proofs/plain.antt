-- Texts of digits alone under formats without punctuation: for the answers of `algorithm::plain`.
pub mod DigitFaults
pub mod DigitsAlone
pub mod DigitsByTable
pub mod DigitsInFront
pub mod FieldsInFront
pub mod ForbiddenZeros
pub mod KindsOfFormats
pub mod LeavingNumbers
