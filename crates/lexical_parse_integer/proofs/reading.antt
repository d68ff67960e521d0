-- What a cursor's steps say of its numeral, and what loops over them have read: for the answers of `cursor` and of
-- `algorithm`.
pub mod DigitLoop
pub mod DigitsRead
pub mod FirstDigit
pub mod FormatBytes
pub mod FrontAnswers
pub mod DigitBehindHead
pub mod FrontNumbers
pub mod NumeralSteps
pub mod OctalZeros
pub mod ParserAnswers
pub mod Soundness
pub mod UntestedDigits
pub mod ZerosRead
