-- Numerals under formats with punctuation: for the answers of `algorithm::punctuated`.
pub mod BareHeads
pub mod DigitsAmong
pub mod GroupedNumerals
pub mod PunctuatedAnswers
pub mod PartedFronts
pub mod Threes
