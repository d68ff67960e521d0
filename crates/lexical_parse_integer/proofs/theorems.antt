-- What the laws of the answers follow from: for the answers of `laws`, and for callers.
pub mod CompleteByPartial
pub mod DigitTexts
pub mod EndsAndRuns
pub mod EqualViews
pub mod Examples
pub mod FaultPlaces
pub mod FrontDigits
pub mod Locality
pub mod NonEmptyFronts
pub mod RangeFaultPlaces
pub mod ReadBack
pub mod SameFronts
pub mod SettledAnswers
pub mod WholeByFront
pub mod WiderTypes
pub mod ZerosInFront
