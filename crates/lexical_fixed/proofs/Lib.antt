-- The lemmas on fixed-point numbers. Some may be cited by the crates above.
mod AmountsAround
mod Appended
mod AroundPoint
mod DecimalParts
pub mod Digits
mod FaultPlaces
mod FixedRows
mod Fractions
mod FrontByWhole
mod IntegerParts
mod JoinedDigits
mod LastFractions
mod LastPoints
pub mod NumbersInUnits
mod PartedTexts
mod Places
mod QuickDigits
mod QuickFronts
mod QuickParts
pub mod ShortNumbers
mod ShortUnits
mod Units
pub mod Valid
mod WholeByFront
mod WithoutPlaces
