-- What the definitions of the grammar come to: stretches of places, where a numeral ends, how many digits it has
-- and what its fronts are worth. All other folders lean on it.
pub mod DigitCounts
pub mod DigitsInARow
pub mod FrontValues
pub mod NumeralEnd
pub mod PlaceSearch
pub mod RangeOfFronts
pub mod Stretches
