-- The lemmas on words, lanes and rows of digits, which the crates above may cite.
pub mod AsciiDigits
pub mod BlockValues
pub mod DigitLanes
pub mod DigitStops
pub mod DigitTest
pub mod DigitValues
pub mod LanePairs
pub mod LaneSums
pub mod LongNumbers
pub mod NibbleBlocks
pub mod RadixFronts
pub mod ShiftedWords
pub mod WordProducts
pub mod WordsInFront
pub mod WordsOfDigits
pub mod ZerosInFront
