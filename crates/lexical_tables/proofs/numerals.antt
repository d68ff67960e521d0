-- Cells of digits, and of digits around a point.
pub mod AmountBytes
pub mod HeldCells
pub mod AmountTexts
pub mod PlainCells
pub mod ZeroRule
