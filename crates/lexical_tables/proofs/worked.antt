-- Rows, cells and texts that are worked by hand.
pub mod CellRows
pub mod FoldRows
pub mod KindRows
pub mod PlaceRows
pub mod RecordRows
pub mod ReturnRows
pub mod WidthRows
