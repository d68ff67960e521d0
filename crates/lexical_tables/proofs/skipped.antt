-- Where rows are, and tables whose bad rows are skipped.
pub mod InParts
pub mod Overwritten
pub mod RightRows
pub mod RowPlaces
pub mod RowsSkipped
pub mod Skipping
pub mod WorkedRows
