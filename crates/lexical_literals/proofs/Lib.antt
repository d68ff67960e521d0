-- The lemmas of the proofs, a file for each subject.
pub mod ByteKinds
pub mod DecimalFronts
pub mod GroupedFronts
pub mod KindLanes
pub mod LiteralFronts
pub mod LiteralRows
pub mod NumberCursors
pub mod NumberFaults
pub mod NumberStops
pub mod TokenLists
pub mod TokenRows
pub mod TokenSteps
pub mod TypedFronts
pub mod TypedLiteralRows
