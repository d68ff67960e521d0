-- The lemmas of the proofs, a file for each subject.
pub mod Columns
pub mod EachLemmas
pub mod Settled
pub mod Sums
