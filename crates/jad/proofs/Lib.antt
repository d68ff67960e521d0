-- The lemmas of the proofs, a file for each subject.
pub mod Counted
