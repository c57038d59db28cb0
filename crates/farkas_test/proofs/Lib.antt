-- The laws that the proofs of the program's functions share.
pub mod RowSizes
