pub mod LineLaws
pub mod RowLaws
pub mod RowSizes
pub mod EntryLaws
pub mod ProofLaws
