pub mod SameRuns
pub mod FairConditions
pub mod FairWritable
pub mod EveryCondition
pub mod CopyMeans
pub mod CopyCall
