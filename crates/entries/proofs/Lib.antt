pub mod Demand
pub mod ListPlan
pub mod CopiedModel
