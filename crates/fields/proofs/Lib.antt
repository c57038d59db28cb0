pub mod Skipping
pub mod ChainLaws
pub mod AnswerLaws
pub mod HeaderLaws
pub mod ConditionLaws
pub mod ReadLoop
pub mod EachLoop
