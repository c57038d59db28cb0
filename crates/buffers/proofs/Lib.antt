pub mod OverLaws
pub mod WritingLaws
