pub mod IndexLaws
pub mod ModelLaws
pub mod FillLoop
pub mod ComponentLaws
pub mod UnsafeLaws
pub mod SameSheetLaws
pub mod BodyLaws
pub mod GoodIndexLaws
