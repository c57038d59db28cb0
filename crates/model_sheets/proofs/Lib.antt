pub mod SheetLaws
pub mod OpeningLaws
pub mod LimitLaws
