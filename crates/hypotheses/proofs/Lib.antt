pub mod TableLaws
pub mod ModeLines
pub mod HypothesisLines
pub mod RoleLines
pub mod GoodLines
pub mod GroupLaws
