pub mod FreshLaws
pub mod RowlessLaws
pub mod MarkLaws
pub mod MarkLoops
pub mod JointMarks
pub mod CloseLaws
