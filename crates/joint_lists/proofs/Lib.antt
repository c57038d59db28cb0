pub mod ListLaws
pub mod RecordLaws
pub mod PackLaws
pub mod BatchLaws
