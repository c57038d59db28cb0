pub mod EachPut
pub mod PartLaws
pub mod CopyLaws
