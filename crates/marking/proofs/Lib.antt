pub mod ProgramLaws
pub mod TextLaws
pub mod BufferLaws
