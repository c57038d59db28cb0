pub mod NumberLaws
pub mod SortLaws
pub mod CommonLaws
pub mod KeptLaws
pub mod GatherLaws
pub mod PutLaws
