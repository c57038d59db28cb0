pub mod ValueLoops
pub mod ValueLaws
pub mod SliceLaws
pub mod StandLaws
pub mod ValueStates
pub mod JumpLaws
