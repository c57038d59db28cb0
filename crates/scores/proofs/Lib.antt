pub mod CountGoals
pub mod ScoreLaws
