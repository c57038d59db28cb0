pub mod QuotientLaws
pub mod DivisorLaws
pub mod OrderLaws
pub mod FairLaws
pub mod TruthLaws
pub mod SpellingLaws
pub mod BlankLaws
