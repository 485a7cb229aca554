pub mod BoundLaws
pub mod GapLaws
pub mod WorstLaws
