pub mod BothSides
pub mod Entries
pub mod OpenChoices
pub mod Places
pub mod SplitSteps
