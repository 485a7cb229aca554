pub mod Differences
pub mod SplitRowSums
pub mod SplitSteps
pub mod SplitValidity
