pub mod Chains
pub mod InBoxes
