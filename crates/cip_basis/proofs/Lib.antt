pub mod Certified
pub mod Points
pub mod Usable
