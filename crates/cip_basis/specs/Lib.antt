pub mod PointTests
pub mod Shown
