pub mod Boxes
pub mod Choosing
pub mod Marks
pub mod OneSide
pub mod Steps
pub mod Trails
pub mod WholeHalves
