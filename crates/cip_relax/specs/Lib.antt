pub mod Guessing
pub mod NodeRows
pub mod Relaxing
pub mod Solving
pub mod Telling
