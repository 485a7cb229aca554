pub mod Faults
pub mod Shelf
pub mod Sink
pub mod States
pub mod Store
pub mod Texts
