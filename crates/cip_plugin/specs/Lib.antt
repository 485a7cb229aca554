mod Callbacks
pub mod Answers
pub mod Asking
pub mod Calling
pub mod Calls
pub mod Delivering
pub mod FaultNames
pub mod Lives
pub mod Ranks
pub mod Seats
pub mod Statements
pub mod Steps
pub mod Telling
pub mod Who
pub mod Wishing
