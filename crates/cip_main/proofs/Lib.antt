pub mod Clauses
pub mod Left
pub mod RootBox
pub mod Searches
pub mod Statuses
pub mod Told
pub mod TrueFigures
pub mod Ways
