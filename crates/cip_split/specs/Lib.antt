pub mod SplitChecks
pub mod SplitMeaning
pub mod Statements
