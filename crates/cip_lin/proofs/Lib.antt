pub mod ActivitySizes
pub mod AllowedValues
pub mod BuiltRows
pub mod RowSums
pub mod PassedOn
