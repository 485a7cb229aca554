pub mod BuiltTerms
pub mod IndexedRows
pub mod KeptRows
pub mod SameRows
pub mod ValidPools
