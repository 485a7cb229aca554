pub mod FieldCuts
pub mod NameLaws
pub mod SetLines
pub mod ValuesRead
pub mod WordTables
