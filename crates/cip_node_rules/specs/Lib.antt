pub mod BoxLooks
pub mod OpenChoices
pub mod OpenColumns
pub mod RootBounds
pub mod RowRules
pub mod SplitRules
