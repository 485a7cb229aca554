pub mod FirstWords
pub mod MpsKinds
pub mod MpsLines
pub mod NamesApart
pub mod NumbersRead
pub mod SetWords
pub mod SkippedSets
