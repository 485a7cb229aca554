pub mod BlockAnswers
pub mod BlockNumbers
pub mod EndLaws
pub mod EndedTexts
pub mod PassedOn
pub mod WordLaws
pub mod Mapped
