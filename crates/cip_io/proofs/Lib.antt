pub mod FilesLemmas
pub mod PushLemmas
