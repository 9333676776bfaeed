pub mod Sentences
pub mod SentenceLaws
