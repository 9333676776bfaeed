pub mod Grown
pub mod GrownLaws
pub mod CopyLaws
