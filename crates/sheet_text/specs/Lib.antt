pub mod Sheet
pub mod Grown
pub mod Longest
pub mod SheetLaws
pub mod Vectors
pub mod Once
