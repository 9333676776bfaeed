pub mod Basis
pub mod Found
pub mod FoundLaws
pub mod LineLaws
pub mod WidthLaws
