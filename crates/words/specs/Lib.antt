pub mod Words
pub mod Passed
pub mod WordLaws
pub mod LineLaws
pub mod NumberLaws
pub mod Vectors
