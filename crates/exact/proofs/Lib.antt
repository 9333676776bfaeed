pub mod RoundingLaws
pub mod RoundingOnce
pub mod Vectors
