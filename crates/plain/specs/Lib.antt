pub mod Digits
pub mod Plain
pub mod KeptLaws
pub mod DigitLaws
pub mod Most
pub mod Once
