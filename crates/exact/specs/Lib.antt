pub mod Divisor
pub mod Value
pub mod Rounding
pub mod Euclid
pub mod Terms
pub mod Once
pub mod Exists
