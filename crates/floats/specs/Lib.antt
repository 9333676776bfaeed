pub mod Value
pub mod Bits
pub mod One
pub mod Exactly
pub mod Equal
pub mod Far
pub mod Cut
