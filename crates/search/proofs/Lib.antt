pub mod Sided
