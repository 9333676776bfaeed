pub mod TextDetail
pub mod OddLaws
pub mod Lines
pub mod LineLaws
pub mod PlaceLines
pub mod Told
pub mod NumberLaws
pub mod TellLaws
