pub mod Through
pub mod Parts
pub mod BandLaws
pub mod Lent
pub mod Transfer
pub mod Limited
pub mod Admitted
