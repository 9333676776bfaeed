pub mod Due
pub mod DueLaws
pub mod OneFit
pub mod Cases
pub mod Ground
pub mod Fractions
pub mod GroundLaws
pub mod Once
