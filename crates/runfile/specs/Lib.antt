pub mod Accepted
pub mod Back
pub mod Longest
pub mod RecordLaws
pub mod Witness
pub mod WordLaws
pub mod FirstPart
