pub mod Text
pub mod Accepted
pub mod Framed
pub mod Order
pub mod Numbered
pub mod RecordLines
pub mod RecordOrder
