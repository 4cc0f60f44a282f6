pub mod Ring
pub mod Links
pub mod Circles
pub mod KeyWalk
pub mod PlacedRows
