pub mod Arrays
pub mod Choosable
pub mod Heard
pub mod Nodes
pub mod Possible
pub mod Rounds
