pub mod Nodes
pub mod Paths
pub mod Indices
pub mod Tables
pub mod Telling
pub mod Theorems
