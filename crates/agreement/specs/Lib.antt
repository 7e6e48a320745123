pub mod Majority
pub mod Pairs
pub mod Results
pub mod Rows
pub mod Holdings
pub mod Cycles
pub mod Theorems
