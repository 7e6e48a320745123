pub mod Config
pub mod Deviation
pub mod Setting
pub mod Rounds
pub mod Theorems
