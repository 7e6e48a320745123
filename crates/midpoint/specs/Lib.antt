pub mod Order
pub mod Midpoint
pub mod Refusals
pub mod Setting
pub mod Theorems
