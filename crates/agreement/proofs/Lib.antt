mod Majorities
mod Pairs
mod Fronts
mod Made
mod Others
mod Agreeing
pub mod Cycles
mod Examples
pub mod Possible
