pub mod Limits
pub mod Playing
pub mod Standing
pub mod Stations
