mod Sets
pub mod Lists
pub mod Turns
pub mod Numbers
pub mod Places
pub mod Told
mod Left
pub mod Entering
mod Order
pub mod Counts
pub mod Relaying
