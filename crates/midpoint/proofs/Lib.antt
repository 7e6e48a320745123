pub mod Sorting
pub mod Ranks
pub mod Shifts
