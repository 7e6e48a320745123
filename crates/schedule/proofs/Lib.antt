pub mod Answered
pub mod Arrivals
pub mod Passing
pub mod Possible
pub mod Standing
pub mod Running
pub mod Tight
