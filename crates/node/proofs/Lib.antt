pub mod Completing
mod Receiving
pub mod Open
pub mod Roles
pub mod Accepted
pub mod Filling
mod Placing
mod Stages
mod Rounds
mod Cycling
pub mod Settings
mod Carrying
mod Firsts
mod Noting
mod Evolving
mod Building
mod Worlds
mod Entries
mod Calling
mod Giving
