pub mod Bytes
pub mod Counts
pub mod Payloads
pub mod Written
pub mod Frames
