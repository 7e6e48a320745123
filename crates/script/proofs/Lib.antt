pub mod Cut
pub mod Digits
pub mod GivenOut
pub mod Hexed
pub mod Only
pub mod Plain
pub mod Printed
pub mod Told
