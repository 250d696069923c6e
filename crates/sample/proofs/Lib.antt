pub mod Keeping
pub mod Running
