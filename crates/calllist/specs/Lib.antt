pub mod Shown
pub mod Held
pub mod Printed
pub mod Words
