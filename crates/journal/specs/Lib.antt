pub mod Codec
pub mod Layout
pub mod Faults
pub mod Reading
pub mod Readers
pub mod Journals
