pub mod Convert
pub mod Rename
