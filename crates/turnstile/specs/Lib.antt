pub mod History
pub mod View
pub mod Calls
pub mod Numbers
pub mod Turns
pub mod Dials
pub mod Rule
