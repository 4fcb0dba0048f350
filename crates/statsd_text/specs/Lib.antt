pub mod Sections
pub mod Tags
pub mod Said
pub mod Reading
pub mod TagMap
pub mod Views
pub mod Faults
pub mod Grammar
