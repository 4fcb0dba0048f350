pub mod Bytes
pub mod Segments
pub mod Template
pub mod Serving
pub mod Views
pub mod TemplateViews
pub mod Grammar
