pub mod Texts
pub mod Serving
pub mod Filled
pub mod Spelling
pub mod TemplateTexts
