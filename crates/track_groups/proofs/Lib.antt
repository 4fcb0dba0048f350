pub mod CallLemmas
pub mod CopyLemmas
pub mod PlaceLemmas
pub mod SettlingLemmas
pub mod StateLemmas
pub mod StepLemmas
