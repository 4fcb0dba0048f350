pub mod BegunLemmas
pub mod GoingLemmas
pub mod IndexLemmas
pub mod LawLemmas
pub mod PushLemmas
pub mod SeenLemmas
pub mod StepLemmas
