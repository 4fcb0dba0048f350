pub mod PushLemmas
pub mod ItemLemmas
pub mod OriginLemmas
pub mod NumberedLemmas
pub mod DoneLemmas
pub mod GatherLemmas
pub mod MomentLemmas
pub mod RouteLemmas
