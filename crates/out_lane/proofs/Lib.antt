pub mod RangeLemmas
pub mod FateLemmas
pub mod EventLemmas
pub mod ItemLemmas
pub mod BecomeLemmas
pub mod LaneLemmas
pub mod CallLemmas
pub mod CountLemmas
