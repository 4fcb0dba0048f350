pub mod Lane
pub mod LaneCalls
pub mod LaneCounts
pub mod LaneEvents
pub mod LaneLaws
