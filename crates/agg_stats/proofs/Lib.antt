pub mod FoldExamples
pub mod GivenLemmas
pub mod LawLemmas
pub mod MemberLemmas
pub mod RoomLemmas
pub mod RowLemmas
pub mod SummaryLemmas
pub mod SummedLemmas
