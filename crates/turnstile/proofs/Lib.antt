pub mod CallerLemmas
mod HistoryLemmas
mod ListLemmas
mod CountLemmas
mod ViewLemmas
mod NumberLemmas
mod TurnLemmas
mod DialLemmas
mod RuleLemmas
mod TurnSteps
mod DialSteps
mod PassNumbers
mod PassSteps
mod Ends
mod WholeCalls
