pub mod RenameLemmas
