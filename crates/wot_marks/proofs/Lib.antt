pub mod SameUsers
pub mod MarkLemmas
