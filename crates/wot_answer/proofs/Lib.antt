pub mod Outcomes
pub mod Making
pub mod Answering
pub mod Asking
pub mod Feeding
pub mod LineLemmas
pub mod Queries
pub mod EarlierQueries
