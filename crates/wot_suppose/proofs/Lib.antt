pub mod Comparing
pub mod Enough
pub mod Far
pub mod NearLemmas
pub mod Rowless
pub mod SameKeys
