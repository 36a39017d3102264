pub mod ListingLines
pub mod Fits
