-- What is promised of listings.
pub mod Listings
