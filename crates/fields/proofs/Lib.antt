pub mod Claims
pub mod Laws
pub mod Walks
pub mod Bounds
pub mod Listing
pub mod Blank
pub mod Searching
pub mod Theorems
