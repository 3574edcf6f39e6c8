pub mod Lengths
pub mod Reading
pub mod Made
pub mod Comparing
pub mod RoundTrip
pub mod Theorems
pub mod Flags
