pub mod Record
pub mod Reading
pub mod Range
