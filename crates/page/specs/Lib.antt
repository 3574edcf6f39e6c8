pub mod Marks
pub mod Page
