pub mod Runs
pub mod Answers
pub mod Tests
pub mod Calls
pub mod Lines
pub mod Claims
