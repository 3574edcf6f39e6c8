pub mod State
pub mod Moves
pub mod Tabs
pub mod Pen
pub mod Tests
pub mod Lines
