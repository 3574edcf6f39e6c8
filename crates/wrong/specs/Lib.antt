pub mod Entries
pub mod Rules
pub mod OpenContracts
pub mod Finding
pub mod Panels
