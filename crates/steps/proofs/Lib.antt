pub mod Naming
pub mod Storing
pub mod Transmissions
pub mod Soundness
pub mod Writing
pub mod Measuring
