pub mod Bits
pub mod Laws
pub mod Valid
pub mod Taking
pub mod Keeping
pub mod Protecting
pub mod Asking
pub mod Carrying
