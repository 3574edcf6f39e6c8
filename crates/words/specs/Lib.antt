pub mod Choice
pub mod Lists
pub mod Output
pub mod Text
