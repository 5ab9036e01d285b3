pub mod Rule
pub mod Lists
pub mod Calls
pub mod Following
