pub mod Reasons
pub mod Explains
