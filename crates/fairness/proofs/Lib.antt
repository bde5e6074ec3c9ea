pub mod Turns
pub mod Search
pub mod Kept
pub mod Fair
pub mod Barred
pub mod Early
