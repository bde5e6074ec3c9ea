pub mod Demand3
pub mod Examples
pub mod Early
