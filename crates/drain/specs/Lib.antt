pub mod Goals
pub mod Reached
pub mod Moving
pub mod Outcomes
