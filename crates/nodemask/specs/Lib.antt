pub mod Found
pub mod Ranks
pub mod Taken
