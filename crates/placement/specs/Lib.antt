pub mod Plans
pub mod Searches
pub mod Grants
pub mod Hints
pub mod Admissions
pub mod Placed
