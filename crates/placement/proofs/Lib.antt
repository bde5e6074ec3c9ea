pub mod Searches
pub mod Grants
pub mod Hints
pub mod Plans
pub mod InOrder
pub mod Requests
