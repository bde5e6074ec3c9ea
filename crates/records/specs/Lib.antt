pub mod Jobs
pub mod Installs
