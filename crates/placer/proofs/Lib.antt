pub mod Came
pub mod Streams
