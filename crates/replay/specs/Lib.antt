pub mod Encoding
pub mod Kinds
pub mod Replay
pub mod Examples
