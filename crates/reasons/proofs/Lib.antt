pub mod Room
pub mod Put
pub mod Reaches
pub mod Explains
