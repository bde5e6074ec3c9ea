pub mod Reads
pub mod Parts
pub mod BookRun
pub mod Opening
pub mod Passes
pub mod Whole
