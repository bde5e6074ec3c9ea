pub mod FirstZero
pub mod Colours
pub mod Masked
pub mod Choice
pub mod Picked
pub mod Part
pub mod Zeros
