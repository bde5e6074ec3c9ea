pub mod Numbers
pub mod Tests
pub mod Decoded
pub mod Shifts
pub mod Judged
pub mod Places
