pub mod Reader
pub mod Forms
pub mod Writer
