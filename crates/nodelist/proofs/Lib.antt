pub mod Items
pub mod Bytewise
pub mod FormLaws
pub mod Runs
pub mod LineLaws
pub mod WriteLaws
pub mod ReadBack
