pub mod NodeSets
pub mod GoodMaps
pub mod FilledUp
pub mod MapNodes
pub mod Keeping
