pub mod Tables
pub mod Nodes
pub mod Chains
pub mod Walks
pub mod NearCall
pub mod FirstNode
