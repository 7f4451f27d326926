pub mod Node
pub mod Nodes
