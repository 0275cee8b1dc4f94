pub mod Coding
pub mod Writing
pub mod Laws
pub mod Example
