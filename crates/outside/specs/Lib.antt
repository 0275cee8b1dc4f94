pub mod Inputs
pub mod Vectors
