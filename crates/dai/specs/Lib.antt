pub mod Values
pub mod Fields
pub mod Parts
pub mod Tables
pub mod Laws
