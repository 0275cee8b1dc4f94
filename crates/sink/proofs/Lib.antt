pub mod Laws
pub mod Writing
pub mod Bytes
pub mod Packing
pub mod Reading
pub mod Gains
