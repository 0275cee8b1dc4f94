pub mod Groups
pub mod Steps
pub mod Walk
pub mod Occasions
pub mod Said
pub mod Shown
pub mod Answering
