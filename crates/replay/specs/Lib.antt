pub mod Answers
pub mod Ways
pub mod Scripts
pub mod Played
