pub mod Reported
pub mod Played
