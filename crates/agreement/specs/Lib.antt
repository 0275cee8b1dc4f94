pub mod Fates
pub mod Exchanges
pub mod Losses
pub mod Agreement
