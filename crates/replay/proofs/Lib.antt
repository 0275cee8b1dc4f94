pub mod Answering
pub mod Calling
pub mod Exchanges
