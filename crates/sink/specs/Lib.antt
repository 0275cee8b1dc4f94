pub mod Sink
pub mod Bits
pub mod Digits
pub mod Written
pub mod Ends
pub mod Claims
pub mod Gains
