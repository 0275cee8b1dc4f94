pub mod Limits
pub mod Marks
pub mod Opening
pub mod Calls
pub mod Entries
pub mod Readings
pub mod Sending
pub mod Plans
