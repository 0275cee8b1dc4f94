pub mod RoundTrip
pub mod Appending
pub mod Fields
pub mod Bodies
pub mod Heads
pub mod Trips
