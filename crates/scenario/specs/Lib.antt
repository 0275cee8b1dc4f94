pub mod Arrived
pub mod Runs
pub mod Totals
