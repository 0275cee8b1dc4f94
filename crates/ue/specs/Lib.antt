pub mod Slots
pub mod Batches
pub mod Walks
pub mod Checks
pub mod Fillings
pub mod Reports
pub mod Clause
pub mod Transmitters
