mod Spans
mod Rule
pub mod Returns
