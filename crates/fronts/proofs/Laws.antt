-- The laws of a front: its summary built a character at a time, and the front that stands in for it.
pub mod Summaries
pub mod StandIn
