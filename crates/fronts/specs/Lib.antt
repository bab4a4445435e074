-- How the code holds a summary and what stands in for a front. No promise to a host rests on these.
pub mod Counted
pub mod StandIn
