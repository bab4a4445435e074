-- What the listing is, and how it is made from blocks of input.
pub mod Listing
pub mod Feed
pub mod Fed
pub mod Blocks
