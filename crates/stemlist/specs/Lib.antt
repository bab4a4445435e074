-- What the contracts speak of beside the listing.
pub mod Stopped
