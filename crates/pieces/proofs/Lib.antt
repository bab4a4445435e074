-- What the calls on pieces rest on.
pub mod Laws
