-- What a kind's name is made of, by one path for the check of `name_of`. Assumes nothing.
pub use Rattle.turkish.specs.Letters.{text}
pub use Rattle.turkish.specs.Pieces.{kind_names, name_from, kind_name}
pub use Rattle.turkish.specs.PieceCalls.{kind_number}
