-- What one call feeds of a block, and all that it leaves: how far it goes, the bytes held of a line and the output. Assumes nothing.
use Rattle.std.specs.Prelude.{ℕ, ◌+◌, ◌-◌, Bool, cond, List, [], ◌∷◌, length, drop, eqb, ltb}
use Rattle.turkish.specs.Letters.{lf}
use Rattle.writing.specs.Put.{put}
use Rattle.lines.specs.Line.{list_line}
use Rattle.lines.specs.Listed.{listed}
use Rattle.lines.specs.Room.{line_room}
use Rattle.listing.specs.Feed.{hold}

-- `used` bytes of the block are taken, the bytes `held` are held of a line, and the first `written` bytes of `out` are written
pub record Fed : Type 0 where
  pub used : ℕ
  pub held : List ℕ
  pub written : ℕ
  pub out : List ℕ

-- the same in the order of the calls' parameters
abbrev pub standing : ℕ → List ℕ → List ℕ → ℕ → Fed
standing used held out written = record { used = used; held = held; written = written; out = out }

-- a line feed: the line held is written, and none is held
unfoldable pub end_line : Bool → Fed → Fed
end_line folded s =
    let text = list_line (listed folded s.held) in
    standing (s.used + 1) [] (put s.written text s.out) (s.written + length text)

-- another byte is held with those held, as far as the line is
unfoldable pub hold_byte_of : ℕ → Fed → Fed
hold_byte_of b s = standing (s.used + 1) (hold s.held b) s.out s.written

unfoldable pub feed_byte_of : Bool → ℕ → Fed → Fed
feed_byte_of folded b s = cond (eqb b lf) (end_line folded s) (hold_byte_of b s)

-- bytes fed one after the other, as long as the output has room for a whole line
unfoldable pub feed_bytes : Bool → List ℕ → Fed → Fed
feed_bytes folded [] s = s
feed_bytes folded (b ∷ bs) s = cond (ltb (length s.out - s.written) line_room) s (feed_bytes folded bs (feed_byte_of folded b s))

-- one call: the block from place `from` on, with `held` held before it, to the front of the output
unfoldable pub feeding : Bool → List ℕ → ℕ → List ℕ → List ℕ → Fed
feeding folded block from held out = feed_bytes folded (drop from block) (standing from held out 0)
