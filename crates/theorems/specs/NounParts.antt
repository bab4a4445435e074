-- What the noun stage may leave of a word (document 02, request 4): the terms of its theorem. Assumes nothing.
use Rattle.std.specs.Prelude.{ℕ, ◌≤◌, ◌<◌, ◌≡◌, length, take}
use Prim.Native.String.{String}
use mathlib.Core.List.{List, [], ◌∷◌, ◌++◌, map, Memᴰ}
use Rattle.encoding.specs.Encoding.{encode_all}
use Rattle.turkish.specs.Letters.{text}

-- the letters that may stay behind a cut, in bytes
unfoldable pub staying : List (List ℕ)
staying = map (λ (s : String). encode_all (text s)) ("na" ∷ "ne" ∷ "nda" ∷ "nde" ∷ [])

-- s is a front part of the word w; or a front part followed by the word's own last na, ne, nda or nde, what stood between being cut
pub data NounPart (w s : List ℕ) : Type 0 where
  front : (k : ℕ) → k ≤ length w → s ≡ take k w → NounPart w s
  closed : (k : ℕ) (u t : List ℕ) → Memᴰ t staying → w ≡ u ++ t → k < length u → s ≡ take k w ++ t → NounPart w s
