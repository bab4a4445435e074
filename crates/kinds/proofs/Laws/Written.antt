-- What is written at the front of an output, part by part; the pieces that are told, one more at a time. Assumes nothing.
use Prim.Native.Nat.{ℕ, ◌+◌, ◌<◌}
use mathlib.Core.Path.{◌≡◌, refl, sym, ◌∙◌}
use mathlib.Core.List.{List, [], ◌∷◌, ◌++◌, map, append_assoc, map-append}
use native.Mathlib.Numerals.{add-one}
use lib.ListN.{length, take, get_or, length-append, length-map}
use lib.Seq.{take-suc, take-append_seam, drop-append-add, drop-drop}
use Rattle.turkish.specs.declared.endings.Piece.{Piece}
use Rattle.turkish.specs.Calls.{written}
use Rattle.turkish.specs.PieceCalls.{told}
use Rattle.writing.specs.Put.{put}

-- nothing written leaves the output
pub written-nothing : (out : List ℕ) → out ≡ written [] out
unfolding written
written-nothing out = refl

-- a text written at the end of what is written lengthens it
pub put_written : (s t out : List ℕ) (n : ℕ) → n ≡ length s → put n t (written s out) ≡ written (s ++ t) out
unfolding put written
put_written s t out n e = rw (e, take-append_seam, drop-append-add, drop-drop, length-append, append_assoc)

-- one more piece is told behind the others
pub told-next : (ps : List Piece) (i : ℕ) (d : Piece) → i < length ps → map told (take (i + 1) ps) ≡ map told (take i ps) ++ (told (get_or ps i d) ∷ [])
told-next ps i d h = rw (add-one, take-suc ps i d h) (map-append told (take i ps) (get_or ps i d ∷ []))

-- a list has as many elements as what stands for it, one for one
pub length-mapped : (A B : Type 0) (f : A → B) (l : List A) (n : ℕ) → length (map f l) ≡ n → length l ≡ n
length-mapped A B f l n e = sym (length-map l f) ∙ e
