-- A list cut behind line feeds is listed part by part: no line is held over such a cut. Assumes nothing.
use Prim.Native.Nat.{ℕ}
use mathlib.Core.Path.{◌≡◌, refl, sym, ap, ◌∙◌}
use mathlib.Core.Bool.{Bool}
use mathlib.Core.List.{List, [], ◌∷◌, ◌++◌, append_assoc, append-nil, flatten, map}
use Rattle.turkish.specs.Letters.{lf}
use Rattle.turkish.specs.Lines.{unclosed}
use Rattle.listing.specs.Listing.{list_all, listing}
use Rattle.listing.specs.Feed.{fed_out, fed_line, last_out}
use Rattle.listing.proofs.Blocks.{fed_line-append, fed_out-append, listing-fed}

-- a list with a line feed behind it
abbrev pub closed : List ℕ → List ℕ
closed a = a ++ (lf ∷ [])

-- after it no line is held
fed_line-closed : (a : List ℕ) → fed_line [] (closed a) ≡ []
unfolding fed_line lf
fed_line-closed a = fed_line-append [] a (lf ∷ [])

-- so its listing is what it writes
fed_out-closed : (folded : Bool) (a : List ℕ) → fed_out folded [] (closed a) ≡ listing folded (closed a)
unfolding last_out unclosed list_all
fed_out-closed folded a = rw (← listing-fed folded (closed a), fed_line-closed a, append-nil)

-- and before what follows it stands that
listing-closed : (folded : Bool) (a b : List ℕ) → listing folded (closed a ++ b) ≡ listing folded (closed a) ++ listing folded b
listing-closed folded a b =
    rw (← listing-fed folded (closed a ++ b), fed_out-append folded [] (closed a) b, fed_line-append [] (closed a) b, fed_line-closed a, append_assoc)
    (rw (fed_out-closed folded a, listing-fed folded b))

-- a list cut behind a line feed
pub listing-parts : (folded : Bool) (a b : List ℕ) → listing folded (a ++ (lf ∷ b)) ≡ listing folded (a ++ (lf ∷ [])) ++ listing folded b
listing-parts folded a b = ap (listing folded) (sym (append_assoc a (lf ∷ []) b)) ∙ listing-closed folded a b

-- and one cut behind any number of them
pub listing-all-parts : (folded : Bool) (parts : List (List ℕ)) (last : List ℕ)
    → listing folded (flatten (map closed parts) ++ last) ≡ flatten (map (λ a. listing folded (closed a)) parts) ++ listing folded last
unfolding flatten
listing-all-parts folded [] last = refl
listing-all-parts folded (a ∷ parts) last =
    let rest = flatten (map closed parts) in
    rw (append_assoc (closed a) rest last, listing-closed folded a (rest ++ last), listing-all-parts folded parts last) (simp append_assoc)
