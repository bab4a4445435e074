-- The pieces of an ending (document 02, request 1): the marks that a command keeps on the way that it takes, each with what its harmony test
-- found (request 5); one more reading of the same commands, which asks `run` which way that is. Assumes nothing.
use Rattle.std.specs.Prelude.{ℕ, ◌+◌, ◌-◌, cond, List, [], ◌∷◌, ◌++◌, map, eqb, ltb}
use Prim.Native.String.{String}
use Rattle.utf8.specs.Steps.{same}
use Rattle.turkish.specs.Letters.{text}
use Rattle.turkish.specs.Snowball.{State, place, move_to, Result, done, failed, Direction, backward, Command, define, ◌then◌, ◌or◌, test, not, try, «do», goto, gopast, atleast}
use Rattle.turkish.specs.Snowball.{backwards, succeed, next, literal, grouping, outside, among, substring, case, ⟦, ⟧, delete, <-◌, <+◌, set, unset, is_set, strlen=}
use Rattle.turkish.specs.Snowball.{strlen==limit, routine, itself, run}
use Rattle.turkish.specs.Source.{stem_nominal_verb_suffixes}
use Rattle.turkish.specs.Answers.{entered}
use Rattle.turkish.specs.Heard.{Heard, unheard, heard, or_heard}

-- ---- the marks by number ----

-- the kinds' names in the order of document 01's mark tables, yken last; the routines have `mark_` before them
unfoldable pub kind_names : List String
kind_names = "yUm" ∷ "sUn" ∷ "yUz" ∷ "sUnUz" ∷ "lAr" ∷ "nUz" ∷ "DUr" ∷ "cAsInA" ∷ "yDU" ∷ "ysA" ∷ "ymUs_" ∷ "yken" ∷ []

-- a text's place in a list, counted from i; 0 where it is not there
unfoldable pub number_from : ℕ → List (List ℕ) → List ℕ → ℕ
number_from i [] t = 0
number_from i (m ∷ ms) t = cond (same m t) i (number_from (i + 1) ms t)

-- a routine's kind, 1 to 12; 0 where it is no mark
unfoldable pub kind_of : String → ℕ
kind_of n = number_from 1 (map (λ (m : String). text "mark_" ++ text m) kind_names) (text n)

-- a kind's name, the names being counted from i
unfoldable pub name_from : ℕ → List String → ℕ → List ℕ
name_from i [] k = []
name_from i (m ∷ ms) k = cond (eqb k i) (text m) (name_from (i + 1) ms k)

unfoldable pub kind_name : ℕ → List ℕ
kind_name k = name_from 1 kind_names k

-- ---- what is kept ----

-- how a mark joined: with a y, or after a vowel and one character; alone where it asks for no optional y
pub data Joined : Type 0 where
  alone : Joined
  with_y : Joined
  after_vowel : Joined

-- a mark kept: its kind, how it joined, what its harmony test found, and the places at which it was entered and left. A place is the number
-- of characters before the cursor, so the piece has the characters from `to` up to `from`.
pub record Kept : Type 0 where
  pub kind : ℕ
  pub joined : Joined
  pub heard : Heard
  pub from : ℕ
  pub to : ℕ

-- what a command was seen to do on the way that it took: the joint that it found, the places of the characters at which `goto` stopped, and
-- the marks that it kept, all in order of running
pub record Reading : Type 0 where
  pub joined : Joined
  pub stops : List ℕ
  pub kept : List Kept

unfoldable pub blank : Reading
blank = record { joined = alone; stops = []; kept = [] }

-- ---- one command, then another ----

-- the first joint found
unfoldable pub or_joined : Joined → Joined → Joined
or_joined alone k = k
or_joined with_y k = with_y
or_joined after_vowel k = after_vowel

unfoldable pub read_then : Reading → Reading → Reading
read_then a b = record { joined = or_joined a.joined b.joined; stops = a.stops ++ b.stops; kept = a.kept ++ b.kept }

-- on where the first succeeded
unfoldable pub read_after : Result → Reading → (State → Reading) → Reading
read_after (done t) a f = read_then a (f t)
read_after (failed t) a f = blank

-- the first, or the second where the first failed
unfoldable pub read_or : ℕ → Result → Reading → (State → Reading) → Reading
read_or c (done t) a f = a
read_or c (failed t) a f = f (move_to t c)

-- `goto`, read backwards, stops behind a character, whose place is one less than the cursor's
unfoldable pub stopped_at : Result → Reading
stopped_at (done t) = record { joined = alone; stops = (place t - 1) ∷ []; kept = [] }
stopped_at (failed t) = blank

-- ---- routines ----

-- check_vowel_harmony stops twice: at the last vowel (line 114) and at its nearest partner (lines 116 to 123); nothing else in a mark does
unfoldable pub heard_by : List ℕ → Heard
heard_by [] = unheard
heard_by (last ∷ []) = unheard
heard_by (last ∷ partner ∷ stops) = heard last partner

-- the optional y's routine joins with a y where it takes one
unfoldable pub joint_of : State → State → Joined
joint_of s t = cond (ltb s.cursor t.cursor) with_y after_vowel

-- a mark keeps itself, as one piece
unfoldable pub one_mark : ℕ → State → State → Reading → Reading
one_mark k s t a =
    let mark : Kept = record { kind = k; joined = a.joined; heard = heard_by a.stops; from = place s; to = place t } in
    record { joined = alone; stops = []; kept = mark ∷ [] }

-- any other routine keeps what its commands keep; one that fails keeps nothing
unfoldable pub read_in : String → State → Result → Reading → Reading
read_in n s (done t) a =
    cond (same (text "mark_suffix_with_optional_y_consonant") (text n)) (record { joined = joint_of s t; stops = []; kept = [] })
    (cond (eqb (kind_of n) 0) a (one_mark (kind_of n) s t a))
read_in n s (failed t) a = blank

-- ---- the reading ----

-- what a command keeps, read in a direction, inside a routine whose call is `self`. Only the reading of a success counts: what fails is
-- thrown away by whoever goes on, and by its routine.
unfoldable pub reading : Direction → (State → Result) → Command → State → Reading
reading d self (define n p) s = read_in n s (run d self p s) (reading d self p s)
reading d self (p then q) s = read_after (run d self p s) (reading d self p s) (reading d self q)
reading d self (p or q) s = read_or s.cursor (run d self p s) (reading d self p s) (reading d self q)
reading d self (try p) s = read_or s.cursor (run d self p s) (reading d self p s) (λ t. blank)
reading d self (test p) s = reading d self p s
reading d self (goto p) s = stopped_at (run d self (goto p) s)
-- the suffix stage has no mark, and no harmony test, inside any of the others
reading d self (not p) s = blank
reading d self («do» p) s = blank
reading d self (gopast p) s = blank
reading d self (atleast n p) s = blank
reading d self (backwards p) s = blank
reading d self succeed s = blank
reading d self next s = blank
reading d self (literal l) s = blank
reading d self (grouping g) s = blank
reading d self (outside g) s = blank
reading d self (among ks) s = blank
reading d self (substring ks) s = blank
reading d self (case n p) s = blank
reading d self ⟦ s = blank
reading d self ⟧ s = blank
reading d self delete s = blank
reading d self (<- l) s = blank
reading d self (<+ l) s = blank
reading d self set s = blank
reading d self unset s = blank
reading d self is_set s = blank
reading d self (strlen= n) s = blank
reading d self strlen==limit s = blank
reading d self (routine p) s = blank
reading d self itself s = blank

-- the marks that the suffix stage keeps of a word, whose characters stand the last one first; none where it answers no
unfoldable pub kept_marks : List ℕ → List Kept
kept_marks cs = (reading backward failed stem_nominal_verb_suffixes (entered cs)).kept

-- what the first of them found that tests harmony
unfoldable pub first_heard : List Kept → Heard
first_heard [] = unheard
first_heard (k ∷ ks) = or_heard k.heard (first_heard ks)

unfoldable pub stage_heard : List ℕ → Heard
stage_heard cs = first_heard (kept_marks cs)
