-- The file to open first: what the listing promises, in the words of document 01's section "stemlist". Each theorem is proved in a line
-- from the files named for what they prove. That the code gives these definitions' answers is the contracts' part. Assumes nothing.
use Prim.Native.Nat.{ℕ, ◌-◌, ◌≤◌, ◌<◌}
use mathlib.Core.Path.{◌≡◌, ap}
use mathlib.Core.Bool.{Bool, true, false}
use mathlib.Core.List.{List, [], ◌∷◌, ◌++◌, flatten, map}
use lib.ListN.{length, take, drop}
use Rattle.encoding.specs.Encoding.{encode_all}
use Rattle.encoding.specs.Validity.{is_text}
use Rattle.turkish.specs.Letters.{text, tab, lf, has}
use Rattle.turkish.specs.Calls.{limit, accepted, fold_text}
use Rattle.lines.specs.Line.{fields, list_line}
use Rattle.lines.specs.Listed.{listed}
use Rattle.listing.specs.Listing.{listing}
use Rattle.lines.specs.Room.{line_room}
use Rattle.listing.specs.Fed.{feeding}
use Rattle.listing.specs.Blocks.{fed_all, Call, taken_by, written_by}
use Rattle.listing.proofs.Lines as Lines
use Rattle.listing.proofs.Example.{example-lines}
use Rattle.listing.proofs.Blocks.{blocks-listing}
use Rattle.listing.proofs.Calls.{written_by-listing}
use Rattle.listing.proofs.Parts.{closed, listing-parts, listing-all-parts}
use Rattle.lines.proofs.Laws.LineText.{list_line-size}
use Rattle.lines.proofs.Laws.Listed.{listed_plain, listed-folded, listed-refused}
use Rattle.listing.proofs.Laws.OneCall.{feeding-call}

-- ---- words ended by LF ----

-- a word ended by LF gives one line, and then comes the listing of what follows it
pub one-line-a-word : (folded : Bool) (w rest : List ℕ) → has w lf ≡ false
    → listing folded (w ++ (lf ∷ rest)) ≡ list_line (listed folded w) ++ listing folded rest
one-line-a-word = Lines.listing-line

-- a last line without LF counts if it is not empty
pub last-line-counts : (folded : Bool) (b : ℕ) (w : List ℕ) → has (b ∷ w) lf ≡ false → listing folded (b ∷ w) ≡ list_line (listed folded (b ∷ w))
last-line-counts = Lines.listing-last

-- an empty input gives nothing
pub empty-input-empty : (folded : Bool) → listing folded [] ≡ []
empty-input-empty = Lines.listing-nothing

-- ---- as they stand or folded ----

-- where folded forms are not asked for, each word is listed as it stands
pub plain-line : (w : List ℕ) → listed false w ≡ w
plain-line = listed_plain

-- asked for folded forms, the listing of a word is that of its folded text, where the word is accepted; another word is refused as it
-- stands
pub folded-line : (w : List ℕ)
    → (accepted w ≡ true → list_line (listed true w) ≡ list_line (fold_text w)) × (accepted w ≡ false → list_line (listed true w) ≡ list_line w)
folded-line w = (λ a. ap list_line (listed-folded w a), λ r. ap list_line (listed-refused true w r))

-- ---- the line of a word ----

-- word, syllable check, stage, flag, kept text, pass result and the whole run's text, where the word is accepted and has no tab
pub accepted-line : (w : List ℕ) → accepted w ≡ true → has w tab ≡ false → list_line w ≡ fields w
accepted-line = Lines.list_line-accepted

-- a refused line is `!`, one tab and the number, and nothing of the word: over the limit, not UTF-8, a tab
pub refused-lines : (w : List ℕ)
    → (limit < length w → list_line w ≡ text "!\t1\n")
    × (length w ≤ limit → is_text w ≡ false → list_line w ≡ text "!\t2\n")
    × (accepted w ≡ true → has w tab ≡ true → list_line w ≡ text "!\t4\n")
refused-lines w = (Lines.list_line-over w, Lines.list_line-not-text w, Lines.list_line-tab w)

-- the input lines `evler` and `siniz` give document 01's two lines, each with the whole run's text for its last field
pub evler-siniz : listing false (text "evler\nsiniz\n") ≡ text "evler\tY\tY\t0\tev\tev\tev\nsiniz\tY\tY\t1\t\t\t\n"
evler-siniz = example-lines.0

-- asked for folded forms, two headings give the lines of their folded texts, and one with a tab is refused
pub headings-listed : listing true (encode_all (text "IŞIKLAR\nİZLERDİR\nA\tB\n")) ≡ encode_all (text "ışıklar\tY\tY\t0\tışık\tışık\tışık\nizlerdir\tY\tY\t1\tizler\tizler\tiz\n!\t4\n")
headings-listed = example-lines.1

-- any line fits the room for one
pub lines-fit : (w : List ℕ) → length (list_line w) ≤ line_room
lines-fit = list_line-size

-- ---- a stream in blocks ----

-- a stream cut into any blocks gives the listing of the whole
pub any-blocks : (folded : Bool) (blocks : List (List ℕ)) → fed_all folded [] blocks ≡ listing folded (flatten blocks)
any-blocks = blocks-listing

-- whatever calls of `feed` are made, with whatever outputs, they write the listing of what they take, `finish` closing it
pub any-calls : (folded : Bool) (calls : List Call) → written_by folded calls [] ≡ listing folded (flatten (taken_by folded calls []))
any-calls = written_by-listing

module _ (folded : Bool) (block : List ℕ) (from : ℕ) (held out : List ℕ) where
  -- where a line has room in the output a call takes something of what is left of its block
  pub calls-go-on : line_room ≤ length out → from < length block → from < (feeding folded block from held out).used
  calls-go-on r k = (feeding-call folded block from held out).used-more k r

  -- and it skips nothing: what it takes and what it leaves for the next call make up the block
  pub calls-skip-nothing : let s = feeding folded block from held out in drop from block ≡ take (s.used - from) (drop from block) ++ drop s.used block
  calls-skip-nothing = (feeding-call folded block from held out).parts

-- a list cut behind a line feed may be listed in parts: the listing of both together is the listings one after the other
pub any-parts : (folded : Bool) (a b : List ℕ) → listing folded (a ++ (lf ∷ b)) ≡ listing folded (a ++ (lf ∷ [])) ++ listing folded b
any-parts = listing-parts

-- so may one cut into any number of such parts: `closed` is a list with a line feed behind it, and the last part need not end in one
pub any-number-of-parts : (folded : Bool) (parts : List (List ℕ)) (last : List ℕ)
    → listing folded (flatten (map closed parts) ++ last) ≡ flatten (map (λ a. listing folded (closed a)) parts) ++ listing folded last
any-number-of-parts = listing-all-parts
