-- Snowball's commands as far as turkish.sbl's routines use them here, and what they mean: a state, and one interpreter for both
-- directions of reading. Held against the Rust's environment (snowball_env.rs) and against what its Snowball compiler makes of each
-- command in turkish.rs. To be read so: `cond t a b` is a where t holds, else b; `eqb`, `ltb`, `leb` ask for =, <, ≤; `-` stops at 0;
-- `unfoldable` lets a proof look inside. Assumes nothing.
use Rattle.std.specs.Prelude.{ℕ, zero, suc, ◌+◌, ◌-◌, Bool, true, false, cond, ◌&&◌, List, [], ◌∷◌, ◌++◌, map, reverse, length, take, drop, eqb, ltb, leb}
use Prim.Native.String.{String}
use Rattle.std.proofs.Math.Bool as Bool
use Rattle.encoding.specs.Encoding.{encode_all}
use Rattle.turkish.specs.Letters.{text, from_end, has, starts}

-- ---- the state ----

-- The characters stand in the direction of reading. The cursor is the number of them that are passed: what the Rust saves and
-- restores as `v`, forwards `cursor`, backwards `limit - cursor`, counted in characters where the Rust counts bytes. What stands before
-- limit_backward is not in the text, and ket and bra are places counted from there.
pub record State : Type 0 where
  pub text : List ℕ
  pub cursor : ℕ
  pub ket : ℕ
  pub bra : ℕ
  pub flag : Bool  -- continue_stemming_noun_suffixes
  pub strlen : ℕ
  pub found : ℕ  -- the key that `substring` met, from 1

-- the characters not yet passed
unfoldable pub ahead : State → List ℕ
ahead s = drop s.cursor s.text

-- read backwards, so many stand before the cursor: its place
unfoldable pub place : State → ℕ
place s = length (ahead s)

-- the bytes of the text: the Rust's `limit`, where nothing is set aside
unfoldable pub limit : State → ℕ
limit s = length (encode_all s.text)

-- the same with another cursor, slice, flag, strlen or key found
unfoldable pub move_to : State → ℕ → State
move_to s c = record { text = s.text; cursor = c; ket = s.ket; bra = s.bra; flag = s.flag; strlen = s.strlen; found = s.found }

unfoldable pub with_slice : State → ℕ → ℕ → State
with_slice s k b = record { text = s.text; cursor = s.cursor; ket = k; bra = b; flag = s.flag; strlen = s.strlen; found = s.found }

unfoldable pub with_flag : State → Bool → State
with_flag s f = record { text = s.text; cursor = s.cursor; ket = s.ket; bra = s.bra; flag = f; strlen = s.strlen; found = s.found }

unfoldable pub with_strlen : State → ℕ → State
with_strlen s n = record { text = s.text; cursor = s.cursor; ket = s.ket; bra = s.bra; flag = s.flag; strlen = n; found = s.found }

unfoldable pub with_found : State → ℕ → State
with_found s n = record { text = s.text; cursor = s.cursor; ket = s.ket; bra = s.bra; flag = s.flag; strlen = s.strlen; found = n }

-- ---- results ----

-- a command succeeds or fails; one that fails keeps what it deleted and set
pub data Result : Type 0 where
  done : State → Result
  failed : State → Result

-- on where the first succeeded
unfoldable pub and_then : Result → (State → Result) → Result
and_then (done s) q = q s
and_then (failed s) q = failed s

-- whoever goes on after a failure puts the cursor back
unfoldable pub or_else : ℕ → Result → (State → Result) → Result
or_else c (done s) q = done s
or_else c (failed s) q = q (move_to s c)

-- `test`: the cursor goes back where the command succeeded
unfoldable pub tested : ℕ → Result → Result
tested c (done s) = done (move_to s c)
tested c (failed s) = failed s

-- `not`: failure and success change places
unfoldable pub negated : ℕ → Result → Result
negated c (done s) = failed s
negated c (failed s) = done (move_to s c)

-- a change of the state, whichever way the command went
unfoldable pub either_way : (State → State) → Result → Result
either_way f (done s) = done (f s)
either_way f (failed s) = failed (f s)

-- `do`: success, with the cursor put back
unfoldable pub carried_out : ℕ → Result → Result
carried_out c (done s) = done (move_to s c)
carried_out c (failed s) = done (move_to s c)

-- ---- reading ----

-- so many characters on where the test holds
unfoldable pub read_if : Bool → ℕ → State → Result
read_if b n s = cond b (done (move_to s (s.cursor + n))) (failed s)

-- a character is left (`next`), and it is in the grouping
unfoldable pub is_left : List ℕ → Bool
is_left [] = false
is_left (c ∷ cs) = true

unfoldable pub is_in : List ℕ → List ℕ → Bool
is_in g [] = false
is_in g (c ∷ cs) = has g c

-- a character is left, and it is not in the grouping
unfoldable pub is_outside : List ℕ → List ℕ → Bool
is_outside g [] = false
is_outside g (c ∷ cs) = Bool.not (has g c)

pub data Direction : Type 0 where
  forward : Direction
  backward : Direction

-- letters in the direction of reading
unfoldable pub letters : Direction → String → List ℕ
letters forward s = text s
letters backward s = from_end s

-- a key that the text ahead begins with: its place in the table, from 1, and its length; place 0 where there is none
pub record Key : Type 0 where
  pub number : ℕ
  pub size : ℕ

-- the longer of one, if it fits, and another; the first of equal ones
unfoldable pub longer : Bool → Key → Key → Key
longer b j k = cond (b && Bool.not (ltb j.size k.size)) j k

-- the longest key that fits, the keys being numbered from i
unfoldable pub longest : ℕ → List (List ℕ) → List ℕ → Key
longest i [] cs = record { number = 0; size = 0 }
longest i (k ∷ ks) cs = longer (starts k cs) (record { number = i; size = length k }) (longest (i + 1) ks cs)

-- the longest key of a table ahead, and whether there is one
unfoldable pub key_ahead : Direction → List String → State → Key
key_ahead d keys s = longest 1 (map (letters d) keys) (ahead s)

unfoldable pub fits : Key → Bool
fits k = ltb 0 k.number

-- ---- loops ----

-- `gopast`: the command is tried from here, then one character on, and so on; a failure at the edge. n is at least the turns there are.
unfoldable pub go_past : ℕ → (State → Result) → State → Result
go_past zero f s = failed s
go_past (suc n) f s = or_else s.cursor (f s) (λ t. and_then (read_if (is_left (ahead t)) 1 t) (go_past n f))

-- `atleast`: as often as the command succeeds; a failure where that is less often than wanted. n is at least the turns
-- there are.
unfoldable pub one_turn : ℕ → ℕ → Result → (State → Result) → Result
one_turn wanted c (done s) q = q s
one_turn wanted c (failed s) q = cond (eqb wanted 0) (done (move_to s c)) (failed (move_to s c))

unfoldable pub at_least : ℕ → ℕ → (State → Result) → State → Result
at_least zero wanted f s = failed s
at_least (suc n) wanted f s = one_turn wanted s.cursor (f s) (at_least n (wanted - 1) f)

-- a routine that calls itself, n calls deep at most
unfoldable pub deep : ((State → Result) → State → Result) → ℕ → State → Result
deep body zero s = failed s
deep body (suc n) s = body (deep body n) s

-- ---- the slice, read backwards ----

-- the text from bra to ket becomes the given one (`replace_s`); a cursor at ket or behind it moves along, one inside goes to bra
unfoldable pub place_after : ℕ → ℕ → ℕ → ℕ → ℕ
place_after bra ket n p = cond (leb ket p) (p + n - (ket - bra)) (cond (ltb bra p) bra p)

-- another text, with the cursor at place p
unfoldable pub with_text : State → List ℕ → ℕ → State
with_text s t p = record { text = t; cursor = length t - p; ket = s.ket; bra = s.bra; flag = s.flag; strlen = s.strlen; found = s.found }

-- `<-`, and `delete` where it is nothing
unfoldable pub slice_from : List ℕ → State → State
slice_from cs s =
    let n = length s.text in
    with_text s (take (n - s.ket) s.text ++ cs ++ drop (n - s.bra) s.text) (place_after s.bra s.ket (length cs) (place s))

-- `<+`: at the cursor, whose place stays; ket and bra at it or behind it move along (`insert`)
unfoldable pub shifted : ℕ → ℕ → ℕ → ℕ
shifted p n b = cond (leb p b) (b + n) b

unfoldable pub inserted : List ℕ → State → State
inserted cs s =
    with_slice (with_text s (take s.cursor s.text ++ cs ++ ahead s) (place s))
    (shifted (place s) (length cs) s.ket)
    (shifted (place s) (length cs) s.bra)

-- ---- turning round ----

-- `backwards`: what stands before the cursor is set aside (limit_backward = cursor), the rest is read from its end
unfoldable pub turned : State → State
turned s =
    let c = s.cursor in
    record { text = reverse (ahead s); cursor = 0; ket = s.ket - c; bra = s.bra - c; flag = s.flag; strlen = s.strlen; found = s.found }

-- and afterwards the cursor stands where it stood
unfoldable pub turned_back : List ℕ → State → State
turned_back front s =
    let c = length front in
    record { text = front ++ reverse s.text; cursor = c; ket = s.ket + c; bra = s.bra + c; flag = s.flag; strlen = s.strlen; found = s.found }

-- ---- commands and their meaning ----

infix 40 <-◌
infix 40 <+◌
infixr 35 ◌or◌
infixr 30 ◌then◌
pub data Command : Type 0 where
  define : String → Command → Command  -- a routine, by its name: its commands
  ◌then◌ : Command → Command → Command  -- one after the other, which turkish.sbl writes without a word
  ◌or◌ : Command → Command → Command  -- it binds tighter, as in Snowball
  test : Command → Command
  not : Command → Command
  try : Command → Command
  «do» : Command → Command
  goto : Command → Command
  gopast : Command → Command
  atleast : ℕ → Command → Command
  backwards : Command → Command
  succeed : Command  -- turkish.sbl's `true`
  next : Command
  literal : String → Command
  grouping : String → Command  -- a character of the grouping
  outside : String → Command  -- one that is not of it: turkish.sbl's `non-` before the grouping's name
  among : List String → Command  -- the longest key
  substring : List String → Command  -- the same, and its place in the table is kept
  case : ℕ → Command → Command  -- where that is its place
  ⟦ : Command  -- turkish.sbl's `[` and `]`, read backwards
  ⟧ : Command
  delete : Command
  <-◌ : String → Command
  <+◌ : String → Command
  set : Command  -- of continue_stemming_noun_suffixes
  unset : Command
  is_set : Command  -- whether it is set
  strlen= : ℕ → Command  -- `$strlen = n`
  strlen==limit : Command
  routine : Command → Command  -- a routine that calls itself
  itself : Command  -- and its call inside it

-- the turns of a loop, and the calls of a routine inside itself, that the characters ahead leave room for
unfoldable pub enough : State → ℕ
enough s = suc (length (ahead s))

-- what a command does, read in a direction, inside a routine whose call is `self`
unfoldable pub run : Direction → (State → Result) → Command → State → Result
run d self (define n p) s = run d self p s
run d self (p then q) s = and_then (run d self p s) (run d self q)
run d self (p or q) s = or_else s.cursor (run d self p s) (run d self q)
run d self (test p) s = tested s.cursor (run d self p s)
run d self (not p) s = negated s.cursor (run d self p s)
run d self (try p) s = or_else s.cursor (run d self p s) done
run d self («do» p) s = carried_out s.cursor (run d self p s)
run d self (goto p) s = go_past (enough s) (λ t. tested t.cursor (run d self p t)) s
run d self (gopast p) s = go_past (enough s) (run d self p) s
run d self (atleast n p) s = at_least (enough s) n (run d self p) s
run d self (backwards p) s = either_way (turned_back (take s.cursor s.text)) (run backward self p (turned s))
run d self succeed s = done s
run d self next s = read_if (is_left (ahead s)) 1 s
run d self (literal l) s = read_if (starts (letters d l) (ahead s)) (length (letters d l)) s
run d self (grouping g) s = read_if (is_in (text g) (ahead s)) 1 s
run d self (outside g) s = read_if (is_outside (text g) (ahead s)) 1 s
run d self (among ks) s = let k = key_ahead d ks s in read_if (fits k) k.size s
run d self (substring ks) s = let k = key_ahead d ks s in read_if (fits k) k.size (with_found s k.number)
run d self (case n p) s = cond (eqb s.found n) (run d self p s) (done s)
run d self ⟦ s = done (with_slice s (place s) s.bra)
run d self ⟧ s = done (with_slice s s.ket (place s))
run d self delete s = done (slice_from [] s)
run d self (<- l) s = done (slice_from (letters d l) s)
run d self (<+ l) s = done (inserted (letters d l) s)
run d self set s = done (with_flag s true)
run d self unset s = done (with_flag s false)
run d self is_set s = cond s.flag (done s) (failed s)
run d self (strlen= n) s = done (with_strlen s n)
run d self strlen==limit s = cond (eqb s.strlen (limit s)) (done s) (failed s)
run d self (routine p) s = deep (λ again. run d again p) (enough s) s
run d self itself s = self s
