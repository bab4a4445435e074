-- The suffix stage's commands in the simple form, and their one interpreter: a command reads the characters before the cursor and
-- answers how many it takes, or that it fails. Assumes nothing.
use Rattle.std.specs.Prelude.{ℕ, ◌+◌, Bool, true, false, cond, not, ◌&&◌, ◌||◌, List, [], ◌∷◌, length, drop}
use Rattle.turkish.specs.Letters.{has, starts}
use Rattle.turkish.specs.Vowels.{vowel}
use Rattle.theorems.specs.Simple.Harmony.{harmony}

-- a command's answer: it fails, or takes so many characters and leaves `continue_stemming_noun_suffixes` (the flag) so
pub data Out : Type 0 where
  fail : Out
  took : ℕ → Bool → Out

-- one command, then another on what is left of it; the flag is down where either took it down
unfoldable pub more : ℕ → Bool → Out → Out
more k f fail = fail
more k f (took j g) = took (k + j) (f && g)

unfoldable pub after : Out → (ℕ → Out) → Out
after fail q = fail
after (took k f) q = more k f (q k)

-- the first that does not fail
unfoldable pub first : Out → Out → Out
first fail q = q
first (took k f) q = took k f

-- a test before a command
unfoldable pub asking : Bool → Out → Out
asking true q = q
asking false q = fail

-- the characters as far as a key goes, from the table's first key that ends the text
unfoldable pub among : List (List ℕ) → List ℕ → Out
among [] cs = fail
among (k ∷ ks) cs = cond (starts k cs) (took (length k) true) (among ks cs)

-- what joins a key to the text before it, an optional letter: whether there is one, the letters of which it may be, and whether a vowel
-- must stand before it or a character that is none
pub record Joint : Type 0 where
  pub asked : Bool
  pub letters : List ℕ
  pub vowelled : Bool

-- the second character back must be a vowel, or where none is asked for a character that is none; the first is taken where it is one of
-- the letters
unfoldable pub optional : List ℕ → Bool → List ℕ → Out
optional letters vowelled [] = fail
optional letters vowelled (c ∷ []) = fail
optional letters vowelled (c ∷ d ∷ cs) = cond (cond vowelled (vowel d) (not (vowel d))) (took (cond (has letters c) 1 0) true) fail

unfoldable pub joining : Joint → List ℕ → Out
joining j cs = cond j.asked (optional j.letters j.vowelled cs) (took 0 true)

-- a mark: its number, 1 to 12 in the order of document 01's mark tables with yken last, 0 for one of the noun stage; whether it tests harmony, its keys from their
-- ends, and what joins a key to the text before it
pub record Mark : Type 0 where
  pub kind : ℕ
  pub harmonic : Bool
  pub keys : List (List ℕ)
  pub joint : Joint

-- the mark routines' common form: harmony is tested before the key, the joint after it
unfoldable pub mark_of : Mark → List ℕ → Out
mark_of m cs =
    asking (not m.harmonic || harmony cs)
    (after (among m.keys cs) (λ k. joining m.joint (drop k cs)))

-- a mark; one after the other; the first of two that fits; nothing; and `unset` of the flag. A deletion stands nowhere: nothing that
-- follows one can fail, so all that a branch takes is deleted.
-- `then` binds tighter here, `or` in Snowball
infixr 35 ◌then◌
infixr 30 ◌or◌
pub data Command : Type 0 where
  mark : Mark → Command
  ◌then◌ : Command → Command → Command
  ◌or◌ : Command → Command → Command
  nothing : Command
  unset : Command

unfoldable pub try : Command → Command
try p = p or nothing

unfoldable pub run : Command → List ℕ → Out
run (mark m) cs = mark_of m cs
run (p then q) cs = after (run p cs) (λ k. run q (drop k cs))
run (p or q) cs = first (run p cs) (run q cs)
run nothing cs = took 0 true
run unset cs = took 0 false
