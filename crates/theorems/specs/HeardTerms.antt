-- The terms of the theorems on the vowels that harmony found (document 02, request 5): a word's two vowels, the first piece that tests harmony,
-- and the key that has the last vowel. Assumes nothing.
use Rattle.std.specs.Prelude.{ℕ, ◌≤◌, ◌≡◌, Bool, true, false, length}
use mathlib.Core.List.{List, [], ◌∷◌, ◌++◌, map, Memᴰ}
use Rattle.encoding.specs.Encoding.{encode_all}
use Rattle.turkish.specs.Letters.{any, has, starts}
use Rattle.turkish.specs.Vowels.{vowel, last_vowel_of}
use Rattle.turkish.specs.PieceCalls.{Span}
use Rattle.theorems.specs.Simple.Harmony.{to_first}
use Rattle.theorems.specs.Simple.Harmony as Harmony
use Rattle.theorems.specs.Simple.Grammar.{Mark}
use Rattle.theorems.specs.Simple.Marks.{yUm, sUn, yUz, sUnUz, lAr, nUz, DUr, cAsInA, yDU, ysA, ymUs, yken}
use Rattle.theorems.specs.Simple.NounMarks.{possessives, sU, lArI, yU, nU, nUn, yA, nA, DA, ndA, DAn, ndAn, ylA, ki, ncA}

-- a word's two vowels before the end of a mark: in reading order the word falls into a front, the partner, what stands between, the last
-- vowel, what follows it up to that end, and the rest; the offsets are where the two start and the mark ends, no vowel follows the last one
-- up to there, none between is a partner of it, and the word is a loan candidate exactly where some vowel stands between
pub record TwoVowels (w : List ℕ) (last partner end : ℕ) (loan : Bool) : Type 0 where
  pub front : List ℕ
  pub first : ℕ
  pub between : List ℕ
  pub second : ℕ
  pub tail : List ℕ
  pub rest : List ℕ
  pub spelled : w ≡ encode_all (front ++ first ∷ (between ++ second ∷ (tail ++ rest)))
  pub partner-starts : partner ≡ length (encode_all front)
  pub last-starts : last ≡ length (encode_all (front ++ first ∷ between))
  pub tail-ends : end ≡ length (encode_all (front ++ first ∷ (between ++ second ∷ tail)))
  pub is-vowel : vowel second ≡ true
  pub none-follows : any vowel tail ≡ false
  pub is-partner : Harmony.partner second first ≡ true
  pub none_between : any (Harmony.partner second) between ≡ false
  pub candidate : loan ≡ any vowel between

-- the kinds whose marks test harmony: all but sUnUz, cAsInA, ysA and yken
unfoldable pub tests_harmony : ℕ → Bool
tests_harmony k = has (1 ∷ 2 ∷ 3 ∷ 5 ∷ 6 ∷ 7 ∷ 9 ∷ 11 ∷ []) k

-- the endings none of whose pieces does: no ending, and sUnUz, ysA or yken alone, told by their kinds
abbrev pub untested_endings : List (List ℕ)
untested_endings = [] ∷ (4 ∷ []) ∷ (10 ∷ []) ∷ (12 ∷ []) ∷ []

-- the kinds of some pieces
abbrev pub kinds : List Span → List ℕ
kinds ps = map (λ (p : Span). p.kind) ps

-- of some pieces the first that tests harmony, in which a byte lies
pub record FirstHarmonic (ps : List Span) (byte : ℕ) : Type 0 where
  pub before : List Span
  pub it : Span
  pub behind : List Span
  pub pieces : ps ≡ before ++ it ∷ behind
  pub untested : any tests_harmony (kinds before) ≡ false
  pub tested : tests_harmony it.kind ≡ true
  pub begins : it.first ≤ byte
  pub ends : byte ≤ it.last

-- the 27 marks: twelve of the suffix stage, and fifteen of the noun stage besides lAr
unfoldable pub all_marks : List Mark
all_marks =
    yUm ∷ sUn ∷ yUz ∷ sUnUz ∷ lAr ∷ nUz ∷ DUr ∷ cAsInA ∷ yDU ∷ ysA ∷ ymUs ∷ yken
    ∷ possessives ∷ sU ∷ lArI ∷ yU ∷ nU ∷ nUn ∷ yA ∷ nA ∷ DA ∷ ndA ∷ DAn ∷ ndAn ∷ ylA ∷ ki ∷ ncA ∷ []

-- of a mark's keys the one that ends a text, within what was taken of it: the text's last vowel is the key's own
pub record KeyVowel (keys : List (List ℕ)) (cs : List ℕ) (taken : ℕ) : Type 0 where
  pub key : List ℕ
  pub one : Memᴰ key keys
  pub ends : starts key cs ≡ true
  pub key-taken : length key ≤ taken
  pub has-vowel : any vowel key ≡ true
  pub its-vowel : last_vowel_of cs ≡ last_vowel_of key
  pub vowel-in-key : to_first vowel cs ≤ length key
