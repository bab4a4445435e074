-- The terms of document 01, "Words of demand 3": a word's end and front, fronts that agree in their vowels, the text that reaches
-- the postlude, and the pass's result with its three further answers. Assumes nothing.
use Rattle.std.specs.Prelude.{ℕ, ◌≡◌, Bool, true, false, ◌&&◌, ◌||◌, List, [], ◌∷◌, map, length, take, drop, leb}
use Prim.Native.String.{String}
use Rattle.encoding.specs.Encoding.{encode_all}
use Rattle.utf8.specs.Characters.{back}
use Rattle.utf8.specs.Steps.{same}
use Rattle.turkish.specs.Letters.{text, from_end, has}
use Rattle.turkish.specs.Vowels.{vowel, last_vowel_of, before_last_vowel}
use Rattle.turkish.specs.Answers.{syllable_check, suffix_stage}
use Rattle.turkish.specs.WordPass.{Passed}
use Rattle.turkish.specs.Calls.{chars, accepted, pass_call, pass_out}

-- the characters of a shared end
unfoldable pub end_length : ℕ
end_length = 16

-- the most characters that the suffix stage removes
unfoldable pub most_removed : ℕ
most_removed = 15

-- a word with fewer characters belongs to no pair
unfoldable pub long : List ℕ → Bool
long w = leb end_length (length (chars w))

-- the front: all that stands before the last 16 characters; the end: those
unfoldable pub front : List ℕ → List ℕ
front w = take (back w (length w) end_length) w

unfoldable pub end : List ℕ → List ℕ
end w = drop (back w (length w) end_length) w

-- two fronts, as characters, agree in their last vowel, or both have none, and in the set of the vowels before it
pub record Alike (f g : List ℕ) : Type 0 where
  pub last : last_vowel_of f ≡ last_vowel_of g
  pub others : (v : ℕ) → vowel v ≡ true → has (before_last_vowel f) v ≡ has (before_last_vowel g) v

-- two words of demand 3: accepted, long, one end for both, fronts alike
pub record Pair (u v : List ℕ) : Type 0 where
  pub accepts : (accepted u ≡ true) × (accepted v ≡ true)
  pub longs : (long u ≡ true) × (long v ≡ true)
  pub ends : end u ≡ end v
  pub fronts : Alike (chars (front u)) (chars (front v))

-- a text is one of those listed
unfoldable pub one_of : List (List ℕ) → List ℕ → Bool
one_of [] w = false
one_of (x ∷ xs) w = same w x || one_of xs w

-- of a word's characters the text that reaches the postlude is `ad` or `soyad`
unfoldable pub reaches_reserved : List ℕ → Bool
reaches_reserved cs = syllable_check cs && (suffix_stage cs).flag && one_of (map from_end ("ad" ∷ "soyad" ∷ [])) (suffix_stage cs).text

-- what a call of the pass gives: its result, the output's bytes below the length that it gives, and the three further answers
unfoldable pub pass_gives : List ℕ → List ℕ → Passed
pass_gives w out =
    let a = pass_call w (length out) in
    record { text = take a.length (pass_out w out); syllable = a.syllable; yes = a.yes; flag = a.flag }

-- the three further answers are equal
pub record SameAnswers (p q : Passed) : Type 0 where
  pub syllable : p.syllable ≡ q.syllable
  pub yes : p.yes ≡ q.yes
  pub flag : p.flag ≡ q.flag

-- the words of which the stage leaves nothing
unfoldable pub left_empty : List (List ℕ)
left_empty = map (λ (s : String). encode_all (text s)) ("" ∷ "siniz" ∷ "sunuz" ∷ "sınız" ∷ "sünüz" ∷ [])
