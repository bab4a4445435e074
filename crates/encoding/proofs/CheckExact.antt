-- The UTF-8 check accepts exactly the encodings of scalar values: no surrogate, nothing above U+10FFFF.
-- Assumes nothing.
use Prim.Native.Nat.{ℕ, ◌<◌}
use mathlib.Core.Path.{◌≡◌, refl, sym, ap, ◌∙◌}
use mathlib.Core.Bool.{Bool, true, false, ◌&&◌, and-true, and_assoc}
use mathlib.Core.List.{List, [], ◌∷◌, ◌++◌, append_assoc, append-nil}
use mathlib.Core.Logic.{◌↔◌}
use Rattle.encoding.specs.Scalar.{surrogate, scalar, scalars}
use Rattle.encoding.specs.Encoding.{encode, encode_all}
use Rattle.encoding.specs.Text.{TextOf}
use Rattle.encoding.specs.Validity.{due, accepts, is_text}
use Rattle.encoding.proofs.Laws.Scalar.{surrogate-not-scalar, above-not-scalar}
use Rattle.encoding.proofs.Laws.CheckEncoded.{is_text-encode}
use Rattle.encoding.proofs.Laws.CheckAccepted.{is_text-encoded}

-- the check on an encoding and what follows says whether all its characters are scalar values and what follows is text
pub is_text-encode_all-append : (cs rest : List ℕ) → is_text (encode_all cs ++ rest) ≡ scalars cs && is_text rest
unfolding encode_all scalars
is_text-encode_all-append [] rest = refl
is_text-encode_all-append (c ∷ cs) rest =
    ap is_text (append_assoc (encode c) (encode_all cs) rest) ∙ is_text-encode c (encode_all cs ++ rest)
    ∙ ap (λ (t : Bool). scalar c && t) (is_text-encode_all-append cs rest) ∙ sym (and_assoc (scalar c) (scalars cs) (is_text rest))

-- the check on an encoding says whether all its characters are scalar values
pub is_text-encode_all : (cs : List ℕ) → is_text (encode_all cs) ≡ scalars cs
unfolding is_text accepts due
is_text-encode_all cs = ap is_text (sym (append-nil (encode_all cs))) ∙ is_text-encode_all-append cs [] ∙ and-true (scalars cs)

-- the encoding of scalar values is accepted
pub encodes-is_text : (cs : List ℕ) → scalars cs ≡ true → is_text (encode_all cs) ≡ true
encodes-is_text cs e = is_text-encode_all cs ∙ e

-- what is accepted is the encoding of scalar values
pub is_text-encodes : (w : List ℕ) → is_text w ≡ true → TextOf w
is_text-encodes w e =
    let t = is_text-encoded w e in
    record { chars = t.0; valid = sym (is_text-encode_all t.0) ∙ ap is_text t.1 ∙ e; encoded = t.1 }

-- the check accepts exactly the texts
pub is_text-iff : (w : List ℕ) → (is_text w ≡ true) ↔ TextOf w
is_text-iff w = (is_text-encodes w, λ t. ap is_text (sym t.encoded) ∙ encodes-is_text t.chars t.valid)

-- no surrogate passes, whatever follows its three bytes
pub surrogate-refused : (c : ℕ) (rest : List ℕ) → surrogate c ≡ true → is_text (encode c ++ rest) ≡ false
surrogate-refused c rest e = is_text-encode c rest ∙ rw (surrogate-not-scalar c e)

-- nothing above U+10FFFF passes, whatever follows
pub above-refused : (c : ℕ) (rest : List ℕ) → 0x10FFFF < c → is_text (encode c ++ rest) ≡ false
above-refused c rest h = is_text-encode c rest ∙ rw (above-not-scalar c h)
