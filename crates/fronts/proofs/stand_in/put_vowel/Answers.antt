-- `fronts::stand_in::put_vowel` meets its contract: the bytes written are the vowel's, and they fit. Assumes nothing.
use mathlib.Core.Path.{sym, ◌∙◌}
use native.Mathlib.Omega.{arith}
use Rattle.vowels.specs.Vowel.{most_vowel_bytes}
use Rattle.writing.proofs.Laws.Put.{put-equal}
use Rattle.writing.proofs.Laws.Letter.{bytes_of-two}
use Rattle.fronts.proofs.Laws.StandIn.{numbered-none, numbered-short, numbered-written}
use Rattle.fronts.proofs.stand_in.put_vowel.Goals as goal

pub returns-in_default : goal.returns-in_default
returns-in_default c =
    let p = numbered-none c.args.number c.args.at c.args.out.now (sym c.numbered.ensures ∙ c.in_default.is) in
    record { value = p.0; out_after = p.1 }

pub of-requires : goal.of-requires
of-requires c = numbered-short c.args.number _ (sym c.numbered.ensures ∙ c.in-Some.is)

pub put-requires : goal.put-requires
unfolding most_vowel_bytes
put-requires c = omega (arith, c.requires, bytes_of-two c.of.result)

pub returns : goal.returns
returns c =
    let same = numbered-written c.args.number _ (sym c.numbered.ensures ∙ c.in-Some.is) c.of.ensures in
    let p = put-equal c.args.at c.args.out.now same (c.put.ensures.value, c.put.ensures.out_after) in
    record { value = p.0; out_after = p.1 }
