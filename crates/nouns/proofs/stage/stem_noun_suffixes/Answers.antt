-- `nouns::stage::stem_noun_suffixes` meets its contract: the lines, from the end of the first n bytes. Assumes nothing.
use native.Mathlib.Omega.{arith}
use Rattle.utf8.proofs.Laws.Behind.{open-start}
use Rattle.keys.proofs.Laws.Sees.{sees-made}
use Rattle.nouns.proofs.Laws.Lines.{noun-stage}
use Rattle.nouns.proofs.stage.stem_noun_suffixes.Goals as goal

pub look_back-s-requires : goal.look_back-s-requires
look_back-s-requires c = open-start c.args.w.now c.args.n c.args.n (omega arith) c.requires

pub first_line-requires : goal.first_line-requires
first_line-requires c = sees-made _ _ c.look_back-s.ensures (open-start c.args.w.now c.args.n c.args.n (omega arith) c.requires)

pub returns : goal.returns
returns c = noun-stage _ _ c.look_back-s.ensures c.first_line.ensures
