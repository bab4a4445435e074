-- `writing::put::put_all` meets its contract: its first and its last block are the text where they leave no byte between them.
-- Assumes nothing.
use mathlib.Core.Path.{refl}
use native.Mathlib.Omega.{arith}
use lib.Seq.{take-length}
use Rattle.writing.proofs.Laws.Put.{put-ends}
use Rattle.writing.proofs.put.put_all.Goals as goal

pub returns-then-n : goal.returns-then-n
returns-then-n c = record {
  value = refl;
  out_after = put-ends _ 16 c.args.s.now _ (omega arith) (omega arith) c.requires c.put_bytes.ensures.out_after c.put_bytes-then-n.ensures.out_after;
}

pub returns : goal.returns
returns c = record { value = c.put_bytes-2.ensures.value; out_after = cc (take-length c.args.s.now) }
