-- `writing::letter::Letter::of` meets its contract. Assumes nothing.
use Rattle.writing.proofs.Laws.Letter.{letter_of-one, letter_of-two}
use Rattle.writing.proofs.letter.Letter.of.Goals as goal

pub returns-then-ch-lt128 : goal.returns-then-ch-lt128
returns-then-ch-lt128 c = letter_of-one _ c.if-ch-lt128.true

pub returns : goal.returns
returns c = letter_of-two _ c.if-ch-lt128.false
