-- What C gets of each call's result: the papers' number, 0 where the call is not refused, and its values; where it is refused 0 and no
-- elsewhere. Assumes nothing.
use Rattle.std.specs.Prelude.{ℕ, Bool, true, false, Option, Some, None, Result, Ok, Err}
use Rattle.turkish.specs.declared.refusal.Refusal.{Refusal}
use Rattle.turkish.specs.declared.reply.Harmony.{Harmony}
use Rattle.turkish.specs.declared.reply.Stage.{Stage}
use Rattle.turkish.specs.declared.reply.Text.{Text}
use Rattle.turkish.specs.declared.reply.Pass.{Pass}
use Rattle.turkish.specs.declared.reply.Pieces.{Pieces}
use Rattle.turkish.specs.declared.answer.SyllableAnswer.{SyllableAnswer}
use Rattle.turkish.specs.declared.answer.StageAnswer.{StageAnswer}
use Rattle.turkish.specs.declared.answer.TextAnswer.{TextAnswer}
use Rattle.turkish.specs.declared.answer.LengthAnswer.{LengthAnswer}
use Rattle.turkish.specs.declared.answer.PassAnswer.{PassAnswer}
use Rattle.turkish.specs.declared.answer.PiecesAnswer.{PiecesAnswer}
use Rattle.turkish.specs.declared.answer.BatchAnswer.{BatchAnswer}
use Rattle.turkish.specs.Refusals.{refusal_number}

-- the syllable check
abbrev pub syllable_answer : Result Bool Refusal → SyllableAnswer
syllable_answer (Ok t) = record { refusal = 0; yes = t }
syllable_answer (Err r) = record { refusal = refusal_number r; yes = false }

-- the suffix stage, by what harmony found
abbrev pub heard_answer : Stage → Option Harmony → StageAnswer
heard_answer s None =
    record { refusal = 0; length = s.length; yes = s.yes; flag = s.flag; harmonic = false; last = 0; partner = 0; loan = false }
heard_answer s (Some h) =
    record { refusal = 0; length = s.length; yes = s.yes; flag = s.flag; harmonic = true; last = h.last; partner = h.partner; loan = h.loan }

abbrev pub stage_answer : Result Stage Refusal → StageAnswer
stage_answer (Ok s) = heard_answer s s.harmony
stage_answer (Err r) =
    record { refusal = refusal_number r; length = 0; yes = false; flag = false; harmonic = false; last = 0; partner = 0; loan = false }

-- the postlude and the noun stage
abbrev pub text_answer : Result Text Refusal → TextAnswer
text_answer (Ok t) = record { refusal = 0; length = t.length; yes = t.yes }
text_answer (Err r) = record { refusal = refusal_number r; length = 0; yes = false }

-- the word pass
abbrev pub pass_answer : Result Pass Refusal → PassAnswer
pass_answer (Ok p) = record { refusal = 0; length = p.length; syllable = p.syllable; yes = p.yes; flag = p.flag }
pass_answer (Err r) = record { refusal = refusal_number r; length = 0; syllable = false; yes = false; flag = false }

-- the fold, the whole run and the pieces as lines
abbrev pub length_answer : Result ℕ Refusal → LengthAnswer
length_answer (Ok n) = record { refusal = 0; length = n }
length_answer (Err r) = record { refusal = refusal_number r; length = 0 }

-- the pieces
abbrev pub pieces_answer : Result Pieces Refusal → PiecesAnswer
pieces_answer (Ok p) = record { refusal = 0; length = p.length; count = p.count }
pieces_answer (Err r) = record { refusal = refusal_number r; length = 0; count = 0 }

-- the batch
abbrev pub batch_answer : Result ℕ Refusal → BatchAnswer
batch_answer (Ok n) = record { refusal = 0; count = n }
batch_answer (Err r) = record { refusal = refusal_number r; count = 0 }
