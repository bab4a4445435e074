-- What is told Rattle callers of the stage's outcome. Assumes nothing.
use Rattle.std.specs.Prelude.{option_map}
use Rattle.vowels.specs.declared.harmony.Harmony as heard
use Rattle.turkish.specs.declared.reply.Harmony.{Harmony}
use Rattle.turkish.specs.declared.reply.Stage.{Stage}
use Rattle.stages.specs.declared.stage.Outcome.{Outcome}

-- the two vowels that harmony found
abbrev pub harmony_of : heard.Harmony → Harmony
harmony_of h = record { last = h.last; partner = h.partner; loan = h.skips }

abbrev pub told_of : Outcome → Stage
told_of s = record { length = s.kept; yes = s.yes; flag = s.flag; harmony = option_map harmony_of s.way.heard }
