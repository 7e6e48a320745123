-- What was heard of several. Assumes nothing: these are definitions.
use Rattle.std.specs.Prelude.{Some, None, Option}
use Rattle.schedule.specs.declared.heard.Heard.{Heard}
use Rattle.schedule.specs.declared.heard.Heard.TheVariants.{Nothing, Once, Several}

-- one more; of several nothing is kept
abbrev pub with_one : {T : Type 0} → Heard T → T → Heard T
with_one Nothing one = Once one
with_one (Once first) one = Several
with_one Several one = Several

-- the only one
abbrev pub answer_of : {T : Type 0} → Heard T → Option T
answer_of Nothing = None
answer_of (Once one) = Some one
answer_of Several = None
