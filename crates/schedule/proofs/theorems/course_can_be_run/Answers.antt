use Rattle.schedule.proofs.Possible.{course_can_be_run_lem}
use Rattle.schedule.proofs.theorems.course_can_be_run.Goals as goal

pub returns : goal.returns
returns c = course_can_be_run_lem
