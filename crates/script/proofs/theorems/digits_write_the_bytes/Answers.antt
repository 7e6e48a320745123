use Rattle.script.proofs.Hexed.{again}
use Rattle.script.proofs.theorems.digits_write_the_bytes.Goals as goal

pub returns : goal.returns
returns c = λ bytes h. again 0 bytes h
