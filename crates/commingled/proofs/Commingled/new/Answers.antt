use Rattle.commingled.proofs.Sound.{empty_sound}
use Rattle.commingled.proofs.Commingled.new.Goals as goal

pub invariant_of-result : goal.invariant_of-result
invariant_of-result c = rw c.empty.ensures empty_sound
