use Rattle.std.proofs.Common.{string_bytes}
use Rattle.custody_day.proofs.Days.{SoFar}
use Rattle.custody_day.proofs.telling.tell_day.Given as goal

abbrev pub invariant-loop-done : goal.invariant-loop-done
invariant-loop-done g l = SoFar g.C.Custody l.initial.custody l.steps (string_bytes l.text) l.custody l.done
