use Rattle.std.proofs.Common.{◌≡◌, length}
use Rattle.margin.proofs.Bounds.{gains}
use Rattle.margin.proofs.scenario.shocked_sum.Given as goal

abbrev pub invariant-loop-net : goal.invariant-loop-net
invariant-loop-net l = l.sum ≡ gains l.shocks l.portfolio.nets (length l.yielded)
