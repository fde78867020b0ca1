use Rattle.std.proofs.Common.{◌≡◌}
use Rattle.margin.proofs.Bounds.{charges}
use Rattle.margin.proofs.flat.FlatMarginMethod.figure.Given as goal

abbrev pub invariant-loop-place : goal.invariant-loop-place
invariant-loop-place l = l.sum ≡ charges l.portfolio.nets l.place
