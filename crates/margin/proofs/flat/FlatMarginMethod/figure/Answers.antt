use Rattle.std.proofs.Common.{◌+◌, refl, add-one, arith, rules}
use Rattle.margin.specs.Sums.{sum}
use Rattle.margin.proofs.Bounds.{net_most, charges_most}
use Rattle.margin.proofs.flat.FlatMarginMethod.figure.Goals as goal

pub loop-place-init : goal.loop-place-init
unfolding sum
loop-place-init c = refl

pub charge-sum-requires-clause-net : goal.charge-sum-requires-clause-net
charge-sum-requires-clause-net c =
    let m = net_most c.args.portfolio.now.nets c.args.portfolio.now.in_range c.loop-place.place in
    search rules

pub loop-place-preserved : goal.loop-place-preserved
unfolding sum
loop-place-preserved c = rw add-one (search (rules, c.loop-place.invariant, c.charge-sum.ensures))

pub overflow_add-sum : goal.overflow_add-sum
overflow_add-sum c =
    let m = charges_most c.args.portfolio.now.nets c.args.portfolio.now.in_range (c.loop-place.place + 1) (omega arith) in
    let more = loop-place-preserved c in
    omega arith
