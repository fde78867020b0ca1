use Rattle.std.proofs.Common.{sym, refl, ◌∙◌, length, pos, arith, rules}
use Rattle.std.proofs.lemmas.List.{length_push}
use Rattle.std.proofs.lemmas.Slice.Zip.{zip_turn}
use Rattle.margin.specs.Sums.{total}
use Rattle.margin.proofs.Gains.{Gained, gained}
use Rattle.margin.proofs.scenario.shocked_sum.Goals as goal

-- A turn has the net and the shock at the next place.
turn : (c : goal.After-sum-in-loop-net-1) → Gained c.args.shocks.now c.args.portfolio.now.nets (length c.loop-net.yielded) c.loop-net.sum c.in-Some.net.now c.in-Some.shock.now
turn c =
    let pair = zip_turn c.args.portfolio.now.nets c.args.shocks.now c.loop-net.yielded _ _ c.next.new.self _ (cc) (cc) c.loop-net.yielded_by _ c.in-Some.is c.next.ensures.steps in
    gained c.args.shocks.now c.args.portfolio.now.nets c.requires c.args.portfolio.now.in_range (length c.loop-net.yielded) _ _ _ (omega arith) (sym c.loop-net.sum-is ∙ c.loop-net.invariant) (pair.2 (pos 0)) (pair.3 (pos 0))

pub loop-net-init : goal.loop-net-init
unfolding total
loop-net-init c = refl

pub overflow_mul-sum : goal.overflow_mul-sum
overflow_mul-sum c = let t = turn c in search rules

pub overflow_add-sum : goal.overflow_add-sum
overflow_add-sum c = let t = turn c in search rules

pub loop-net-preserved : goal.loop-net-preserved
loop-net-preserved c = let t = turn c in search (rules, length_push)
