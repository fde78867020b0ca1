use Rattle.std.proofs.Common.{rules, tests, arith}
use Rattle.std.proofs.lemmas.Grind.{common_steps}
use Rattle.std.proofs.lemmas.Iterator.{YieldsList-from_slice}
use Rattle.std.proofs.lemmas.Iterator.Search.{all_from_yields_List}
use Rattle.refusals.specs.Ranges.{is_net}
use Rattle.margin.proofs.Bounds.{each_net}
use Rattle.margin.proofs.method.is_portfolio.Goals as goal

pub returns : goal.returns
returns c =
    let nets = YieldsList-from_slice c.args.nets.now c.iter.ensures.rest in
    let all = all_from_yields_List is_net _ _ c.all.result c.all.ensures.ran nets (λ net ok f k. search (rules, tests)) in
    let each = each_net c.args.nets.now in
    grind (arith, common_steps)
