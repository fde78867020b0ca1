use Rattle.std.proofs.Common.{◌≡◌, ◌+◌, ◌-◌, sym, ap, ◌∙◌, arith}
use Rattle.lots.specs.Groups.{paid}
use Rattle.lots.proofs.Groups.{paid_none, last_turn, next_turn}
use Rattle.lots.proofs.group.pay_from.Goals as goal

pub returns-in_default : goal.returns-in_default
returns-in_default c =
    let h = c.in_default.ensures in
    last_turn (8 - c.loop-turn.turn) (8 - (c.loop-turn.turn + 1)) c.loop-turn.group _ c.loop-turn.left (omega arith) h.rest h.after
    ∙ c.loop-turn.invariant

pub loop-turn-preserved : goal.loop-turn-preserved
loop-turn-preserved c =
    let h = c.in-Some.ensures in
    next_turn (8 - c.loop-turn.turn) (8 - (c.loop-turn.turn + 1)) c.loop-turn.group _ c.loop-turn.left c.in-Some.rest (omega arith) h.rest h.after
    ∙ c.loop-turn.invariant

pub returns : goal.returns
returns c =
    let none : 0 ≡ 8 - c.loop-turn.turn = omega arith in
    sym (paid_none c.loop-turn.group c.loop-turn.left) ∙ ap (λ k. paid k c.loop-turn.group c.loop-turn.left) none ∙ c.loop-turn.invariant
