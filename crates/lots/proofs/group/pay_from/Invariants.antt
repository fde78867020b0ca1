use Rattle.std.proofs.Common.{◌≡◌, ◌-◌}
use Rattle.lots.specs.Groups.{paid}
use Rattle.lots.proofs.group.pay_from.Given as goal

-- what is left to pay, of the lots that are left
abbrev pub invariant-loop-turn : goal.invariant-loop-turn
invariant-loop-turn l = paid (8 - l.turn) l.group l.left ≡ paid 8 l.initial.group l.amount
