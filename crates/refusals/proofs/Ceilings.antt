use Rattle.std.proofs.Common.{ℕ, ◌^◌, ◌≤◌, true, false, cond, eqb, lit≤}
use Rattle.refusals.specs.Ranges.{ceiling}

-- No ceiling is above that of cash.
pub ceiling_most : (a : ℕ) → ceiling a ≤ 10 ^ 17
ceiling_most a = elim (eqb a 1) as (λ b. cond b (10 ^ 17) (10 ^ 9) ≤ 10 ^ 17) [ true ↦ lit≤ tt | false ↦ lit≤ tt ]
