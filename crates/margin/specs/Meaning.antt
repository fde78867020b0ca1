-- What a margin method means: one figure for each portfolio of eight nets.
use Rattle.std.specs.Prelude.{◌≡◌, ℕ, ◌^◌, ◌≤◌, Bool, true, cond, ◌&&◌, List, [], ◌∷◌, length, ℤ, Result, ◌==◌}
use Rattle.refusals.specs.declared.Fault.{Fault}
use Rattle.refusals.specs.declared.Refusal.TheVariants.{FigureRange}
use Rattle.refusals.specs.Refusals.{fault}
use Rattle.refusals.specs.Checks.{Check, passed_with}
use Rattle.refusals.specs.Ranges.{is_net}

abbrev pub Method : Type 0
Method = List ℤ → ℕ

-- Every net is in range.
abbrev pub are_nets : List ℤ → Bool
are_nets [] = true
are_nets (net ∷ nets) = is_net net && are_nets nets

-- A portfolio is eight nets in range.
abbrev pub is_portfolio : List ℤ → Bool
is_portfolio nets = length nets == 8 && are_nets nets

-- A net out of range is refused, and no customer is named.
abbrev pub portfolio_check : List ℤ → Check
portfolio_check nets = (is_portfolio nets, fault FigureRange 0)

-- What the question answers.
abbrev pub asked : Method → List ℤ → Result ℕ Fault
asked m nets = passed_with (m nets) (portfolio_check nets ∷ [])

-- No portfolio requires more than 10^12.
abbrev pub Bounded : Method → Type 0
Bounded m = (nets : List ℤ) → is_portfolio nets ≡ true → m nets ≤ 10 ^ 12

-- A method has a meaning for portfolios alone: of anything else it requires nothing.
unfoldable pub on_portfolios : Method → Method
on_portfolios m nets = cond (is_portfolio nets) (m nets) 0
