-- Settlement, and liquidation, which settles and then clears the nets.
use Rattle.std.specs.Prelude.{ℕ, ◌+◌, ◌-◌, min, ◌&&◌, ◌||◌, List, [], ◌∷◌, ℤ, pos, negsuc, ◌-ℤ◌, ◌*ℤ◌, ◌==◌, nat_le}
use Rattle.refusals.specs.declared.Refusal.TheVariants.{Limit, Blocked}
use Rattle.refusals.specs.Refusals.{fault, fault_at}
use Rattle.refusals.specs.Checks.{Check}
use Rattle.refusals.specs.Ranges.{ceiling, is_debt}
use Rattle.custody.specs.Movements.{Movement, taking, release}
use Rattle.margin.specs.Sums.{at, eight}
use Rattle.margin.specs.Meaning.{Method}
use Rattle.rules.specs.declared.records.Status.{Status}
use Rattle.rules.specs.declared.records.Status.TheVariants.{Liquidated}
use Rattle.rules.specs.declared.records.MemberState.{MemberState}
use Rattle.rules.specs.declared.records.CustomerRecord.{CustomerRecord}
use Rattle.rules.specs.Views.{View, depth_of, open_status, liquidating_member, with_account, with_held, with_position, with_debt, with_status, put}
use Rattle.rules.specs.Figures.{unsettled}
use Rattle.rules.specs.Rulings.{Rule, three_figures, state_check, status_check, all_free}

-- Due is unsettled less debt.
abbrev pub due : View → ℤ
due v = unsettled v -ℤ pos v.account.debt

-- What a figure is above 0, and below it.
abbrev pub gain : ℤ → ℕ
gain (pos n) = n
gain (negsuc n) = 0

abbrev pub loss : ℤ → ℕ
loss (pos n) = 0
loss (negsuc n) = 1 + n

-- Below 0, the smaller of cash and the amount due leaves cash.
abbrev pub paid : ℕ → ℤ → ℕ
paid cash z = min cash (loss z)

-- From 0 up, due goes to cash;
abbrev pub cash_after : ℕ → ℤ → ℕ
cash_after cash z = cash + gain z - paid cash z

-- what is missing becomes the debt, which is 0 if nothing is.
abbrev pub debt_after : ℕ → ℤ → ℕ
debt_after cash z = loss z - paid cash z

-- Each cost becomes net × mark.
abbrev pub marked_costs : List ℤ → List ℤ → List ℤ
marked_costs nets marks = eight (λ i. at nets i *ℤ at marks i)

abbrev pub settled_account : View → CustomerRecord
settled_account v =
    with_debt (debt_after (v.held 1) (due v))
    (with_position v.account.nets (marked_costs v.account.nets v.market.marks) v.account)

abbrev pub settled : View → View
settled v = with_account (settled_account v) (with_held (put 1 (cash_after (v.held 1) (due v)) v.held) v)

-- Neither cash nor debt would pass its ceiling.
abbrev pub settlement_limits : ℕ → ℕ → ℤ → Check
settlement_limits c cash z = (nat_le (cash_after cash z) (ceiling 1) && is_debt (debt_after cash z), fault Limit c)

-- The checks, by the status, cash, its block depth, and what is due. The last: cash is not blocked where some must leave it.
abbrev pub settlement_checks : ℕ → Status → ℕ → ℕ → ℤ → List Check
settlement_checks c status cash deep z =
    status_check c (open_status status)
    ∷ settlement_limits c cash z
    ∷ (loss z == 0 || (deep == 0), fault_at Blocked c 1 deep)
    ∷ []

-- Due goes into custody, or what is paid leaves it.
abbrev pub cash_movement : ℕ → ℕ → ℤ → Movement
cash_movement c cash (pos n) = taking c 1 n
cash_movement c cash (negsuc n) = release c 1 (paid cash (negsuc n))

unfoldable pub settlement : Method → ℕ → View → Rule
settlement m c v = record {
  checks = settlement_checks c v.account.status (v.held 1) (depth_of v 1) (due v);
  answer = three_figures m (settled v);
  after = settled v;
  movements = cash_movement c (v.held 1) (due v) ∷ [];
}

-- ---- liquidation
abbrev pub cleared : CustomerRecord → CustomerRecord
cleared r = with_status Liquidated (with_position (eight (λ _. pos 0)) (eight (λ _. pos 0)) r)

abbrev pub liquidated : View → View
liquidated v = with_account (cleared (settled v).account) (settled v)

-- The checks, by the member's state, the status, cash, the block depths, and what is due.
abbrev pub liquidation_checks : ℕ → MemberState → Status → ℕ → (ℕ → ℕ) → ℤ → List Check
liquidation_checks c member status cash depths z =
    state_check c (liquidating_member member)
    ∷ status_check c (open_status status)
    ∷ settlement_limits c cash z
    ∷ all_free c depths

unfoldable pub liquidation : Method → ℕ → View → Rule
liquidation m c v = record {
  checks = liquidation_checks c v.market.member v.account.status (v.held 1) (depth_of v) (due v);
  answer = three_figures m (liquidated v);
  after = liquidated v;
  movements = cash_movement c (v.held 1) (due v) ∷ [];
}
