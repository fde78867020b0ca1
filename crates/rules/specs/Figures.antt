-- The figures of a customer: unsettled result, worth, protected value, requirement and margin call.
use Rattle.std.specs.Prelude.{ℕ, ◌+◌, ◌-◌, ◌*◌, ◌/◌, cond, List, ℤ, ◌-ℤ◌, ◌*ℤ◌, ◌==◌, slice_index}
use Rattle.margin.specs.Sums.{at, total}
use Rattle.margin.specs.Meaning.{Method}
use Rattle.rules.specs.declared.records.Status.TheVariants.{Open, InTransit, Ported, Liquidated}
use Rattle.rules.specs.declared.records.CustomerRecord.{CustomerRecord}
use Rattle.rules.specs.Views.{View, transit_status}

-- Unsettled is the sum over contracts of net × mark less cost.
abbrev pub unsettled_at : List ℤ → CustomerRecord → ℤ
unsettled_at marks r = total 8 (λ i. at r.nets i *ℤ at marks i -ℤ at r.costs i)

abbrev pub unsettled : View → ℤ
unsettled v = unsettled_at v.market.marks v.account

-- The discount of a security, in percent: bills 1, notes 3, bonds 8.
abbrev pub discount : ℕ → ℕ
discount a = cond (a == 2) 1 (cond (a == 3) 3 8)

-- A security is worth its units × quote × (100 less discount), divided by 100 and cut to whole cents.
abbrev pub worth : ℕ → ℕ → ℕ → ℕ
worth a units quote = units * quote * (100 - discount a) / 100

-- The amount of an asset that a transfer took out of custody.
abbrev pub carried_amount : CustomerRecord → ℕ → ℕ
carried_amount r a = slice_index r.carried (a - 1)

-- What counts of an asset: held units and, in transit, the carried amount.
abbrev pub amount : View → ℕ → ℕ
amount v a = v.held a + cond (transit_status v.account.status) (carried_amount v.account a) 0

-- The quotes stand from asset 2 on.
abbrev pub quote_of : List ℕ → ℕ → ℕ
quote_of quotes a = slice_index quotes (a - 2)

-- The worth of all securities, cut for each asset.
abbrev pub securities_worth : List ℕ → (ℕ → ℕ) → ℕ
securities_worth quotes amounts =
    worth 2 (amounts 2) (quote_of quotes 2) + worth 3 (amounts 3) (quote_of quotes 3) + worth 4 (amounts 4) (quote_of quotes 4)

-- Protected value is cash plus the worth of the securities.
unfoldable pub protected_value : View → ℕ
protected_value v = amount v 1 + securities_worth v.market.quotes (amount v)

-- Requirement is the method's figure for the nets while open or in transit, and 0 otherwise.
abbrev pub required : Method → CustomerRecord → ℕ
required m r = elim r.status [ Open ↦ m r.nets | InTransit ↦ m r.nets | Ported ↦ 0 | Liquidated ↦ 0 ]

-- Margin call is requirement plus debt less protected value, never below 0.
abbrev pub margin_call : Method → View → ℕ
margin_call m v = required m v.account + v.account.debt - protected_value v
