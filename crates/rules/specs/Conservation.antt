-- Conservation: no customer's cash appears or vanishes.
use Rattle.std.specs.Prelude.{◌≡◌, ℕ, ◌+◌, Bool, true, false, cond, ◌&&◌, List, [], ◌∷◌, ℤ, pos, ◌+ℤ◌, ◌-ℤ◌, ◌*ℤ◌, is_ok, ◌==◌}
use Rattle.refusals.specs.Ranges.{is_customer}
use Rattle.rules.specs.declared.records.Status.{Status}
use Rattle.rules.specs.declared.records.Status.TheVariants.{Open, InTransit, Ported, Liquidated}
use Rattle.rules.specs.declared.entries.Terms.{Terms}
use Rattle.rules.specs.declared.entries.Entry.{Entry}
use Rattle.rules.specs.declared.entries.Entry.TheVariants.{Deposit, Withdrawal, Payout, Trade, Mark, Quote, Settlement, Statement, Default, Closing, Transfer, Delivery, Return, Liquidation}
use Rattle.rules.specs.Figures.{amount, unsettled}
use Rattle.rules.specs.Histories.{Custody, State, view, Event}

-- What an entry may count for in the law.
pub data Effect : Type 0 where
  pays_in : (customer asset units : ℕ) → Effect
  draws : (customer asset units : ℕ) → Effect
  trades : (customer : ℕ) → Terms → Effect
  marks : (contract : ℕ) → ℤ → Effect
  counts_nothing : Effect

abbrev pub effect : Entry → Effect
effect (Deposit c a n) = pays_in c a n
effect (Withdrawal c a n) = draws c a n
effect (Payout c a n) = counts_nothing
effect (Trade c t) = trades c t
effect (Mark k p) = marks k p
effect (Quote a q) = counts_nothing
effect (Settlement c) = counts_nothing
effect (Statement c a n) = counts_nothing
effect Default = counts_nothing
effect Closing = counts_nothing
effect (Transfer c) = counts_nothing
effect (Delivery c) = counts_nothing
effect (Return c) = counts_nothing
effect (Liquidation c) = counts_nothing

-- A refused entry counts for nothing.
abbrev pub granted_effect : Event → Effect
granted_effect x = cond (is_ok x.result) (effect x.entry) counts_nothing

-- Cash that the customer c paid in,
abbrev pub cash_in : ℕ → Effect → ℕ
cash_in c (pays_in d a n) = cond (d == c && a == 1) n 0
cash_in c (draws d a n) = 0
cash_in c (trades d t) = 0
cash_in c (marks k p) = 0
cash_in c counts_nothing = 0

-- and withdrew.
abbrev pub cash_out : ℕ → Effect → ℕ
cash_out c (pays_in d a n) = 0
cash_out c (draws d a n) = cond (d == c && a == 1) n 0
cash_out c (trades d t) = 0
cash_out c (marks k p) = 0
cash_out c counts_nothing = 0

-- Units × (mark less trade price) of a trade of c, by the mark of each contract.
abbrev pub trade_result : ℕ → (ℕ → ℤ) → Effect → ℤ
trade_result c mark (pays_in d a n) = pos 0
trade_result c mark (draws d a n) = pos 0
trade_result c mark (trades d t) = cond (d == c) (t.units *ℤ (mark t.contract -ℤ t.price)) (pos 0)
trade_result c mark (marks k p) = pos 0
trade_result c mark counts_nothing = pos 0

-- The mark of the contract k after the effect.
abbrev pub mark_after : ℕ → ℤ → Effect → ℤ
mark_after k before (pays_in d a n) = before
mark_after k before (draws d a n) = before
mark_after k before (trades d t) = before
mark_after k before (marks j p) = cond (j == k) p before
mark_after k before counts_nothing = before

-- ---- over a history
abbrev pub paid_in : ℕ → List Event → ℕ
paid_in c [] = 0
paid_in c (x ∷ h) = cash_in c (granted_effect x) + paid_in c h

abbrev pub withdrawn : ℕ → List Event → ℕ
withdrawn c [] = 0
withdrawn c (x ∷ h) = cash_out c (granted_effect x) + withdrawn c h

abbrev pub trade_results : ℕ → (ℕ → ℤ) → List Event → ℤ
trade_results c mark [] = pos 0
trade_results c mark (x ∷ h) = trade_result c mark (granted_effect x) +ℤ trade_results c mark h

-- The mark now is the last granted for the contract, or 0.
abbrev pub mark_now : List Event → ℕ → ℤ
mark_now [] k = pos 0
mark_now (x ∷ h) k = mark_after k (mark_now h k) (granted_effect x)

-- Neither ported nor liquidated.
abbrev pub is_live : Status → Bool
is_live Open = true
is_live InTransit = true
is_live Ported = false
is_live Liquidated = false

-- For a customer that began without cash and is neither ported nor liquidated, cash (in transit too) less debt plus
-- unsettled result is cash paid in, less cash withdrawn, plus units × (mark now less trade price) over the granted trades.
abbrev pub Conserved : Custody → List Event → State → Type 0
Conserved k h s =
    (c : ℕ) → is_customer c ≡ true → k.units c 1 ≡ 0 → is_live (view s c).account.status ≡ true →
    pos (amount (view s c) 1) -ℤ pos (view s c).account.debt +ℤ unsettled (view s c)
    ≡ pos (paid_in c h) -ℤ pos (withdrawn c h) +ℤ trade_results c (mark_now h) h
