-- Opening a transfer, delivery and return.
use Rattle.std.specs.Prelude.{ℕ, ◌+◌, ◌&&◌, List, [], ◌∷◌, ◌++◌, ℤ, ◌==◌, nat_le, unsigned_abs}
use Rattle.refusals.specs.declared.Refusal.TheVariants.{NotSettled}
use Rattle.refusals.specs.Refusals.{fault}
use Rattle.refusals.specs.Checks.{Check}
use Rattle.custody.specs.Meaning.{room_check}
use Rattle.custody.specs.Movements.{taking, release}
use Rattle.margin.specs.Meaning.{Method}
use Rattle.rules.specs.declared.records.Status.TheVariants.{Open, InTransit, Ported}
use Rattle.rules.specs.declared.records.MemberState.{MemberState}
use Rattle.rules.specs.declared.records.CustomerRecord.{CustomerRecord}
use Rattle.rules.specs.Views.{View, depth_of, open_status, is_in_transit, porting_member, with_account, with_held, with_carried, with_status, every_asset}
use Rattle.rules.specs.Figures.{unsettled, carried_amount, protected_value, required}
use Rattle.rules.specs.Rulings.{Rule, three_figures, state_check, status_check, cover_check, all_free}

-- ---- opening a transfer: all held units move into the carried amounts
abbrev pub sent : View → View
sent v =
    with_held (λ a. 0) (with_account (with_status InTransit (with_carried (every_asset v.held) v.account)) v)

-- Protected value that a transfer asks for, by the requirement.
abbrev pub transfer_threshold : ℕ → ℕ
transfer_threshold requirement = requirement

-- The checks, by the member's state, the status and debt, the block depths, the requirement, protected value, and unsettled.
-- The last: neither debt nor unsettled is left.
abbrev pub transfer_checks : ℕ → MemberState → CustomerRecord → (ℕ → ℕ) → ℕ → ℕ → ℤ → List Check
transfer_checks c member r depths requirement value open_result =
    state_check c (porting_member member)
    ∷ status_check c (open_status r.status)
    ∷ all_free c depths
    ++ cover_check c (nat_le (transfer_threshold requirement) value)
    ∷ (r.debt == 0 && (unsigned_abs open_result == 0), fault NotSettled c)
    ∷ []

unfoldable pub transfer : Method → ℕ → View → Rule
transfer m c v = record {
  checks = transfer_checks c v.market.member v.account (depth_of v) (required m v.account) (protected_value v) (unsettled v);
  answer = three_figures m (sent v);
  after = sent v;
  movements = every_asset (λ a. release c a (v.held a));
}

-- ---- delivery: nets, costs and carried amounts stay as the carried portfolio
abbrev pub delivered : View → View
delivered v = with_account (with_status Ported v.account) v

unfoldable pub delivery : Method → ℕ → View → Rule
delivery m c v = record {
  checks = status_check c (is_in_transit v) ∷ [];
  answer = three_figures m (delivered v);
  after = delivered v;
  movements = [];
}

-- ---- return: the carried amounts go back into custody and are cleared
abbrev pub returned : View → View
returned v =
    with_held (λ a. v.held a + carried_amount v.account a)
    (with_account (with_status Open (with_carried (every_asset (λ _. 0)) v.account)) v)

-- Custody has room for what comes back. No history leads to where it has none; the rule says what happens on any state.
unfoldable pub return_of : Method → ℕ → View → Rule
return_of m c v = record {
  checks = status_check c (is_in_transit v) ∷ every_asset (λ a. room_check (v.held a) c a (carried_amount v.account a));
  answer = three_figures m (returned v);
  after = returned v;
  movements = every_asset (λ a. taking c a (carried_amount v.account a));
}
