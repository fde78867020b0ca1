-- Trade: adds units to the net, and units × price to the cost.
use Rattle.std.specs.Prelude.{ℕ, ◌-◌, ◌&&◌, ◌||◌, List, [], ◌∷◌, ℤ, ◌+ℤ◌, ◌*ℤ◌, nat_le, slice_set}
use Rattle.refusals.specs.declared.Refusal.TheVariants.{FigureRange, Limit}
use Rattle.refusals.specs.Refusals.{fault}
use Rattle.refusals.specs.Checks.{Check}
use Rattle.refusals.specs.Ranges.{contract_check, are_traded_units, is_price, is_net, is_cost}
use Rattle.margin.specs.Sums.{at}
use Rattle.margin.specs.Meaning.{Method}
use Rattle.rules.specs.declared.records.CustomerRecord.{CustomerRecord}
use Rattle.rules.specs.declared.records.MemberState.{MemberState}
use Rattle.rules.specs.declared.entries.Terms.{Terms}
use Rattle.rules.specs.Views.{View, open_status, active_member, with_account, with_position}
use Rattle.rules.specs.Figures.{protected_value, required}
use Rattle.rules.specs.Rulings.{Rule, three_figures, state_check, status_check, covers, cover_check}

abbrev pub net_after : Terms → CustomerRecord → ℤ
net_after t r = at r.nets (t.contract - 1) +ℤ t.units

abbrev pub cost_after : Terms → CustomerRecord → ℤ
cost_after t r = at r.costs (t.contract - 1) +ℤ t.units *ℤ t.price

abbrev pub traded : Terms → CustomerRecord → CustomerRecord
traded t r =
    with_position (slice_set r.nets (t.contract - 1) (net_after t r)) (slice_set r.costs (t.contract - 1) (cost_after t r)) r

-- The checks, by the member's state, the account, the requirement before and after, and protected value. The last: the
-- requirement does not rise, or its new figure does not pass protected value less debt.
abbrev pub trade_checks : ℕ → Terms → MemberState → CustomerRecord → ℕ → ℕ → ℕ → List Check
trade_checks c t member r before after value =
    contract_check c t.contract
    ∷ (are_traded_units t.units && is_price t.price, fault FigureRange c)
    ∷ state_check c (active_member member)
    ∷ status_check c (open_status r.status)
    ∷ (is_net (net_after t r) && is_cost (cost_after t r), fault Limit c)
    ∷ cover_check c (nat_le after before || covers after r.debt value)
    ∷ []

unfoldable pub trade : Method → ℕ → Terms → View → Rule
trade m c t v = record {
  checks = trade_checks c t v.market.member v.account (required m v.account) (required m (traded t v.account)) (protected_value v);
  answer = three_figures m (with_account (traded t v.account) v);
  after = with_account (traded t v.account) v;
  movements = [];
}
