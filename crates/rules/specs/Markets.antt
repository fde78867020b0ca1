-- Mark, quote, default and closing the window: entries of no customer.
use Rattle.std.specs.Prelude.{ℕ, ◌-◌, [], ◌∷◌, ℤ, slice_set}
use Rattle.refusals.specs.declared.Refusal.TheVariants.{InstrumentRange, FigureRange}
use Rattle.refusals.specs.Refusals.{fault}
use Rattle.refusals.specs.Ranges.{contract_check, is_price, is_security, is_quote}
use Rattle.rules.specs.declared.entries.Answer.TheVariants.{Done}
use Rattle.rules.specs.declared.records.MemberState.TheVariants.{Porting, Liquidating}
use Rattle.rules.specs.Views.{View, is_active, is_porting, with_marks, with_quotes, with_member}
use Rattle.rules.specs.Rulings.{Rule, state_check}

-- Mark sets the figure of a contract.
unfoldable pub mark : ℕ → ℤ → View → Rule
mark k p v = record {
  checks = contract_check 0 k ∷ (is_price p, fault FigureRange 0) ∷ [];
  answer = Done;
  after = with_marks (slice_set v.market.marks (k - 1) p) v;
  movements = [];
}

-- Quote sets the figure of a security; cash has none.
unfoldable pub quote : ℕ → ℕ → View → Rule
quote a q v = record {
  checks = (is_security a, fault InstrumentRange 0) ∷ (is_quote q, fault FigureRange 0) ∷ [];
  answer = Done;
  after = with_quotes (slice_set v.market.quotes (a - 2) q) v;
  movements = [];
}

-- Default: an active member is porting from now on.
unfoldable pub default : View → Rule
default v = record {
  checks = state_check 0 (is_active v) ∷ [];
  answer = Done;
  after = with_member Porting v;
  movements = [];
}

-- Closing the window: a porting member is liquidating from now on.
unfoldable pub closing : View → Rule
closing v = record {
  checks = state_check 0 (is_porting v) ∷ [];
  answer = Done;
  after = with_member Liquidating v;
  movements = [];
}
