-- Deposit, withdrawal, payout and statement.
use Rattle.std.specs.Prelude.{ℕ, ◌+◌, ◌-◌, Bool, List, [], ◌∷◌, ◌++◌}
use Rattle.refusals.specs.Checks.{Check}
use Rattle.refusals.specs.Ranges.{asset_check, units_check}
use Rattle.custody.specs.Meaning.{room_check, free_check, held_check}
use Rattle.custody.specs.Movements.{taking, release}
use Rattle.reconciliation.specs.Breaks.{difference, is_break}
use Rattle.margin.specs.Meaning.{Method}
use Rattle.rules.specs.declared.entries.Answer.TheVariants.{Difference}
use Rattle.rules.specs.Views.{View, depth_of, is_open, is_liquidated, is_active, is_liquidating, with_held, with_broken, put}
use Rattle.rules.specs.Figures.{protected_value, required}
use Rattle.rules.specs.Rulings.{Rule, three_figures, moving, state_check, status_check, covers, cover_check}

-- ---- deposit: custody takes the units in
abbrev pub taken_in : ℕ → ℕ → View → View
taken_in a n v = with_held (put a (v.held a + n) v.held) v

unfoldable pub deposit : Method → ℕ → ℕ → ℕ → View → Rule
deposit m c a n v = record {
  checks = moving c a n ++ state_check c (is_active v) ∷ status_check c (is_open v) ∷ room_check (v.held a) c a n ∷ [];
  answer = three_figures m (taken_in a n v);
  after = taken_in a n v;
  movements = taking c a n ∷ [];
}

-- ---- withdrawal: custody releases the units, if what is left covers the requirement
abbrev pub given_out : ℕ → ℕ → View → View
given_out a n v = with_held (put a (v.held a - n) v.held) v

-- Custody's own refusals of the release.
abbrev pub giving_out_checks : ℕ → ℕ → ℕ → View → List Check
giving_out_checks c a n v = free_check (depth_of v a) c a ∷ held_check (v.held a) c a n ∷ []

-- What a withdrawal leaves is enough.
abbrev pub withdrawal_covered : Method → View → Bool
withdrawal_covered m left = covers (required m left.account) left.account.debt (protected_value left)

unfoldable pub withdrawal : Method → ℕ → ℕ → ℕ → View → Rule
withdrawal m c a n v = record {
  checks = moving c a n ++ state_check c (is_active v) ∷ status_check c (is_open v) ∷ giving_out_checks c a n v
      ++ cover_check c (withdrawal_covered m (given_out a n v)) ∷ [];
  answer = three_figures m (given_out a n v);
  after = given_out a n v;
  movements = release c a n ∷ [];
}

-- ---- payout: the same to a liquidated customer
-- What a payout leaves is enough.
abbrev pub payout_covered : Method → View → Bool
payout_covered m left = covers (required m left.account) left.account.debt (protected_value left)

unfoldable pub payout : Method → ℕ → ℕ → ℕ → View → Rule
payout m c a n v = record {
  checks = moving c a n ++ state_check c (is_liquidating v) ∷ status_check c (is_liquidated v) ∷ giving_out_checks c a n v
      ++ cover_check c (payout_covered m (given_out a n v)) ∷ [];
  answer = three_figures m (given_out a n v);
  after = given_out a n v;
  movements = release c a n ∷ [];
}

-- ---- statement: answers stated less held, and sets the break mark unless that is zero, which clears it
abbrev pub stated : ℕ → ℕ → View → View
stated a n v = with_broken (put a (is_break n (v.held a)) v.broken) v

unfoldable pub statement : ℕ → ℕ → ℕ → View → Rule
statement c a n v = record {
  checks = asset_check c a ∷ units_check c n ∷ [];
  answer = Difference (difference n (v.held a));
  after = stated a n v;
  movements = [];
}
