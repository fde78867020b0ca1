-- What a rule says of an entry, and the checks that rules share.
use Rattle.std.specs.Prelude.{ℕ, ◌+◌, Bool, List, [], ◌∷◌, ◌++◌, Result, nat_le}
use Rattle.std.proofs.Math.Option.{Option, some, none}
use Rattle.refusals.specs.declared.Fault.{Fault}
use Rattle.refusals.specs.declared.Refusal.TheVariants.{FigureRange, WrongState, WrongStatus, NotCovered}
use Rattle.refusals.specs.Refusals.{fault}
use Rattle.refusals.specs.Checks.{Check, passed_with}
use Rattle.refusals.specs.Ranges.{customer_check, asset_check, are_moved_units}
use Rattle.custody.specs.Meaning.{free_check}
use Rattle.custody.specs.Movements.{Movement}
use Rattle.margin.specs.Meaning.{Method}
use Rattle.rules.specs.declared.entries.Answer.{Answer}
use Rattle.rules.specs.declared.entries.Answer.TheVariants.{Figures}
use Rattle.rules.specs.Views.{View, every_asset}
use Rattle.rules.specs.Figures.{protected_value, margin_call}

-- The checks in the order in which they run, of which the first that fails refuses the entry with its fault; and if
-- all hold, what is answered, the view after it, and the movements of custody in their order.
pub record Rule : Type 0 where
  pub checks : List Check
  pub answer : Answer
  pub after : View
  pub movements : List Movement

-- What is said to whoever brought the entry: the answer of the grant, or the whole fault.
abbrev pub Outcome : Type 0
Outcome = Result Answer Fault

-- An entry that names a customer is refused with 2, before all else, if that customer is out of range.
abbrev pub naming : Option ℕ → List Check
naming (some c) = customer_check c ∷ []
naming none = []

unfoldable pub outcome : Option ℕ → Rule → Outcome
outcome named r = passed_with r.answer (naming named ++ r.checks)

-- An entry of a customer answers protected value, margin call and debt after it.
abbrev pub three_figures : Method → View → Answer
three_figures m v = Figures (protected_value v) (margin_call m v) v.account.debt

-- ---- checks
-- The asset and the units of a deposit, withdrawal or payout are in range.
abbrev pub moving : ℕ → ℕ → ℕ → List Check
moving c a n = asset_check c a ∷ (are_moved_units n, fault FigureRange c) ∷ []

-- The member's state allows the entry,
abbrev pub state_check : ℕ → Bool → Check
state_check c allowed = (allowed, fault WrongState c)

-- and the customer's status.
abbrev pub status_check : ℕ → Bool → Check
status_check c allowed = (allowed, fault WrongStatus c)

-- Protected value less debt is not under the requirement.
abbrev pub covers : ℕ → ℕ → ℕ → Bool
covers requirement debt value = nat_le (requirement + debt) value

abbrev pub cover_check : ℕ → Bool → Check
cover_check c covered = (covered, fault NotCovered c)

-- No asset is blocked, by the block depths; of several that are, the lowest counts.
abbrev pub all_free : ℕ → (ℕ → ℕ) → List Check
all_free c depths = every_asset (λ a. free_check (depths a) c a)
