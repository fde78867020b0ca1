-- The text of a day: what the rules make of its steps, told one line each.
use Rattle.std.specs.Prelude.{◌≡◌, ℕ, ◌+◌, ◌<◌, Bool, List, [], ◌∷◌, ◌++◌, length, take, Result}
use Rattle.refusals.specs.declared.Fault.{Fault}
use Rattle.custody.specs.declared.Custody.{Ghosts as Custodian}
use Rattle.custody.specs.Meaning.{Figures}
use Rattle.reconciliation.specs.declared.Reconciliation.{Reconciliation}
use Rattle.reconciliation.specs.Breaks.{depths_over}
use Rattle.custody_day.specs.declared.steps.Step.{Step}
use Rattle.custody_day.specs.declared.steps.Answer.{Answer}
use Rattle.custody_day.specs.Steps.{performed, held_after, breaks_after, Stepped}
use Rattle.custody_day.specs.Shown.{shown_report}

-- A line, ended by a line feed.
abbrev pub line_of : ℕ → Step → Result Answer Fault → List ℕ
line_of number step outcome = shown_report number step outcome ++ 10 ∷ []

-- The lines of steps from a number on, by the units held, the block depths below and the break marks: each step is
-- performed where the one before left them.
unfoldable pub told : Figures → Figures → List Bool → ℕ → List Step → List ℕ
told held deep breaks number [] = []
told held deep breaks number (step ∷ steps) =
    line_of number step (performed held (depths_over breaks deep) step)
    ++ told (held_after held (depths_over breaks deep) step) deep (breaks_after held breaks step) (number + 1) steps

-- The same, from a reconciled custody on.
abbrev pub told_of : {C : Type 0} → Custodian C → Reconciliation C → ℕ → List Step → List ℕ
told_of g k number steps = told (g.units k.below) (g.depth k.below) k.breaks number steps

-- The custody k became t by these steps, in their order.
abbrev pub Went : {C : Type 0} → Custodian C → Reconciliation C → List Step → Reconciliation C → Type 0
Went g k [] t = t ≡ k
Went {C} g k (s ∷ ss) t = (r : Result Answer Fault) × (j : Reconciliation C) × Stepped g k s r j × Went g j ss t

-- Only the first of these steps were performed, at least one: n of them, and the one after them.
abbrev pub WentInPart : {C : Type 0} → Custodian C → Reconciliation C → List Step → Reconciliation C → Type 0
WentInPart g k steps t = (n : ℕ) × (n < length steps) × Went g k (take (n + 1) steps) t
