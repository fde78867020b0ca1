-- What a step of a custody day answers, and what it leaves.
use Rattle.std.specs.Prelude.{◌≡◌, Bool, true, false, List, [], ◌∷◌, is_ok, Result}
use Rattle.refusals.specs.declared.Fault.{Fault}
use Rattle.refusals.specs.Checks.{granted_as}
use Rattle.custody.specs.declared.Custody.{Ghosts as Custodian}
use Rattle.custody.specs.Meaning.{Figures, Alike, answered, taken, released, raised, lowered, if_granted}
use Rattle.custody.specs.Movements.{Movement, taking, release, Moves}
use Rattle.reconciliation.specs.declared.Reconciliation.{Reconciliation}
use Rattle.reconciliation.specs.Breaks.{depths_over, stating, marks_after}
use Rattle.custody_day.specs.declared.steps.Step.{Step}
use Rattle.custody_day.specs.declared.steps.Step.TheVariants.{TakeIn, Release, Statement, Question}
use Rattle.custody_day.specs.declared.steps.Answer.{Answer}
use Rattle.custody_day.specs.declared.steps.Answer.TheVariants.{Done, Difference, Holding}

-- By the units held and the block depths.
abbrev pub performed : Figures → Figures → Step → Result Answer Fault
performed held deep (TakeIn c a n) = granted_as (λ _. Done) (taken held c a n)
performed held deep (Release c a n) = granted_as (λ _. Done) (released held deep c a n)
performed held deep (Statement c a n) = granted_as Difference (stating held c a n)
performed held deep (Question c a) = granted_as (λ p. Holding p.0 p.1) (answered held deep c a)

-- The units held after it,
abbrev pub held_after : Figures → Figures → Step → Figures
held_after held deep (TakeIn c a n) = if_granted (taken held c a n) (raised held c a n) held
held_after held deep (Release c a n) = if_granted (released held deep c a n) (lowered held c a n) held
held_after held deep (Statement c a n) = held
held_after held deep (Question c a) = held

-- the break marks after it,
abbrev pub breaks_after : Figures → List Bool → Step → List Bool
breaks_after held breaks (TakeIn c a n) = breaks
breaks_after held breaks (Release c a n) = breaks
breaks_after held breaks (Statement c a n) = marks_after held breaks c a n
breaks_after held breaks (Question c a) = breaks

-- and the movements of the custody below by which a granted step comes about.
abbrev pub movements : Step → List Movement
movements (TakeIn c a n) = taking c a n ∷ []
movements (Release c a n) = release c a n ∷ []
movements (Statement c a n) = []
movements (Question c a) = []

-- ---- a step over a reconciled custody
-- The units held and the block depths that it shows.
abbrev pub held_in : {C : Type 0} → Custodian C → Reconciliation C → Figures
held_in g k = g.units k.below

abbrev pub depths_in : {C : Type 0} → Custodian C → Reconciliation C → Figures
depths_in g k = depths_over k.breaks (g.depth k.below)

-- The step s was answered with r, and left the custody k as t.
pub record Stepped {C : Type 0} (g : Custodian C) (k : Reconciliation C) (s : Step) (r : Result Answer Fault) (t : Reconciliation C) : Type 0 where
  pub result : r ≡ performed (held_in g k) (depths_in g k) s
  pub figures : Alike (held_in g t) (held_after (held_in g k) (depths_in g k) s)
  pub depths : Alike (g.depth t.below) (g.depth k.below)
  pub marks : t.breaks ≡ breaks_after (held_in g k) k.breaks s
  pub moved : is_ok r ≡ true → Moves g k.below (movements s) t.below
  pub refused : is_ok r ≡ false → t ≡ k
