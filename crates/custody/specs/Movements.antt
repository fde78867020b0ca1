-- Movements of units, in their order.
use Rattle.std.specs.Prelude.{◌≡◌, ℕ, List, [], ◌∷◌}
use Rattle.custody.specs.declared.Custody.{Ghosts as Custodian}

-- Units that are taken in, or released.
pub data Movement : Type 0 where
  taking : (customer asset units : ℕ) → Movement
  release : (customer asset units : ℕ) → Movement

-- What one granted movement makes of a custody.
abbrev pub Move : {C : Type 0} → Custodian C → C → Movement → C → Type 0
Move g k (taking c a n) t = g.takes k c a n t
Move g k (release c a n) t = g.gives k c a n t

-- The custody k becomes t by these movements, in this order, and by no other.
abbrev pub Moves : {C : Type 0} → Custodian C → C → List Movement → C → Type 0
Moves g k [] t = t ≡ k
Moves {C} g k (m ∷ ms) t = (j : C) × Move g k m j × Moves g j ms t
