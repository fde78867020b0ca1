-- What a custody means: two figures for each customer and asset, the units held and the block depth,
-- and what each call answers and leaves, by these figures alone.
use Rattle.std.specs.Prelude.{◌≡◌, ℕ, ◌+◌, ◌-◌, ◌≤◌, min, cond, ◌&&◌, List, [], ◌∷◌, ◌++◌, is_ok, Result, ◌==◌, nat_le}
use Rattle.refusals.specs.declared.Refusal.TheVariants.{Limit, Blocked, NotHeld}
use Rattle.refusals.specs.declared.Fault.{Fault}
use Rattle.refusals.specs.Refusals.{fault_at}
use Rattle.refusals.specs.Checks.{Check, passed, passed_with}
use Rattle.refusals.specs.Ranges.{Known, ceiling, name_checks, range_checks}

-- A figure for each customer and asset.
abbrev pub Figures : Type 0
Figures = ℕ → ℕ → ℕ

-- Alike for each of the 64 customers and four assets.
abbrev pub Alike : {X : Type 0} → (ℕ → ℕ → X) → (ℕ → ℕ → X) → Type 0
Alike f g = (c a : ℕ) → Known c a → f c a ≡ g c a

-- Held units never pass the ceiling, and a block depth is at most 255.
abbrev pub Bounded : Figures → Figures → Type 0
Bounded held deep = (c a : ℕ) → Known c a → (held c a ≤ ceiling a) × (deep c a ≤ 255)

-- ---- answers
-- The question answers the two figures.
abbrev pub answered : Figures → Figures → ℕ → ℕ → Result (ℕ × ℕ) Fault
answered held deep c a = passed_with (held c a, deep c a) (name_checks c a)

-- The ceiling would not be passed;
abbrev pub room_check : ℕ → ℕ → ℕ → ℕ → Check
room_check held c a n = (nat_le (held + n) (ceiling a), fault_at Limit c a 0)

-- the asset is not blocked;
abbrev pub free_check : ℕ → ℕ → ℕ → Check
free_check deep c a = ((deep == 0), fault_at Blocked c a deep)

-- no more is asked for than is held.
abbrev pub held_check : ℕ → ℕ → ℕ → ℕ → Check
held_check held c a n = (nat_le n held, fault_at NotHeld c a 0)

-- Taking in, by the units held: after the ranges, refused if the ceiling would be passed.
abbrev pub taking_in : ℕ → ℕ → ℕ → ℕ → List Check
taking_in held c a n = range_checks c a n ++ room_check held c a n ∷ []

-- Releasing, by the units held and the block depth: after the ranges, refused if blocked, and then if more is asked for than is held.
abbrev pub releasing : ℕ → ℕ → ℕ → ℕ → ℕ → List Check
releasing held deep c a n = range_checks c a n ++ free_check deep c a ∷ held_check held c a n ∷ []

abbrev pub taken : Figures → ℕ → ℕ → ℕ → Result (Unit {0}) Fault
taken held c a n = passed (taking_in (held c a) c a n)

abbrev pub released : Figures → Figures → ℕ → ℕ → ℕ → Result (Unit {0}) Fault
released held deep c a n = passed (releasing (held c a) (deep c a) c a n)

-- ---- figures after
-- One figure is replaced, and no other changes.
abbrev pub with_figure : Figures → ℕ → ℕ → ℕ → Figures
with_figure f c a v x y = cond (x == c && y == a) v (f x y)

-- Taking in adds the units, and releasing subtracts them.
abbrev pub raised : Figures → ℕ → ℕ → ℕ → Figures
raised held c a n = with_figure held c a (held c a + n)

abbrev pub lowered : Figures → ℕ → ℕ → ℕ → Figures
lowered held c a n = with_figure held c a (held c a - n)

-- What a grant leaves; a refusal leaves the figures as they stood.
abbrev pub if_granted : {X : Type 0} → Result X Fault → Figures → Figures → Figures
if_granted r granted before c a = cond (is_ok r) (granted c a) (before c a)

-- ---- layers
-- A block seen from one layer further up: one deeper, staying at 255; what is free stays free.
abbrev pub one_deeper : ℕ → ℕ
one_deeper d = cond (d == 0) 0 (min (d + 1) 255)
