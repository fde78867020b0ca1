-- Break marks, and what a statement of the custodian answers.
use Rattle.std.specs.Prelude.{ℕ, Bool, false, cond, not, List, ℤ, pos, ◌-ℤ◌, is_ok, Result, ◌==◌, slice_index_or, slice_set}
use Rattle.refusals.specs.declared.Fault.{Fault}
use Rattle.refusals.specs.Checks.{passed_with}
use Rattle.refusals.specs.Ranges.{spot, range_checks}
use Rattle.custody.specs.Meaning.{Figures, one_deeper}

-- The marks stand by customer, then asset: whether a customer and asset is under a break mark.
abbrev pub marked : List Bool → ℕ → ℕ → Bool
marked breaks c a = slice_index_or breaks (spot c a) false

-- The block depth under a mark, or not, over the depth below.
abbrev pub depth_over : Bool → ℕ → ℕ
depth_over mark below = cond mark 1 (one_deeper below)

abbrev pub depths_over : List Bool → Figures → Figures
depths_over breaks deep c a = depth_over (marked breaks c a) (deep c a)

-- Stated less held, below zero when the custodian states less.
abbrev pub difference : ℕ → ℕ → ℤ
difference stated held = pos stated -ℤ pos held

-- The custodian is off.
abbrev pub is_break : ℕ → ℕ → Bool
is_break stated held = not (stated == held)

-- A statement answers stated less held,
abbrev pub stating : Figures → ℕ → ℕ → ℕ → Result ℤ Fault
stating held c a stated = passed_with (difference stated (held c a)) (range_checks c a stated)

-- and sets the mark unless that is zero, which clears it; a refused one leaves the marks.
abbrev pub marks_after : Figures → List Bool → ℕ → ℕ → ℕ → List Bool
marks_after held breaks c a stated =
    cond (is_ok (stating held c a stated)) (slice_set breaks (spot c a) (is_break stated (held c a))) breaks
