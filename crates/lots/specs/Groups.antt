-- The eight lots of one customer and asset, oldest first.
use Rattle.std.specs.Prelude.{ℕ, zero, suc, ◌+◌, ◌-◌, Bool, cond, not, List, ◌++◌, take, drop, sum_by, ◌==◌, nat_le, slice_index_or, slice_set}
use Rattle.std.specs.List.{prefix_len}
use Rattle.lots.specs.declared.group.Lot.{Lot}

abbrev pub lot : ℕ → Lot
lot n = record { units = n }

abbrev pub units_of : Lot → ℕ
units_of l = l.units

-- The units in a group of lots.
abbrev pub total : List Lot → ℕ
total g = sum_by units_of g

-- Unused lots hold zero.
abbrev pub used : Lot → Bool
used l = not (units_of l == 0)

-- Where units that come in go: the first unused lot, or the newest when all eight are used.
abbrev pub lot_for_more : List Lot → ℕ
lot_for_more g = prefix_len used (take 7 g)

-- What a lot holds after units join it, which is a new lot where it held none.
abbrev pub grown : Lot → ℕ → Lot
grown l n = lot (units_of l + n)

unfoldable pub added : List Lot → ℕ → List Lot
added g n = slice_set g (lot_for_more g) (grown (slice_index_or g (lot_for_more g) (lot 0)) n)

abbrev pub oldest : List Lot → ℕ
oldest g = units_of (slice_index_or g 0 (lot 0))

-- The oldest lot is emptied, and those left move up.
abbrev pub moved_up : List Lot → List Lot
moved_up g = slice_set (drop 1 g ++ take 1 g) 7 (lot 0)

-- The oldest lot gives units and is not emptied.
abbrev pub opened : List Lot → ℕ → List Lot
opened g n = slice_set g 0 (lot (oldest g - n))

-- Units that go out, of at most k lots: the oldest lots are emptied first, and the oldest left gives the rest.
unfoldable pub paid : ℕ → List Lot → ℕ → List Lot
paid zero g n = g
paid (suc k) g n = cond (nat_le (oldest g) n) (paid k (moved_up g) (n - oldest g)) (opened g n)
