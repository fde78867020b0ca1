-- The store of lots: eight for each customer and asset, by customer, then asset.
use Rattle.std.specs.Prelude.{◌≡◌, ℕ, ◌+◌, ◌-◌, ◌*◌, Bool, true, cond, ◌&&◌, List, [], ◌∷◌, ◌++◌, length, take, drop, replicate, is_ok, Result, nat_le}
use Rattle.refusals.specs.declared.Refusal.TheVariants.{FewLots}
use Rattle.refusals.specs.declared.Fault.{Fault}
use Rattle.refusals.specs.Refusals.{fault}
use Rattle.refusals.specs.Checks.{Check, passed}
use Rattle.refusals.specs.Ranges.{Known, ceiling}
use Rattle.custody.specs.Meaning.{Figures, taken, released}
use Rattle.lots.specs.declared.group.Lot.{Lot}
use Rattle.lots.specs.Groups.{lot, total, added, paid}

-- ---- making
-- A store has at least 2,048 lots.
abbrev pub is_store : List Lot → Bool
is_store store = nat_le 2048 (length store)

abbrev pub store_check : List Lot → Check
store_check store = (is_store store, fault FewLots 0)

-- Making clears the whole store; one that is too short is refused, and left as it is.
abbrev pub prepared : List Lot → Result (Unit {0}) Fault
prepared store = passed (store_check store ∷ [])

abbrev pub cleared : List Lot → List Lot
cleared store = cond (is_store store) (replicate (length store) (lot 0)) store

-- ---- groups
-- Where the eight lots of a customer and asset begin.
abbrev pub place : ℕ → ℕ → ℕ
place c a = 32 * (c - 1) + 8 * (a - 1)

abbrev pub eight_at : List Lot → ℕ → List Lot
eight_at store at = take 8 (drop at store)

-- The store with eight lots replaced, and no other.
abbrev pub with_eight : List Lot → ℕ → List Lot → List Lot
with_eight store at g = take at store ++ (g ++ drop 8 (drop at store))

abbrev pub group : List Lot → ℕ → ℕ → List Lot
group store c a = eight_at store (place c a)

abbrev pub with_group : List Lot → ℕ → ℕ → List Lot → List Lot
with_group store c a g = with_eight store (place c a) g

-- ---- meaning
-- The store is long enough, and this group within its ceiling. Every store that is made is so and stays so;
-- any other list of lots counts as full and blocked, so that the meaning is total.
abbrev pub sound : List Lot → ℕ → ℕ → Bool
sound store c a = is_store store && nat_le (total (group store c a)) (ceiling a)

-- What holds of every account: its store is long enough, and each group within its ceiling.
abbrev pub Sound : List Lot → Type 0
Sound store = (c a : ℕ) → Known c a → sound store c a ≡ true

-- Held units are those of the eight lots; the ceiling stands for what was never made.
unfoldable pub held : List Lot → Figures
held store c a = cond (sound store c a) (total (group store c a)) (ceiling a)

-- Lots never block; 255 stands for what was never made.
unfoldable pub blocked : List Lot → Figures
blocked store c a = cond (sound store c a) 0 255

-- ---- the store after a call
-- The store with more units of a customer and asset, or with less: their own group changes, and no other.
abbrev pub with_more : List Lot → ℕ → ℕ → ℕ → List Lot
with_more store c a n = with_group store c a (added (group store c a) n)

abbrev pub with_less : List Lot → ℕ → ℕ → ℕ → List Lot
with_less store c a n = with_group store c a (paid 8 (group store c a) n)

-- A refused call leaves the store.
abbrev pub stored : List Lot → ℕ → ℕ → ℕ → List Lot
stored store c a n = cond (is_ok (taken (held store) c a n) && sound store c a) (with_more store c a n) store

abbrev pub drawn : List Lot → ℕ → ℕ → ℕ → List Lot
drawn store c a n = cond (is_ok (released (held store) (blocked store) c a n)) (with_less store c a n) store
