-- The law of the lots, over every list of movements after making: the eight lots of a customer and asset
-- are a queue, first in, first out, of that customer's own movements of that asset, and of nobody else's.
use Rattle.std.specs.Prelude.{◌≡◌, ℕ, zero, suc, ◌+◌, ◌-◌, Bool, cond, ◌&&◌, List, [], ◌∷◌, ◌++◌, length, sum, ◌==◌, nat_le, nat_lt, slice_index, slice_set}
use Rattle.refusals.specs.Ranges.{Known, ceiling}
use Rattle.custody.specs.Movements.{Movement, taking, release}
use Rattle.lots.specs.declared.group.Lot.{Lot}
use Rattle.lots.specs.Groups.{lot}
use Rattle.lots.specs.Stores.{group, held, blocked, stored, drawn}

-- ---- a queue of units, oldest first
-- At least one unit comes in as a new lot, or joins the newest when there are eight.
abbrev pub joined : List ℕ → ℕ → List ℕ
joined q n = cond (n == 0) q (cond (nat_lt (length q) 8) (q ++ n ∷ []) (slice_set q 7 (slice_index q 7 + n)))

-- Units that go out empty the oldest lots first, and those left move up.
unfoldable pub left : List ℕ → ℕ → List ℕ
left [] n = []
left (x ∷ xs) n = cond (nat_le x n) (left xs (n - x)) ((x - n) ∷ xs)

-- Whether a movement is of this customer and asset.
abbrev pub is_of : ℕ → ℕ → ℕ → ℕ → Bool
is_of c a x y = x == c && y == a

-- What a movement leaves of the queue of a customer and asset: only their own change it,
-- a taking in if the ceiling allows it, a release if so much is held.
abbrev pub queue_after : ℕ → ℕ → List ℕ → Movement → List ℕ
queue_after c a q (taking x y n) = cond (is_of c a x y && nat_le (sum q + n) (ceiling a)) (joined q n) q
queue_after c a q (release x y n) = cond (is_of c a x y && nat_le n (sum q)) (left q n) q

abbrev pub queue : ℕ → ℕ → List ℕ → List Movement → List ℕ
queue c a q [] = q
queue c a q (m ∷ ms) = queue c a (queue_after c a q m) ms

-- k lots: those of a queue, and then unused ones.
unfoldable pub lots_of : ℕ → List ℕ → List Lot
lots_of zero q = []
lots_of (suc k) [] = lot 0 ∷ lots_of k []
lots_of (suc k) (x ∷ xs) = lot x ∷ lots_of k xs

-- ---- the store after movements, granted or refused
abbrev pub store_after : List Lot → Movement → List Lot
store_after store (taking c a n) = stored store c a n
store_after store (release c a n) = drawn store c a n

abbrev pub stores : List Lot → List Movement → List Lot
stores store [] = store
stores store (m ∷ ms) = stores (store_after store m) ms

-- A store shows a queue for a customer and asset: in its eight lots, in the units held, and it does not block.
pub record Shows (store : List Lot) (c a : ℕ) (q : List ℕ) : Type 0 where
  pub lots : group store c a ≡ lots_of 8 q
  pub units : held store c a ≡ sum q
  pub free : blocked store c a ≡ 0

-- From this store on, every list of movements leaves the queue of each customer and asset.
abbrev pub FirstInFirstOut : List Lot → Type 0
FirstInFirstOut store =
    (ms : List Movement) (c a : ℕ) → Known c a → Shows (stores store ms) c a (queue c a [] ms)
