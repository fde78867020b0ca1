-- The eight lots of a customer and asset: where units go, and what each step of a release leaves.
use Rattle.std.proofs.Common.{◌≡◌, ℕ, zero, suc, ◌+◌, ◌-◌, ◌<◌, ◌≤◌, true, false, cond, leb, List, [], ◌∷◌, ◌++◌, length, get_or, take, Some, None, sym, refl, ap, ◌∙◌, ⊎_elim, arith}
use Rattle.std.proofs.lemmas.List.{take_all, length-take-le, set_at, length-set, length-append}
use Rattle.std.proofs.lemmas.List.Sums.{sum_by-set, sum_by-append, sum_by-cons, prefix_len-le-length}
use Rattle.std.proofs.lemmas.Bool.{le-leb, lt-leb, cases_lt, cases_Bool, cond_both}
use Rattle.lots.specs.Groups.{lot, units_of, total, used, lot_for_more, grown, added, oldest, moved_up, opened, paid}
use Rattle.lots.specs.declared.group.Lot.{Lot}

-- ---- where units go
module _ (g : List Lot) (eight : length g ≡ 8) where
  seven : length (take 7 g) ≡ 7
  seven = length-take-le 7 g (omega arith)

  lot_for_more_within : lot_for_more g < 8
  lot_for_more_within = omega (arith, prefix_len-le-length used (take 7 g), seven)

  pub total_added : (n : ℕ) → total (added g n) ≡ total g + n
  unfolding added
  total_added n =
      omega (arith, sum_by-set units_of g (lot_for_more g) (grown (get_or g (lot_for_more g) (lot 0)) n) (lot 0) (omega (arith, lot_for_more_within)))

pub length_added : (g : List Lot) (n : ℕ) → length (added g n) ≡ length g
unfolding added
length_added g n = simp length-set

-- ---- a release
-- Those left, and an unused lot behind them.
pub moved_up_is : (l : Lot) (ls : List Lot) → length (l ∷ ls) ≡ 8 → moved_up (l ∷ ls) ≡ ls ++ lot 0 ∷ []
moved_up_is l ls n = set_at ls l [] (lot 0) 7 (omega arith)

length_moved_up : (g : List Lot) → length g ≡ 8 → length (moved_up g) ≡ 8
length_moved_up [] n = absurd (omega arith)
length_moved_up (l ∷ ls) n = rw (moved_up_is l ls n) (simp length-append (omega arith))

pub paid_none : (g : List Lot) (n : ℕ) → paid 0 g n ≡ g
unfolding paid
paid_none g n = refl

-- One turn of a release at k + 1 lots, by what it answers: the oldest lot was opened and the release is over,
pub last_turn :
    (k m : ℕ) (g h : List Lot) (n : ℕ) → k ≡ suc m
    → None ≡ cond (leb (oldest g) n) (Some (n - oldest g)) None → h ≡ cond (leb (oldest g) n) (moved_up g) (opened g n) → h ≡ paid k g n
unfolding paid
last_turn k m g h n e r a =
    ⊎_elim
    (λ (t : leb (oldest g) n ≡ true). let z : ◌≡◌ {A = ℕ} 0 1 = let q = rw t at r in cc in absurd (omega arith))
    (λ (t : leb (oldest g) n ≡ false). a ∙ rw (e, t) refl)
    (cases_Bool (leb (oldest g) n))

-- or it was emptied and the release goes on.
pub next_turn :
    (k m : ℕ) (g h : List Lot) (n rest : ℕ) → k ≡ suc m
    → Some rest ≡ cond (leb (oldest g) n) (Some (n - oldest g)) None → h ≡ cond (leb (oldest g) n) (moved_up g) (opened g n) → paid m h rest ≡ paid k g n
unfolding paid
next_turn k m g h n rest e r a =
    ⊎_elim
    (λ (t : leb (oldest g) n ≡ true).
    let left : rest ≡ n - oldest g = let q = rw t at r in cc in
    let up : h ≡ moved_up g = rw t at a in
    rw (e, t, up, left) refl)
    (λ (t : leb (oldest g) n ≡ false). let z : ◌≡◌ {A = ℕ} 0 1 = let q = rw t at r in cc in absurd (omega arith))
    (cases_Bool (leb (oldest g) n))

-- A lot behind the others that holds nothing adds nothing.
total_behind : (ls : List Lot) → total (ls ++ lot 0 ∷ []) ≡ total ls
total_behind ls = sum_by-append units_of ls (lot 0 ∷ []) ∙ omega arith

front_behind : (k : ℕ) (ls : List Lot) → total (take k (ls ++ lot 0 ∷ [])) ≡ total (take k ls)
front_behind zero ls = refl
front_behind (suc k) [] = elim k as (λ m. total (lot 0 ∷ take m []) ≡ total (take {A = Lot} (suc m) [])) [ zero ↦ refl | suc m ↦ refl ]
front_behind (suc k) (l ∷ ls) =
    sum_by-cons units_of l (take k (ls ++ lot 0 ∷ [])) ∙ ap (λ n. units_of l + n) (front_behind k ls) ∙ sym (sum_by-cons units_of l (take k ls))

-- What goes out is missing afterwards.
total_paid_front : (k : ℕ) (g : List Lot) (n : ℕ) → length g ≡ 8 → n ≤ total (take k g) → total (paid k g n) + n ≡ total g
unfolding paid
total_paid_front zero g n e h = omega (arith, h)
total_paid_front (suc k) [] n e h = absurd (omega arith)
total_paid_front (suc k) (l ∷ ls) n e h =
    let up = moved_up_is l ls e in
    ⊎_elim
    (λ (lt : n < units_of l). rw (lt-leb (units_of l) n lt) (omega (arith, sum_by-cons units_of (lot (units_of l - n)) ls, sum_by-cons units_of l ls)))
    (λ (le : units_of l ≤ n).
    let rest = total_paid_front k (ls ++ lot 0 ∷ []) (n - units_of l) (simp length-append (omega arith)) (omega (arith, front_behind k ls, sum_by-cons units_of l (take k ls))) in
    rw (le-leb (units_of l) n le, up) (omega (arith, total_behind ls, sum_by-cons units_of l ls)))
    (cases_lt n (units_of l))

pub total_paid : (g : List Lot) (n : ℕ) → length g ≡ 8 → n ≤ total g → total (paid 8 g n) ≡ total g - n
total_paid g n e h =
    let all : total (take 8 g) ≡ total g = ap total (take_all 8 g (omega arith)) in
    omega (arith, total_paid_front 8 g n e (omega arith))

pub length_paid : (k : ℕ) (g : List Lot) (n : ℕ) → length g ≡ 8 → length (paid k g n) ≡ 8
unfolding paid
length_paid zero g n e = e
length_paid (suc k) g n e =
    cond_both (leb (oldest g) n) (paid k (moved_up g) (n - oldest g)) (opened g n) (λ ls. length ls ≡ 8)
    (λ _. length_paid k (moved_up g) (n - oldest g) (length_moved_up g e)) (λ _. simp length-set e)
