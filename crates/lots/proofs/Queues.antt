-- The lots of a store are queues, whatever movements come.
use Rattle.std.proofs.Common.{◌≡◌, ℕ, zero, suc, ◌+◌, ◌-◌, ◌<◌, ◌≤◌, min, Bool, true, false, cond, ◌&&◌, eqb, ltb, leb, ◌≢◌, List, [], ◌∷◌, ◌++◌, length, get_or, take, set, replicate, is_ok, sum, sym, refl, ap, ◌∙◌, inl, inr, ⊎_elim, arith}
use Rattle.std.specs.List.{prefix_len, AllByRecursion as All}
use Rattle.std.proofs.lemmas.Bool.{cases_lt, cases_Bool, cases_eq, eq-eqb, ne_eqb, le-leb, lt-leb, lt-ltb, le-ltb, ltb-true, leb-true, leb-false, eqb-true, and_parts, cond_both, both_ways}
use Rattle.std.proofs.lemmas.List.{get_or_past, set-get_or, length-append, length-set, length-replicate, drop-replicate, take-replicate}
use Rattle.std.proofs.ByRecursion.{All-push, All-set}
use Rattle.std.proofs.lemmas.List.Sums.{sum_by-cons}
use Rattle.refusals.specs.Ranges.{Known, ceiling}
use Rattle.custody.specs.Meaning.{taken, released}
use Rattle.custody.specs.Movements.{Movement, taking, release}
use Rattle.custody.proofs.Outcomes.{taken_tells, released_tells, taken_is, released_is}
use Rattle.lots.specs.declared.group.Lot.{Lot}
use Rattle.lots.specs.Groups.{lot, units_of, total, used, lot_for_more, added, moved_up, paid}
use Rattle.lots.specs.Stores.{place, group, with_group, sound, Sound, held, blocked, stored, drawn}
use Rattle.lots.specs.Queues.{joined, left, is_of, queue_after, queue, lots_of, store_after, stores, Shows, FirstInFirstOut}
use Rattle.lots.proofs.Groups.{moved_up_is, length_added, length_paid, total_added, total_paid}
use Rattle.lots.proofs.Stores.{length_group, length_with_group, group_same, group_other, sound_from}

-- ---- the lots of a queue
length_lots : (k : ℕ) (q : List ℕ) → length (lots_of k q) ≡ k
unfolding lots_of
length_lots zero q = refl
length_lots (suc k) [] = ap suc (length_lots k [])
length_lots (suc k) (x ∷ xs) = ap suc (length_lots k xs)

lots_at : (k i : ℕ) (q : List ℕ) → length q ≤ k → get_or (lots_of k q) i (lot 0) ≡ lot (get_or q i 0)
unfolding lots_of
lots_at zero i [] h = refl
lots_at zero i (x ∷ xs) h = absurd (omega arith)
lots_at (suc k) zero [] h = refl
lots_at (suc k) (suc i) [] h = lots_at k i [] (omega arith)
lots_at (suc k) zero (x ∷ xs) h = refl
lots_at (suc k) (suc i) (x ∷ xs) h = lots_at k i xs (omega arith)

total_lots : (k : ℕ) (q : List ℕ) → length q ≤ k → total (lots_of k q) ≡ sum q
unfolding lots_of
total_lots zero [] h = refl
total_lots zero (x ∷ xs) h = absurd (omega arith)
total_lots (suc k) [] h = sum_by-cons units_of (lot 0) (lots_of k []) ∙ omega (arith, total_lots k [] (omega arith))
total_lots (suc k) (x ∷ xs) h =
    sum_by-cons units_of (lot x) (lots_of k xs) ∙ ap (λ n. x + n) (total_lots k xs (omega arith)) ∙ sym (sum_by-cons (λ n. n) x xs)

-- One lot replaced, or one more.
set_lots : (k i v : ℕ) (q : List ℕ) → i < length q → length q ≤ k → set (lots_of k q) i (lot v) ≡ lots_of k (set q i v)
unfolding lots_of
set_lots k i v [] h l = absurd (omega arith)
set_lots zero i v (x ∷ xs) h l = absurd (omega arith)
set_lots (suc k) zero v (x ∷ xs) h l = refl
set_lots (suc k) (suc i) v (x ∷ xs) h l = ap (λ ls. lot x ∷ ls) (set_lots k i v xs (omega arith) (omega arith))

push_lots : (k v : ℕ) (q : List ℕ) → length q < k → set (lots_of k q) (length q) (lot v) ≡ lots_of k (q ++ v ∷ [])
unfolding lots_of
push_lots zero v q h = absurd (omega arith)
push_lots (suc k) v [] h = refl
push_lots (suc k) v (x ∷ xs) h = ap (λ ls. lot x ∷ ls) (push_lots k v xs (omega arith))

-- An unused lot behind them.
behind_lots : (k : ℕ) (q : List ℕ) → length q ≤ k → lots_of k q ++ lot 0 ∷ [] ≡ lots_of (suc k) q
unfolding lots_of
behind_lots zero [] h = refl
behind_lots zero (x ∷ xs) h = absurd (omega arith)
behind_lots (suc k) [] h = ap (λ ls. lot 0 ∷ ls) (behind_lots k [] (omega arith))
behind_lots (suc k) (x ∷ xs) h = ap (λ ls. lot x ∷ ls) (behind_lots k xs (omega arith))

-- A lot of nothing is an unused one.
push_none : (k : ℕ) (q : List ℕ) → lots_of k (q ++ 0 ∷ []) ≡ lots_of k q
unfolding lots_of
push_none zero q = refl
push_none (suc k) [] = refl
push_none (suc k) (x ∷ xs) = ap (λ ls. lot x ∷ ls) (push_none k xs)

-- The lots of a queue are used, and the next one is not.
used_lots : (j k : ℕ) (q : List ℕ) → j ≤ k → All (λ n. 0 < n) q → prefix_len used (take j (lots_of k q)) ≡ min (length q) j
unfolding lots_of
used_lots zero k q h u = omega arith
used_lots (suc j) zero q h u = absurd (omega arith)
used_lots (suc j) (suc k) [] h u = omega arith
used_lots (suc j) (suc k) (x ∷ xs) h u =
    rw (ne_eqb x 0 (λ e. omega (arith, u.0))) (omega (arith, used_lots j k xs (omega arith) u.1))

-- ---- what a group of lots does, a queue does
pub added_lots : (q : List ℕ) (n : ℕ) → All (λ x. 0 < x) q → length q ≤ 8 → added (lots_of 8 q) n ≡ lots_of 8 (joined q n)
unfolding added
added_lots q n u few =
    let at : lot_for_more (lots_of 8 q) ≡ min (length q) 7 = used_lots 7 8 q (omega arith) u in
    ⊎_elim
    (λ (h : length q < 8).
    let i : lot_for_more (lots_of 8 q) ≡ length q = omega arith in
    let old : get_or (lots_of 8 q) (length q) (lot 0) ≡ lot 0 = lots_at 8 (length q) q few ∙ ap lot (get_or_past q (length q) 0 (omega arith)) in
    rw (i, old)
    (⊎_elim
    (λ (z : n ≡ 0). rw (z) (push_lots 8 0 q h ∙ push_none 8 q))
    (λ (z : n ≢ 0). rw (ne_eqb n 0 z, lt-ltb (length q) 8 h) (let e : 0 + n ≡ n = omega arith in rw e (push_lots 8 n q h)))
    (cases_eq n 0)))
    (λ (h : 8 ≤ length q).
    let i : lot_for_more (lots_of 8 q) ≡ 7 = omega arith in
    let whole : set (lots_of 8 q) 7 (lot (get_or q 7 0 + n)) ≡ lots_of 8 (set q 7 (get_or q 7 0 + n)) = set_lots 8 7 (get_or q 7 0 + n) q (omega arith) few in
    rw (i, lots_at 8 7 q few)
    (⊎_elim
    (λ (z : n ≡ 0).
    let e : get_or q 7 0 + n ≡ get_or q 7 0 = omega arith in
    whole ∙ ap (λ v. lots_of 8 (set q 7 v)) e ∙ ap (lots_of 8) (set-get_or q 7 0) ∙ rw (eq-eqb n 0 z) refl)
    (λ (z : n ≢ 0). rw (ne_eqb n 0 z, le-ltb (length q) 8 h) whole)
    (cases_eq n 0)))
    (cases_lt (length q) 8)

pub paid_lots : (m n : ℕ) (q : List ℕ) → length q ≤ m → m ≤ 8 → paid m (lots_of 8 q) n ≡ lots_of 8 (left q n)
unfolding paid lots_of left
paid_lots zero n [] h l = refl
paid_lots zero n (x ∷ xs) h l = absurd (omega arith)
paid_lots (suc m) n [] h l = rw (le-leb 0 n (omega arith)) (paid_lots m (n - 0) [] (omega arith) (omega arith))
paid_lots (suc m) n (x ∷ xs) h l =
    let up : moved_up (lot x ∷ lots_of 7 xs) ≡ lots_of 8 xs =
    moved_up_is (lot x) (lots_of 7 xs) (ap suc (length_lots 7 xs)) ∙ behind_lots 7 xs (omega arith)
    in
    ⊎_elim
    (λ (e : x ≤ n). rw (le-leb x n e) (ap (λ g. paid m g (n - x)) up ∙ paid_lots m (n - x) xs (omega arith) (omega arith)))
    (λ (e : n < x). rw (lt-leb x n e) refl)
    (⊎_elim (λ (lt : n < x). inr lt) (λ (le : x ≤ n). inl le) (cases_lt n x))

-- ---- a queue stays one of at most eight used lots
joined_used : (q : List ℕ) (n : ℕ) → All (λ x. 0 < x) q → All (λ x. 0 < x) (joined q n)
joined_used q n u =
    ⊎_elim
    (λ (z : n ≡ 0). rw (eq-eqb n 0 z) u)
    (λ (z : n ≢ 0).
    rw (ne_eqb n 0 z)
    (cond_both (ltb (length q) 8) (q ++ n ∷ []) (set q 7 (get_or q 7 0 + n)) (All (λ x. 0 < x))
    (λ _. All-push (λ x. 0 < x) q n u (omega arith)) (λ _. All-set (λ x. 0 < x) q 7 (get_or q 7 0 + n) (omega arith) u)))
    (cases_eq n 0)

joined_few : (q : List ℕ) (n : ℕ) → length q ≤ 8 → length (joined q n) ≤ 8
joined_few q n few =
    cond_both (eqb n 0) q (cond (ltb (length q) 8) (q ++ n ∷ []) (set q 7 (get_or q 7 0 + n))) (λ l. length l ≤ 8)
    (λ _. few)
    (λ _.
    cond_both (ltb (length q) 8) (q ++ n ∷ []) (set q 7 (get_or q 7 0 + n)) (λ l. length l ≤ 8)
    (λ e. simp length-append (omega (arith, ltb-true (length q) 8 e))) (λ _. simp length-set few))

left_used : (q : List ℕ) (n : ℕ) → All (λ x. 0 < x) q → All (λ x. 0 < x) (left q n)
unfolding left
left_used [] n u = tt
left_used (x ∷ xs) n u =
    cond_both (leb x n) (left xs (n - x)) ((x - n) ∷ xs) (All (λ y. 0 < y))
    (λ _. left_used xs (n - x) u.1) (λ e. (omega (arith, leb-false x n e), u.1))

left_few : (q : List ℕ) (n : ℕ) → length (left q n) ≤ length q
unfolding left
left_few [] n = omega arith
left_few (x ∷ xs) n =
    cond_both (leb x n) (left xs (n - x)) ((x - n) ∷ xs) (λ l. length l ≤ suc (length xs))
    (λ _. omega (arith, left_few xs (n - x))) (λ _. omega arith)

-- ---- movements
-- What every movement keeps: the eight lots of a customer and asset are those of a queue within the ceiling.
record Queued (store : List Lot) (c a : ℕ) (q : List ℕ) : Type 0 where
  long : 2048 ≤ length store
  lots : group store c a ≡ lots_of 8 q
  few : length q ≤ 8
  full : All (λ x. 0 < x) q
  room : sum q ≤ ceiling a

-- No other name is this customer's and this asset's.
apart : (c a x y : ℕ) → (eqb x c && eqb y a) ≡ false → c ≡ x → a ≡ y → ⊥
apart c a x y t e f = both_ways (eqb x c && eqb y a) t (rw (eq-eqb x c (sym e), eq-eqb y a (sym f)) refl)

module _ (store : List Lot) (c a : ℕ) (k : Known c a) (q : List ℕ) (is : Queued store c a q) where
  group_total : total (group store c a) ≡ sum q
  group_total = ap total is.lots ∙ total_lots 8 q is.few

  stays_sound : sound store c a ≡ true
  stays_sound = sound_from store c a is.long (omega (arith, group_total, is.room))

  shows : Shows store c a q
  unfolding held blocked
  shows =
      record {
        lots = is.lots;
        units = rw stays_sound group_total;
        free = rw stays_sound refl;
      }

  -- Its own lots are replaced by those of another queue,
  own_group :
      (g : List Lot) (p : List ℕ) → g ≡ lots_of 8 p → length p ≤ 8 → All (λ x. 0 < x) p → total g ≤ ceiling a
      → Queued (with_group store c a g) c a p
  own_group g p e few full room =
      let eight : length g ≡ 8 = ap length e ∙ length_lots 8 p in
      let sums : total g ≡ sum p = ap total e ∙ total_lots 8 p few in
      record {
        long = omega (arith, length_with_group store is.long c a k g eight, is.long);
        lots = group_same store is.long c a k g eight ∙ e;
        few = few;
        full = full;
        room = omega arith;
      }

  -- or those of another customer or asset are.
  other_group : (x y : ℕ) (g : List Lot) → Known x y → length g ≡ 8 → (c ≡ x → a ≡ y → ⊥) → Queued (with_group store x y g) c a q
  other_group x y g m eight apart =
      record {
        long = omega (arith, length_with_group store is.long x y m g eight, is.long);
        lots = group_other store is.long x y m g eight c a k apart ∙ is.lots;
        few = is.few;
        full = is.full;
        room = is.room;
      }

  own_taking : (n : ℕ) → Queued (stored store c a n) c a (cond (leb (sum q + n) (ceiling a)) (joined q n) q)
  own_taking n =
      let granted : is_ok (taken (held store) c a n) ≡ leb (sum q + n) (ceiling a) =
      taken_is (held store) c a n k ∙ ap (λ h. leb (h + n) (ceiling a)) shows.units
      in
      let eight : length (group store c a) ≡ 8 = length_group store is.long c a k in
      rw (granted, stays_sound)
      (⊎_elim
      (λ (t : leb (sum q + n) (ceiling a) ≡ true).
      rw t
      (own_group (added (group store c a) n) (joined q n) (ap (λ g. added g n) is.lots ∙ added_lots q n is.full is.few)
      (joined_few q n is.few) (joined_used q n is.full)
      (omega (arith, total_added (group store c a) eight n, group_total, leb-true (sum q + n) (ceiling a) t))))
      (λ (t : leb (sum q + n) (ceiling a) ≡ false). rw t is)
      (cases_Bool (leb (sum q + n) (ceiling a))))

  own_release : (n : ℕ) → Queued (drawn store c a n) c a (cond (leb n (sum q)) (left q n) q)
  own_release n =
      let granted : is_ok (released (held store) (blocked store) c a n) ≡ leb n (sum q) =
      released_is (held store) (blocked store) c a n k shows.free (omega (arith, shows.units, is.room)) ∙ ap (leb n) shows.units
      in
      let eight : length (group store c a) ≡ 8 = length_group store is.long c a k in
      rw granted
      (⊎_elim
      (λ (t : leb n (sum q) ≡ true).
      rw t
      (own_group (paid 8 (group store c a) n) (left q n) (ap (λ g. paid 8 g n) is.lots ∙ paid_lots 8 n q is.few (omega arith))
      (omega (arith, left_few q n, is.few)) (left_used q n is.full)
      (omega (arith, total_paid (group store c a) n eight (omega (arith, group_total, leb-true n (sum q) t)), group_total, is.room))))
      (λ (t : leb n (sum q) ≡ false). rw t is)
      (cases_Bool (leb n (sum q))))

  -- A movement of another leaves this queue.
  other_movement :
      (granted : Bool) (x y : ℕ) (g : List Lot) → (granted ≡ true → Known x y × (length g ≡ 8)) → (c ≡ x → a ≡ y → ⊥)
      → Queued (cond granted (with_group store x y g) store) c a q
  other_movement granted x y g tells apart =
      cond_both granted (with_group store x y g) store (λ s. Queued s c a q)
      (λ t. other_group x y g (tells t).0 (tells t).1 apart) (λ _. is)

  -- A movement is of this customer and asset, or of another.
  by_whom :
      (x y : ℕ) (after : ℕ → ℕ → List Lot) (ok : Bool) (p : List ℕ) → Queued (after c a) c a (cond ok p q)
      → ((c ≡ x → a ≡ y → ⊥) → Queued (after x y) c a q) → Queued (after x y) c a (cond (is_of c a x y && ok) p q)
  by_whom x y after ok p own other =
      ⊎_elim
      (λ (t : is_of c a x y ≡ true).
      let parts = and_parts (eqb x c) (eqb y a) t in
      let ex : x ≡ c = eqb-true x c parts.0 in
      let ey : y ≡ a = eqb-true y a parts.1 in
      rw (t, ex, ey) own)
      (λ (t : is_of c a x y ≡ false). rw t (other (apart c a x y t)))
      (cases_Bool (is_of c a x y))

  moves : (m : Movement) → Queued (store_after store m) c a (queue_after c a q m)
  moves (taking x y n) =
      by_whom x y (λ u v. stored store u v n) (leb (sum q + n) (ceiling a)) (joined q n) (own_taking n)
      (other_movement (is_ok (taken (held store) x y n) && sound store x y) x y (added (group store x y) n)
      (λ e.
      let h = taken_tells (held store) x y n (and_parts (is_ok (taken (held store) x y n)) (sound store x y) e).0 in
      (h.0, length_added (group store x y) n ∙ length_group store is.long x y h.0)))
  moves (release x y n) =
      by_whom x y (λ u v. drawn store u v n) (leb n (sum q)) (left q n) (own_release n)
      (other_movement (is_ok (released (held store) (blocked store) x y n)) x y (paid 8 (group store x y) n)
      (λ e.
      let h = released_tells (held store) (blocked store) x y n e in
      (h.0, length_paid 8 (group store x y) n (length_group store is.long x y h.0))))

all_movements : (ms : List Movement) (store : List Lot) (c a : ℕ) (q : List ℕ) → Known c a → Queued store c a q → Shows (stores store ms) c a (queue c a q ms)
all_movements [] store c a q k is = shows store c a k q is
all_movements (m ∷ ms) store c a q k is =
    all_movements ms (store_after store m) c a (queue_after c a q m) k (moves store c a k q is m)

-- A cleared store begins with no lots at all.
pub cleared_queues : (n : ℕ) → 2048 ≤ n → FirstInFirstOut (replicate n (lot 0))
unfolding lots_of
cleared_queues n long ms c a k =
    all_movements ms (replicate n (lot 0)) c a [] k
    (record {
      long = omega (arith, length-replicate n (lot 0));
      lots = ap (take 8) (drop-replicate (place c a) n (lot 0)) ∙ take-replicate 8 (n - place c a) (lot 0) (omega arith);
      few = omega arith;
      full = tt;
      room = omega arith;
    })

-- So does every store that is made,
pub made_queues : (n : ℕ) (store : List Lot) → store ≡ replicate n (lot 0) → 2048 ≤ n → FirstInFirstOut store
made_queues n store e long = rw e (cleared_queues n long)

-- and none is unsound.
pub made_sound : (store : List Lot) → FirstInFirstOut store → Sound store
unfolding blocked
made_sound store queues c a k =
    let free : blocked store c a ≡ 0 = (queues [] c a k).free in
    ⊎_elim
    (λ (t : sound store c a ≡ true). t)
    (λ (t : sound store c a ≡ false). let full : blocked store c a ≡ 255 = rw t refl in absurd (omega (arith, free)))
    (cases_Bool (sound store c a))
