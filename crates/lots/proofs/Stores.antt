-- The store of lots: one group replaced leaves the others, and what each call leaves of the figures.
use Rattle.std.proofs.Common.{◌≡◌, ℕ, ◌+◌, ◌-◌, ◌<◌, ◌≤◌, true, leb, ◌≢◌, ◌⊎◌, List, length, take, drop, sym, refl, ap, ◌∙◌, inl, inr, ⊎_elim, arith}
use Rattle.std.proofs.lemmas.List.{length-append, length-take-le, length-drop}
use Rattle.std.proofs.lemmas.Slice.{between_is, take-put_mid_below, drop-put_mid, between-put_mid}
use Rattle.std.proofs.lemmas.Bool.Decides.{nat_tests}
use Rattle.std.proofs.lemmas.Bool.{cases_lt, cases_eq, le-leb, eq-eqb, and_from, and_parts, leb-true}
use Rattle.refusals.specs.declared.holding.Holding.{Holding}
use Rattle.refusals.specs.Ranges.{Known, ceiling}
use Rattle.custody.specs.Meaning.{Alike, Bounded, with_figure}
use Rattle.custody.proofs.Outcomes.{figure_apart}
use Rattle.lots.specs.Groups.{total, added, paid}
use Rattle.lots.specs.Stores.{place, eight_at, with_eight, group, with_group, sound, Sound, with_more, with_less, held, blocked}
use Rattle.lots.specs.declared.group.Lot.{Lot}
use Rattle.lots.proofs.Groups.{total_paid, total_added, length_added, length_paid}

-- ---- eight lots of a store
module _ (store : List Lot) (at : ℕ) (g : List Lot) (within : at + 8 ≤ length store) (eight : length g ≡ 8) where
  eight_same : eight_at (with_eight store at g) at ≡ g
  eight_same = let e : at + 8 - at ≡ 8 = omega arith in rw e at (between-put_mid at 8 store g (at + 8) (omega arith) (omega arith))

  eight_other : (to : ℕ) → (to + 8 ≤ at) ⊎ (at + 8 ≤ to) → eight_at (with_eight store at g) to ≡ eight_at store to
  eight_other to =
      ⊎_elim
      (λ (l : to + 8 ≤ at).
      let e : to + 8 - to ≡ 8 = omega arith in
      let p : eight_at (with_eight store at g) to ≡ drop to (take (to + 8) (with_eight store at g)) = rw e at (between_is (with_eight store at g) to (to + 8)) in
      let q : eight_at store to ≡ drop to (take (to + 8) store) = rw e at (between_is store to (to + 8)) in
      p ∙ ap (drop to) (take-put_mid_below at 8 store g (to + 8) l (omega arith)) ∙ sym q)
      (λ (l : at + 8 ≤ to). ap (take 8) (drop-put_mid at 8 store g to l (omega arith) eight))

  length_with_eight : length (with_eight store at g) ≡ length store
  length_with_eight = simp (length-append, length-drop, length-take-le at store (omega arith)) (omega arith)

places_apart :
    (c a x y : ℕ) → Known c a → Known x y → (x ≡ c → y ≡ a → ⊥) → (place x y + 8 ≤ place c a) ⊎ (place c a + 8 ≤ place x y)
places_apart c a x y k m d =
    ⊎_elim (λ (l : place x y < place c a). inl (omega arith))
    (λ (l : place c a ≤ place x y).
    ⊎_elim (λ (e : x ≡ c). ⊎_elim (λ (f : y ≡ a). absurd (d e f)) (λ (f : y ≢ a). inr (omega arith)) (cases_eq y a))
    (λ (e : x ≢ c). inr (omega arith)) (cases_eq x c))
    (cases_lt (place x y) (place c a))

-- ---- one group of a store that is long enough
module _ (store : List Lot) (long : 2048 ≤ length store) (c a : ℕ) (k : Known c a) where
  pub length_group : length (group store c a) ≡ 8
  length_group = length-take-le 8 (drop (place c a) store) (simp length-drop (omega arith))

  module _ (g : List Lot) (eight : length g ≡ 8) where
    pub length_with_group : length (with_group store c a g) ≡ length store
    length_with_group = length_with_eight store (place c a) g (omega arith) eight

    pub group_same : group (with_group store c a g) c a ≡ g
    group_same = eight_same store (place c a) g (omega arith) eight

    pub group_other : (x y : ℕ) → Known x y → (x ≡ c → y ≡ a → ⊥) → group (with_group store c a g) x y ≡ group store x y
    group_other x y m d = eight_other store (place c a) g (omega arith) eight (place x y) (places_apart c a x y k m d)

-- ---- figures
pub sound_parts : (store : List Lot) (c a : ℕ) → sound store c a ≡ true → (2048 ≤ length store) × (total (group store c a) ≤ ceiling a)
sound_parts store c a e =
    let p = and_parts (leb 2048 (length store)) (leb (total (group store c a)) (ceiling a)) e in
    (leb-true _ _ p.0, leb-true _ _ p.1)

pub sound_from : (store : List Lot) (c a : ℕ) → 2048 ≤ length store → total (group store c a) ≤ ceiling a → sound store c a ≡ true
sound_from store c a h l = and_from _ _ (le-leb _ _ h) (le-leb _ _ l)

held_sound : (store : List Lot) (c a : ℕ) → sound store c a ≡ true → held store c a ≡ total (group store c a)
unfolding held
held_sound store c a s = rw s refl

free_sound : (store : List Lot) (c a : ℕ) → sound store c a ≡ true → blocked store c a ≡ 0
unfolding blocked
free_sound store c a s = rw s refl

-- The figures of any list of lots are in range.
pub bounded : (store : List Lot) → Bounded (held store) (blocked store)
unfolding held blocked
bounded store c a k = (grind (arith, nat_tests), grind (arith, nat_tests))

-- One group replaced by another within the ceiling: every group is sound, one figure is that group's, no other changes, and
-- nothing is blocked.
pub record Regrouped (store after : List Lot) (c a v : ℕ) : Type 0 where
  pub sound : Sound after
  pub figures : Alike (held after) (with_figure (held store) c a v)
  pub depths : Alike (blocked after) (blocked store)

module _ (store : List Lot) (s : Sound store) (holding : Holding) where
  long : 2048 ≤ length store
  long = (sound_parts store holding.customer holding.asset (s holding.customer holding.asset holding.known)).0

  own_eight : length (group store holding.customer holding.asset) ≡ 8
  own_eight = length_group store long holding.customer holding.asset holding.known

  own_held : held store holding.customer holding.asset ≡ total (group store holding.customer holding.asset)
  own_held = held_sound store holding.customer holding.asset (s holding.customer holding.asset holding.known)

  -- What holds of the new group, and of the others as they stood, holds of each.
  each_group :
      (g : List Lot) → length g ≡ 8 → (P : ℕ → ℕ → List Lot → Type 0) → P holding.customer holding.asset g
      → ((x y : ℕ) → Known x y → (x ≡ holding.customer → y ≡ holding.asset → ⊥) → P x y (group store x y))
      → (x y : ℕ) → Known x y → P x y (group (with_group store holding.customer holding.asset g) x y)
  each_group g eight P own other x y m =
      let apart : (x ≡ holding.customer → y ≡ holding.asset → ⊥) → P x y (group (with_group store holding.customer holding.asset g) x y) =
      λ d. rw (group_other store long holding.customer holding.asset holding.known g eight x y m d) (other x y m d)
      in
      ⊎_elim
      (λ (ex : x ≡ holding.customer).
      ⊎_elim
      (λ (ey : y ≡ holding.asset). rw (ex, ey, group_same store long holding.customer holding.asset holding.known g eight) own)
      (λ (ey : y ≢ holding.asset). apart (λ _ f. ey f))
      (cases_eq y holding.asset))
      (λ (ex : x ≢ holding.customer). apart (λ e _. ex e))
      (cases_eq x holding.customer)

  regrouped :
      (g : List Lot) (v : ℕ) → length g ≡ 8 → total g ≡ v → v ≤ ceiling holding.asset
      → Regrouped store (with_group store holding.customer holding.asset g) holding.customer holding.asset v
  regrouped g v eight sum room =
      let to = with_group store holding.customer holding.asset g in
      let len : length to ≡ length store = length_with_group store long holding.customer holding.asset holding.known g eight in
      let most : (x y : ℕ) → Known x y → total (group to x y) ≤ ceiling y =
      each_group g eight (λ x y h. total h ≤ ceiling y) (omega arith) (λ x y m d. (sound_parts store x y (s x y m)).1)
      in
      let whole : Sound to = λ x y m. sound_from to x y (omega (arith, long)) (most x y m) in
      record {
        sound = whole;
        figures =
            λ x y m.
            held_sound to x y (whole x y m)
            ∙ each_group g eight (λ x y h. total h ≡ with_figure (held store) holding.customer holding.asset v x y)
            (sum ∙ rw (eq-eqb holding.customer holding.customer refl, eq-eqb holding.asset holding.asset refl) refl)
            (λ x y m d. sym (held_sound store x y (s x y m)) ∙ sym (figure_apart (held store) holding.customer holding.asset v x y d)) x y m;
        depths = λ x y m. free_sound to x y (whole x y m) ∙ sym (free_sound store x y (s x y m));
      }

  pub after_taking :
      (after : List Lot) (n : ℕ) → after ≡ with_more store holding.customer holding.asset n
      → held store holding.customer holding.asset + n ≤ ceiling holding.asset
      → Regrouped store after holding.customer holding.asset (held store holding.customer holding.asset + n)
  after_taking after n is room =
      let g = group store holding.customer holding.asset in
      rw is
      (regrouped (added g n) _ (length_added g n ∙ own_eight) (omega (arith, total_added g own_eight n, own_held)) room)

  pub after_release :
      (after : List Lot) (n : ℕ) → after ≡ with_less store holding.customer holding.asset n
      → n ≤ held store holding.customer holding.asset
      → Regrouped store after holding.customer holding.asset (held store holding.customer holding.asset - n)
  after_release after n is enough =
      let g = group store holding.customer holding.asset in
      let most = (sound_parts store holding.customer holding.asset (s holding.customer holding.asset holding.known)).1 in
      rw is
      (regrouped (paid 8 g n) _ (length_paid 8 g n own_eight) (omega (arith, total_paid g n own_eight (omega (arith, own_held)), own_held)) (omega (arith, own_held)))
