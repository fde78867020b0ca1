-- Figures that are alike for each customer and asset give the same answers, and are alike after the same call.
use Rattle.std.proofs.Common.{◌≡◌, ℕ, true, false, cond, ◌&&◌, eqb, is_ok, Result, refl, ap, ◌∙◌, ⊎_elim}
use Rattle.std.proofs.lemmas.Bool.{cases_Bool, and_parts, eqb-true}
use Rattle.refusals.specs.declared.Fault.{Fault}
use Rattle.refusals.specs.Ranges.{Known, is_customer, is_asset}
use Rattle.refusals.proofs.Names.{known}
use Rattle.custody.specs.Meaning.{Figures, Alike, answered, taken, released, with_figure, if_granted}

-- What comes after the names is the same if it is the same of a known customer and asset.
pub named_same :
    {X : Type 0} (c a : ℕ) (r s : X) (first second : X) → (Known c a → r ≡ s)
    → cond (is_customer c) (cond (is_asset a) r second) first ≡ cond (is_customer c) (cond (is_asset a) s second) first
named_same c a r s first second same =
    ⊎_elim
    (λ (p : is_customer c ≡ true).
    ⊎_elim
    (λ (q : is_asset a ≡ true).
    ap (λ z. cond (is_customer c) (cond (is_asset a) z second) first) (same (known c a p q)))
    (λ (q : is_asset a ≡ false). rw q refl)
    (cases_Bool (is_asset a)))
    (λ (p : is_customer c ≡ false). rw p refl)
    (cases_Bool (is_customer c))

module _ (f g : Figures) (alike : Alike f g) (c a n : ℕ) where
  pub taken_same : taken f c a n ≡ taken g c a n
  taken_same = named_same c a _ _ _ _ (λ k. rw (alike c a k) refl)

module _ (f g d e : Figures) (alike : Alike f g) (deep : Alike d e) (c a n : ℕ) where
  pub answered_same : answered f d c a ≡ answered g e c a
  answered_same = named_same c a _ _ _ _ (λ k. rw (alike c a k, deep c a k) refl)

  pub released_same : released f d c a n ≡ released g e c a n
  released_same = named_same c a _ _ _ _ (λ k. rw (alike c a k, deep c a k) refl)

-- One figure replaced by the same.
pub replaced_same : (f g : Figures) → Alike f g → (c a v w : ℕ) → (Known c a → v ≡ w) → Alike (with_figure f c a v) (with_figure g c a w)
replaced_same f g alike c a v w same x y k =
    ⊎_elim
    (λ (t : (eqb x c && eqb y a) ≡ true).
    let p = and_parts (eqb x c) (eqb y a) t in
    let own : Known c a = rw (← eqb-true x c p.0, ← eqb-true y a p.1) k in
    rw t (same own))
    (λ (t : (eqb x c && eqb y a) ≡ false). rw t (alike x y k))
    (cases_Bool (eqb x c && eqb y a))

pub after_same :
    (r s : Result (Unit {0}) Fault) (f g before then : Figures) → r ≡ s → Alike f g → Alike before then → Alike (if_granted r f before) (if_granted s g then)
after_same r s f g before then same alike old x y k =
    ap (λ q. cond (is_ok q) (f x y) (before x y)) same ∙ rw (alike x y k, old x y k) refl
