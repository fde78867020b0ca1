-- What a grant tells of the figures, and figures with one of them replaced.
use Rattle.std.proofs.Common.{◌≡◌, ℕ, ◌+◌, ◌^◌, ◌≤◌, true, ◌&&◌, eqb, leb, is_ok, refl, arith}
use Rattle.std.proofs.lemmas.Bool.Decides.{nat_tests}
use Rattle.std.proofs.lemmas.Bool.{cond_both, eqb-true, and_parts}
use Rattle.refusals.specs.Ranges.{Known, ceiling}
use Rattle.refusals.proofs.Ceilings.{ceiling_most}
use Rattle.custody.specs.Meaning.{Figures, taken, released, with_figure}

pub taken_tells :
    (held : Figures) (c a n : ℕ) → is_ok (taken held c a n) ≡ true → Known c a × (n ≤ 10 ^ 17) × (held c a + n ≤ ceiling a)
taken_tells held c a n e = grind (arith, nat_tests)

pub released_tells :
    (held deep : Figures) (c a n : ℕ) → is_ok (released held deep c a n) ≡ true
    → Known c a × (n ≤ 10 ^ 17) × (deep c a ≡ 0) × (n ≤ held c a)
released_tells held deep c a n e = grind (arith, nat_tests)

-- A figure that is not replaced.
pub figure_apart : (f : Figures) (c a v x y : ℕ) → (x ≡ c → y ≡ a → ⊥) → with_figure f c a v x y ≡ f x y
figure_apart f c a v x y d =
    cond_both (eqb x c && eqb y a) v (f x y) (λ z. z ≡ f x y)
    (λ t. let p = and_parts (eqb x c) (eqb y a) t in absurd (d (eqb-true x c p.0) (eqb-true y a p.1)))
    (λ _. refl)

-- Of a known customer and asset a taking in is granted just if the ceiling allows it,
pub taken_is : (held : Figures) (c a n : ℕ) → Known c a → is_ok (taken held c a n) ≡ leb (held c a + n) (ceiling a)
taken_is held c a n k = let most = ceiling_most a in grind (arith, nat_tests)

-- and a release of what is free just if so much is held.
pub released_is :
    (held deep : Figures) (c a n : ℕ) → Known c a → deep c a ≡ 0 → held c a ≤ ceiling a → is_ok (released held deep c a n) ≡ leb n (held c a)
released_is held deep c a n k free room = let most = ceiling_most a in grind (arith, nat_tests)
