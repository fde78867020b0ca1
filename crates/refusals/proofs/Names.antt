-- Customers and assets in range, as tests and as bounds.
use Rattle.std.proofs.Common.{◌≡◌, ℕ, ◌≤◌, true, leb, sym, subst, ⊎_elim, arith}
use Rattle.std.proofs.lemmas.Bool.{leb-true, le-leb, and_parts, and_from, cases_eq}
use Rattle.refusals.specs.Ranges.{Known, between, is_customer, is_asset}

pub in_range : (low high n : ℕ) → between low high n ≡ true → (low ≤ n) × (n ≤ high)
in_range low high n e = let p = and_parts (leb low n) (leb n high) e in (leb-true low n p.0, leb-true n high p.1)

pub known : (c a : ℕ) → is_customer c ≡ true → is_asset a ≡ true → Known c a
known c a p q =
    let x = in_range 1 64 c p in
    let y = in_range 1 4 a q in
    (x.0, x.1, y.0, y.1)

pub asset_of : (c a : ℕ) → Known c a → is_asset a ≡ true
asset_of c a k = and_from (leb 1 a) (leb a 4) (le-leb 1 a k.2) (le-leb a 4 k.3)

-- The four assets are all there are.
pub each_asset : (P : ℕ → Type 0) → P 1 → P 2 → P 3 → P 4 → (a : ℕ) → is_asset a ≡ true → P a
each_asset P one two three four a t =
    ⊎_elim (λ (e : a ≡ 1). subst P (sym e) one)
    (λ n₁. ⊎_elim (λ (e : a ≡ 2). subst P (sym e) two)
    (λ n₂. ⊎_elim (λ (e : a ≡ 3). subst P (sym e) three)
    (λ n₃. let r = in_range 1 4 a t in let e : a ≡ 4 = omega (arith, r.0, r.1) in subst P (sym e) four)
    (cases_eq a 3)) (cases_eq a 2)) (cases_eq a 1)
