-- No portfolio requires more than 10^12, by either method.
use Rattle.std.specs.Prelude.{◌≡◌, ℕ, zero, suc, ◌+◌, ◌*◌, ◌^◌, ◌≤◌, true, ◌&&◌, List, [], ◌∷◌, length, ℤ, ◌*ℤ◌, ◌==◌, unsigned_abs}
use Rattle.std.specs.List.{list_all}
use Rattle.std.proofs.Common.{refl, ap, ◌∙◌, mul-le-mul, arith}
use Rattle.std.proofs.lemmas.Bool.{leb-true, and_parts}
use Rattle.std.proofs.lemmas.Int.{ints, unsigned_abs-mul}
use Rattle.refusals.specs.Ranges.{within, is_net}
use Rattle.margin.specs.Sums.{at, sum, total}
use Rattle.margin.specs.Meaning.{are_nets, is_portfolio, Bounded}
use Rattle.margin.specs.Methods.{flat, first_shocks, second_shocks, scenario}

-- Where each figure of a list is within b, so is the figure at each place.
pub at_most : (b : ℕ) (figures : List ℤ) → list_all (within b) figures ≡ true → (i : ℕ) → unsigned_abs (at figures i) ≤ b
at_most b [] e i = omega arith
at_most b (z ∷ figures) e zero = leb-true (unsigned_abs z) b (and_parts (within b z) (list_all (within b) figures) e).0
at_most b (z ∷ figures) e (suc i) = at_most b figures (and_parts (within b z) (list_all (within b) figures) e).1 i

-- The test of the nets asks each of them,
pub each_net : (nets : List ℤ) → list_all is_net nets ≡ are_nets nets
each_net [] = refl
each_net (net ∷ nets) = ap (λ rest. is_net net && rest) (each_net nets)

-- so each net of a portfolio is in range.
pub net_most : (nets : List ℤ) → is_portfolio nets ≡ true → (i : ℕ) → unsigned_abs (at nets i) ≤ 10 ^ 6
net_most nets p = at_most (10 ^ 6) nets (each_net nets ∙ (and_parts (length nets == 8) (are_nets nets) p).1)

-- The flat charges of the first n contracts.
abbrev pub charges : List ℤ → ℕ → ℕ
charges nets n = sum n (λ i. unsigned_abs (at nets i) * 150 * (i + 1))

pub charge_most : (m i : ℕ) → m ≤ 10 ^ 6 → i ≤ 8 → m * 150 * i ≤ 1200000000
charge_most m i h l = let p : m * 150 ≤ 150000000 = omega arith in mul-le-mul p l

pub charges_most : (nets : List ℤ) → is_portfolio nets ≡ true → (n : ℕ) → n ≤ 8 → charges nets n ≤ n * 1200000000
unfolding sum
charges_most nets p zero l = omega arith
charges_most nets p (suc n) l = omega (arith, charges_most nets p n (omega arith), charge_most (unsigned_abs (at nets n)) (n + 1) (net_most nets p n) (omega arith))

pub flat_bounded : Bounded flat
flat_bounded nets p = omega (arith, charges_most nets p 8 (omega arith))

-- What the first n contracts gain by their shocks,
abbrev pub gains : List ℤ → List ℤ → ℕ → ℤ
gains shocks nets n = total n (λ i. at nets i *ℤ at shocks i)

pub gain_most : (net shock : ℤ) → unsigned_abs net ≤ 10 ^ 6 → unsigned_abs shock ≤ 1000 → unsigned_abs (net *ℤ shock) ≤ 10 ^ 9
gain_most net shock n s = rw unsigned_abs-mul (mul-le-mul n s)

-- where no shock is larger than 1000.
pub gains_most : (shocks nets : List ℤ) → ((i : ℕ) → unsigned_abs (at shocks i) ≤ 1000) → is_portfolio nets ≡ true → (n : ℕ) → unsigned_abs (gains shocks nets n) ≤ n * 10 ^ 9
unfolding total
gains_most shocks nets s p zero = omega arith
gains_most shocks nets s p (suc n) = omega (arith, ints, gains_most shocks nets s p n, gain_most (at nets n) (at shocks n) (net_most nets p n) (s n))

pub scenario_bounded : Bounded scenario
scenario_bounded nets p =
    let first = gains_most first_shocks nets (at_most 1000 first_shocks refl) p 8 in
    let second = gains_most second_shocks nets (at_most 1000 second_shocks refl) p 8 in
    omega arith
