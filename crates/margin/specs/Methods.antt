-- The flat and the scenario method.
use Rattle.std.specs.Prelude.{◌+◌, ◌*◌, max, List, [], ◌∷◌, ℤ, pos, ◌*ℤ◌, neg_ℤ, unsigned_abs}
use Rattle.margin.specs.Sums.{at, eight, sum, total}
use Rattle.margin.specs.Meaning.{Method}

-- Flat: the sum over contracts of absolute net × 150 × the contract number.
abbrev pub flat : Method
flat nets = sum 8 (λ i. unsigned_abs (at nets i) * 150 * (i + 1))

-- The sum over contracts of net × shock.
abbrev pub shocked : List ℤ → List ℤ → ℤ
shocked shocks nets = total 8 (λ i. at nets i *ℤ at shocks i)

-- The first shocks are 100 × the contract number,
abbrev pub first_shocks : List ℤ
first_shocks = eight (λ i. pos (100 * (i + 1)))

-- and the second these.
abbrev pub second_shocks : List ℤ
second_shocks =
    neg_ℤ (pos 400) ∷ neg_ℤ (pos 300) ∷ neg_ℤ (pos 200) ∷ neg_ℤ (pos 100) ∷ pos 100 ∷ pos 200 ∷ pos 300 ∷ pos 400 ∷ []

-- Scenario: the larger absolute value of the two sums.
abbrev pub scenario : Method
scenario nets = max (unsigned_abs (shocked first_shocks nets)) (unsigned_abs (shocked second_shocks nets))
