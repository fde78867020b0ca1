-- Figures by contract, and their sums: the contracts 1 to 8 stand at the places 0 to 7.
use Rattle.std.specs.Prelude.{ℕ, zero, suc, ◌+◌, List, [], ◌∷◌, ℤ, pos, ◌+ℤ◌, slice_index_or}

-- The figure at a place.
abbrev pub at : List ℤ → ℕ → ℤ
at figures i = slice_index_or figures i (pos 0)

-- Eight figures, one for each contract.
abbrev pub eight : (ℕ → ℤ) → List ℤ
eight f = f 0 ∷ f 1 ∷ f 2 ∷ f 3 ∷ f 4 ∷ f 5 ∷ f 6 ∷ f 7 ∷ []

-- The sum over the first n places, of signed figures
unfoldable pub total : ℕ → (ℕ → ℤ) → ℤ
total zero f = pos 0
total (suc n) f = total n f +ℤ f n

-- and of amounts.
unfoldable pub sum : ℕ → (ℕ → ℕ) → ℕ
sum zero f = 0
sum (suc n) f = sum n f + f n
