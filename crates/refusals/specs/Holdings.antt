-- Holdings: a customer and an asset that there are.
use Rattle.std.specs.Prelude.{ℕ}
use Rattle.refusals.specs.declared.holding.Holding.{Holding}

-- A holding as the pair of its numbers.
abbrev pub names_of : Holding → ℕ × ℕ
names_of holding = (holding.customer, holding.asset)
