-- Portfolios: eight nets in range.
use Rattle.std.specs.Prelude.{List, ℤ}
use Rattle.margin.specs.declared.portfolio.Portfolio.{Portfolio}

-- A portfolio as the list of its nets.
abbrev pub nets_of : Portfolio → List ℤ
nets_of portfolio = portfolio.nets
