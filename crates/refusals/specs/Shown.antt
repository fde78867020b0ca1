-- A fault as it is written for a reader.
use Rattle.std.specs.Prelude.{ℕ, List, ◌++◌, codes, decimal}
use Rattle.refusals.specs.declared.Fault.{Fault}
use Rattle.refusals.specs.Refusals.{number}

abbrev pub shown_fault : Fault → List ℕ
shown_fault f =
    codes "refusal " ++ (decimal (number f.refusal)
    ++ (codes ", customer " ++ (decimal f.customer
    ++ (codes ", asset " ++ (decimal f.asset
    ++ (codes ", place " ++ decimal f.place))))))
