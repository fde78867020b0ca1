-- Tests in the order in which they run. The first that fails decides the refusal.
use Rattle.std.specs.Prelude.{Bool, cond, List, [], ◌∷◌, Ok, Err, Result}
use Rattle.refusals.specs.declared.Fault.{Fault}

-- A test, and the fault with which a call is refused if it fails.
abbrev pub Check : Type 0
Check = Bool × Fault

-- The value, if every test holds; otherwise the fault of the first that fails.
abbrev pub passed_with : {X : Type 0} → X → List Check → Result X Fault
passed_with x [] = Ok x
passed_with x (c ∷ cs) = cond c.0 (passed_with x cs) (Err c.1)

-- The same, where there is no value to give.
abbrev pub passed : List Check → Result (Unit {0}) Fault
passed cs = passed_with tt cs

-- The result with f of what a grant hands out; a fault stays as it is.
abbrev pub granted_as : {X Y : Type 0} → (X → Y) → Result X Fault → Result Y Fault
granted_as f (Ok x) = Ok (f x)
granted_as f (Err fault) = Err fault
