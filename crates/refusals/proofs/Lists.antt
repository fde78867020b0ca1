-- What the result of a list of checks tells of each of them.
use Rattle.std.proofs.Common.{◌≡◌, Bool, true, false, cond, List, [], ◌∷◌, is_ok, Err, Result, refl, ap, ◌∙◌}
use Rattle.std.proofs.lemmas.Bool.{false≢true}
use Rattle.refusals.specs.declared.Fault.{Fault}
use Rattle.refusals.specs.Checks.{Check, passed_with}

-- Every test holds.
abbrev pub Hold : List Check → Type 0
Hold [] = Unit {0}
Hold (c ∷ cs) = (c.0 ≡ true) × Hold cs

first : {X : Type 0} (b : Bool) (f : Fault) (r : Result X Fault) → is_ok (cond b r (Err f)) ≡ true → (b ≡ true) × (is_ok r ≡ true)
first true f r e = (refl, e)
first false f r e = absurd (false≢true e)

-- They hold if the list is passed,
pub all_hold : {X : Type 0} (x : X) (cs : List Check) → is_ok (passed_with x cs) ≡ true → Hold cs
all_hold x [] e = tt
all_hold x (c ∷ cs) e =
    let p = first c.0 c.1 (passed_with x cs) e in
    (p.0, all_hold x cs p.1)

-- and only then.
pub all_pass : {X : Type 0} (x : X) (cs : List Check) → Hold cs → is_ok (passed_with x cs) ≡ true
all_pass x [] h = refl
all_pass x (c ∷ cs) h = ap (λ b. is_ok (cond b (passed_with x cs) (Err c.1))) h.0 ∙ all_pass x cs h.1
