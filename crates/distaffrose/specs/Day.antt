-- What the day comes to, line by line.
use Rattle.std.specs.Prelude.{ℕ, List, [], ◌∷◌, ◌++◌, codes}

abbrev pub day_lines : List (List ℕ)
day_lines =
    codes "1 take in 400 of asset 1 for customer 1: done"
    ∷ codes "2 take in 250 of asset 1 for customer 1: done"
    ∷ codes "3 take in 350 of asset 1 for customer 1: done"
    ∷ codes "4 take in 900 of asset 1 for customer 2: done"
    ∷ codes "5 take in 500 of asset 1 for customer 2: done"
    ∷ codes "6 release 700 of asset 1 for customer 1: done"
    ∷ codes "7 what is held of asset 1 for customer 1: held 300, block depth 0"
    ∷ codes "8 release 301 of asset 1 for customer 1: refusal 9, customer 1, asset 1, place 0"
    ∷ codes "9 the custodian states 290 of asset 1 for customer 1: difference -10"
    ∷ codes "10 what is held of asset 1 for customer 1: held 300, block depth 1"
    ∷ codes "11 release 100 of asset 1 for customer 1: refusal 8, customer 1, asset 1, place 1"
    ∷ codes "12 release 200 of asset 1 for customer 2: done"
    ∷ codes "13 the custodian states 300 of asset 1 for customer 1: difference 0"
    ∷ codes "14 release 100 of asset 1 for customer 1: done"
    ∷ codes "15 what is held of asset 1 for customer 1: held 200, block depth 0"
    ∷ codes "16 what is held of asset 1 for customer 2: held 1200, block depth 0"
    ∷ []

-- Each line is ended by a line feed.
abbrev pub text_of : List (List ℕ) → List ℕ
text_of [] = []
text_of (line ∷ lines) = line ++ (10 ∷ text_of lines)
