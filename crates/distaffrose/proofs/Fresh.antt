-- A day over an account that was just made begins with nothing held, nothing blocked and no mark.
use Rattle.std.proofs.Common.{◌≡◌, Bool, false, List, [], ◌∷◌, replicate, refl, ap, ◌∙◌}
use Rattle.std.specs.Fmt.{digits}
use Rattle.custody.specs.Meaning.{Figures}
use Rattle.lots.specs.declared.group.Lot.{Lot}
use Rattle.lots.specs.Stores.{held, blocked}
use Rattle.lots.specs.Queues.{FirstInFirstOut}
use Rattle.custody_day.specs.declared.steps.Step.{Step}
use Rattle.custody_day.specs.declared.steps.Step.TheVariants.{TakeIn, Release, Statement, Question}
use Rattle.custody_day.specs.Days.{told}
use Rattle.custody_day.proofs.Days.{told_same}
use Rattle.distaffrose.specs.Day.{day_lines, text_of}

abbrev pub nothing : Figures
nothing c a = 0

pub told_fresh :
    (steps : List Step) (store made : List Lot) (breaks : List Bool) → store ≡ made → FirstInFirstOut made → breaks ≡ replicate 256 false
    → told (held store) (blocked store) breaks 1 steps ≡ told nothing nothing (replicate 256 false) 1 steps
told_fresh steps store made breaks same queues unmarked =
    ap (λ s. told (held s) (blocked s) breaks 1 steps) same
    ∙ told_same steps (held made) nothing (blocked made) nothing (λ c a k. (queues [] c a k).units) (λ c a k. (queues [] c a k).free) breaks 1
    ∙ ap (λ b. told nothing nothing b 1 steps) unmarked

abbrev pub the_day : List Step
the_day =
    TakeIn 1 1 400
    ∷ TakeIn 1 1 250
    ∷ TakeIn 1 1 350
    ∷ TakeIn 2 1 900
    ∷ TakeIn 2 1 500
    ∷ Release 1 1 700
    ∷ Question 1 1
    ∷ Release 1 1 301
    ∷ Statement 1 1 290
    ∷ Question 1 1
    ∷ Release 1 1 100
    ∷ Release 2 1 200
    ∷ Statement 1 1 300
    ∷ Release 1 1 100
    ∷ Question 1 1
    ∷ Question 2 1
    ∷ []

-- The rules give the text of the day.
pub day_told : told nothing nothing (replicate 256 false) 1 the_day ≡ text_of day_lines
unfolding told digits
day_told = refl
