-- A step, and what came of it, in words.
use Rattle.std.specs.Prelude.{ℕ, List, ◌++◌, Ok, Err, codes, decimal, Result}
use Rattle.std.specs.Fmt.{signed_decimal}
use Rattle.refusals.specs.declared.Fault.{Fault}
use Rattle.refusals.specs.Shown.{shown_fault}
use Rattle.custody_day.specs.declared.steps.Step.{Step}
use Rattle.custody_day.specs.declared.steps.Step.TheVariants.{TakeIn, Release, Statement, Question}
use Rattle.custody_day.specs.declared.steps.Answer.{Answer}
use Rattle.custody_day.specs.declared.steps.Answer.TheVariants.{Done, Difference, Holding}

abbrev pub of_whom : ℕ → ℕ → List ℕ
of_whom c a = codes " of asset " ++ (decimal a ++ (codes " for customer " ++ decimal c))

abbrev pub shown_step : Step → List ℕ
shown_step (TakeIn c a n) = codes "take in " ++ (decimal n ++ of_whom c a)
shown_step (Release c a n) = codes "release " ++ (decimal n ++ of_whom c a)
shown_step (Statement c a n) = codes "the custodian states " ++ (decimal n ++ of_whom c a)
shown_step (Question c a) = codes "what is held" ++ of_whom c a

abbrev pub shown_answer : Answer → List ℕ
shown_answer Done = codes "done"
shown_answer (Difference d) = codes "difference " ++ signed_decimal d
shown_answer (Holding n d) = codes "held " ++ (decimal n ++ (codes ", block depth " ++ decimal d))

abbrev pub shown_outcome : Result Answer Fault → List ℕ
shown_outcome (Ok a) = shown_answer a
shown_outcome (Err f) = shown_fault f

-- One line on a step.
abbrev pub shown_report : ℕ → Step → Result Answer Fault → List ℕ
shown_report number step outcome =
    decimal number ++ (codes " " ++ (shown_step step ++ (codes ": " ++ shown_outcome outcome)))
