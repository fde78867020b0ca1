use Rattle.std.proofs.Common.{rules}
use Rattle.laws.proofs.Laws.{laws_stand, entered, opens, histories_exist}
use Rattle.laws.proofs.Moving.{movements_agree}
use Rattle.laws.proofs.opening_book.Goals as goal

pub returns-clause-opens : goal.returns-clause-opens
returns-clause-opens c = opens _ (search rules)

pub returns-clause-laws : goal.returns-clause-laws
returns-clause-laws c = laws_stand

pub returns-clause-steps : goal.returns-clause-steps
returns-clause-steps c = entered

pub returns-clause-histories : goal.returns-clause-histories
returns-clause-histories c = histories_exist

pub returns-clause-movements : goal.returns-clause-movements
returns-clause-movements c = movements_agree
