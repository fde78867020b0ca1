use Rattle.custody_day.proofs.report.AnswerDisplay.fmt.Goals as goal

pub returns-in-Holding-clause-writes : goal.returns-in-Holding-clause-writes
returns-in-Holding-clause-writes g c = rw c.in-Holding.is c.write-in-Holding.ensures.writes
