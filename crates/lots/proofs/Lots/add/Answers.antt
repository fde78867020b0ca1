use Rattle.lots.proofs.Stores.{after_taking}
use Rattle.lots.proofs.Lots.add.Goals as goal

pub invariant_of-self : goal.invariant_of-self
invariant_of-self c = record { sound = (after_taking _ c.args.self.now.sound c.args.holding _ _ c.add_lot.ensures c.requires).sound }

pub returns-clause-figures : goal.returns-clause-figures
returns-clause-figures c = (after_taking _ c.args.self.now.sound c.args.holding _ _ c.add_lot.ensures c.requires).figures

pub returns-clause-depths : goal.returns-clause-depths
returns-clause-depths c = (after_taking _ c.args.self.now.sound c.args.holding _ _ c.add_lot.ensures c.requires).depths
