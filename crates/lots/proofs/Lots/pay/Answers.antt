use Rattle.lots.proofs.Stores.{after_release}
use Rattle.lots.proofs.Lots.pay.Goals as goal

pub invariant_of-self : goal.invariant_of-self
invariant_of-self c = record { sound = (after_release _ c.args.self.now.sound c.args.holding _ _ c.pay_lots.ensures c.requires).sound }

pub returns-clause-figures : goal.returns-clause-figures
returns-clause-figures c = (after_release _ c.args.self.now.sound c.args.holding _ _ c.pay_lots.ensures c.requires).figures

pub returns-clause-depths : goal.returns-clause-depths
returns-clause-depths c = (after_release _ c.args.self.now.sound c.args.holding _ _ c.pay_lots.ensures c.requires).depths
