use Rattle.std.proofs.Common.{length, arith}
use Rattle.std.proofs.lemmas.Grind.{common_steps}
use Rattle.lots.proofs.Queues.{made_queues, made_sound}
use Rattle.lots.proofs.store.prepare.Goals as goal

pub returns-clause-queues : goal.returns-clause-queues
returns-clause-queues c made = made_queues (length c.args.store.now) _ (grind (arith, common_steps)) (omega arith)

pub returns-clause-sound : goal.returns-clause-sound
returns-clause-sound c made = made_sound _ (returns-clause-queues c made)
