use Rattle.std.proofs.Common.{arith}
use Rattle.refusals.proofs.Ceilings.{ceiling_most}
use Rattle.commingled.proofs.Sound.{total_most, replaced_sound}
use Rattle.commingled.proofs.Commingled.raise_share.Goals as goal

pub raise-requires-clause-total : goal.raise-requires-clause-total
raise-requires-clause-total c =
    let holding = c.args.holding in
    rw c.asset_place.ensures.place (omega (arith, total_most c.args.self.now holding.asset holding.known.2 holding.known.3, ceiling_most holding.asset))

pub invariant_of-self : goal.invariant_of-self
invariant_of-self c = rw (c.raise.ensures, c.asset_place.ensures.place) (replaced_sound c.args.self.now c.args.holding _ _ c.requires (omega arith))
