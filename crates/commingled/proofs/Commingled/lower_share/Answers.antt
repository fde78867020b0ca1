use Rattle.std.proofs.Common.{arith}
use Rattle.commingled.proofs.Sound.{share_in_total, replaced_sound}
use Rattle.commingled.proofs.Commingled.lower_share.Goals as goal

pub invariant_of-self : goal.invariant_of-self
invariant_of-self c =
    let s = c.args.self.now in
    let holding = c.args.holding in
    let part = share_in_total s holding in
    rw (c.lower.ensures, c.asset_place.ensures.place) (replaced_sound s holding _ _ (omega (arith, s.capped holding.customer holding.asset holding.known)) (omega arith))
