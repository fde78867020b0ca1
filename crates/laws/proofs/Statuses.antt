-- What one status tells of another.
use Rattle.std.proofs.Common.{◌≡◌, true, false, refl}
use Rattle.std.proofs.lemmas.Bool.{false≢true}
use Rattle.rules.specs.declared.records.Status.{Status}
use Rattle.rules.specs.declared.records.Status.TheVariants.{Open, InTransit, Ported, Liquidated}
use Rattle.rules.specs.Views.{open_status, transit_status, liquidated_status}
use Rattle.rules.specs.Conservation.{is_live}

pub open_live : (s : Status) → open_status s ≡ true → is_live s ≡ true
open_live Open t = refl
open_live InTransit t = absurd (false≢true t)
open_live Ported t = absurd (false≢true t)
open_live Liquidated t = absurd (false≢true t)

pub transit_live : (s : Status) → transit_status s ≡ true → is_live s ≡ true
transit_live Open t = absurd (false≢true t)
transit_live InTransit t = refl
transit_live Ported t = absurd (false≢true t)
transit_live Liquidated t = absurd (false≢true t)

pub liquidated_not_live : (s : Status) → liquidated_status s ≡ true → is_live s ≡ true → ⊥
liquidated_not_live Open t l = false≢true t
liquidated_not_live InTransit t l = false≢true t
liquidated_not_live Ported t l = false≢true l
liquidated_not_live Liquidated t l = false≢true l

pub open_not_transit : (s : Status) → open_status s ≡ true → transit_status s ≡ false
open_not_transit Open t = refl
open_not_transit InTransit t = absurd (false≢true t)
open_not_transit Ported t = refl
open_not_transit Liquidated t = refl

pub liquidated_not_transit : (s : Status) → liquidated_status s ≡ true → transit_status s ≡ false
liquidated_not_transit Open t = refl
liquidated_not_transit InTransit t = absurd (false≢true t)
liquidated_not_transit Ported t = refl
liquidated_not_transit Liquidated t = refl
