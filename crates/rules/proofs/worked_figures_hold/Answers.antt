use Rattle.std.proofs.Common.{refl}
use Rattle.margin.specs.Sums.{sum, total}
use Rattle.rules.specs.Figures.{protected_value}
use Rattle.rules.specs.Rulings.{outcome}
use Rattle.rules.specs.Collateral.{withdrawal}
use Rattle.rules.proofs.worked_figures_hold.Goals as goal

-- Every case computes.
pub returns : goal.returns
unfolding sum total protected_value outcome withdrawal
returns c = record {
  cash_and_notes = refl;
  bills = refl;
  flat_margin = refl;
  scenario_margin = refl;
  loss_unsettled = refl;
  loss_settled = (refl, refl);
  gain_unsettled = refl;
  gain_settled = (refl, refl);
  both_unsettled = refl;
  both_settled = (refl, refl);
  states_less = refl;
  blocked_then = refl;
  free_again = refl;
  not_from_the_pool = refl;
  just_covered = refl;
  one_cent_more = refl;
}
