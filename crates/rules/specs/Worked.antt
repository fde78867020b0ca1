-- Worked figures of the rules.
use Rattle.std.specs.Prelude.{◌≡◌, ℕ, Bool, false, cond, List, [], ◌∷◌, replicate, ℤ, pos, neg_ℤ, Ok, Err, ◌==◌}
use Rattle.std.proofs.Math.Option.{some}
use Rattle.refusals.specs.declared.Refusal.TheVariants.{Blocked, NotHeld, NotCovered}
use Rattle.refusals.specs.Refusals.{fault, fault_at}
use Rattle.custody.specs.Meaning.{Figures as CustodyFigures, released}
use Rattle.reconciliation.specs.Breaks.{stating, marks_after, depths_over}
use Rattle.margin.specs.Methods.{flat, scenario}
use Rattle.rules.specs.declared.records.Status.TheVariants.{Open}
use Rattle.rules.specs.declared.records.MemberState.TheVariants.{Active}
use Rattle.rules.specs.declared.entries.Answer.TheVariants.{Figures}
use Rattle.rules.specs.declared.entries.Entry.TheVariants.{Withdrawal}
use Rattle.rules.specs.Views.{View, with_marks}
use Rattle.rules.specs.Figures.{worth, protected_value, unsettled}
use Rattle.rules.specs.Rulings.{outcome}
use Rattle.rules.specs.Rules.{rule}
use Rattle.rules.specs.Settlements.{settled}

-- ---- what the cases begin with
abbrev pub zeros : List ℤ
zeros = replicate 8 (pos 0)

-- A figure of contract 1 alone.
abbrev pub first_only : ℤ → List ℤ
first_only z = z ∷ replicate 7 (pos 0)

-- An open customer of an active member: nets, costs all 0, debt; cash and notes; marks, and the quote of notes.
abbrev pub customer : List ℤ → ℕ → ℕ → ℕ → List ℤ → ℕ → View
customer nets debt cash notes marks quote = record {
  account = record { nets = nets; costs = zeros; carried = replicate 4 0; debt = debt; status = Open };
  held = λ a. cond (a == 1) cash (cond (a == 3) notes 0);
  below = λ a. 0;
  broken = λ a. false;
  market = record { marks = marks; quotes = 0 ∷ quote ∷ 0 ∷ []; member = Active };
}

-- One unit of contract 1 at cost 0, whose mark is the unsettled result.
abbrev pub owing : ℤ → ℕ → ℕ → View
owing result debt cash = customer (first_only (pos 1)) debt cash 0 (first_only result) 0

-- Settled to so much cash and so much debt.
abbrev pub Settles : View → ℕ → ℕ → Type 0
Settles v cash debt = ((settled v).held 1 ≡ cash) × ((settled v).account.debt ≡ debt)

-- A loss of 800 settled; then the mark is such that 1,000 is unsettled.
abbrev pub after_the_loss : View
after_the_loss = with_marks (first_only (pos 200)) (settled (owing (neg_ℤ (pos 800)) 0 500))

-- 10 of contract 1 and -4 of contract 3.
abbrev pub mixed : List ℤ
mixed = pos 10 ∷ pos 0 ∷ neg_ℤ (pos 4) ∷ replicate 5 (pos 0)

-- A custody that holds 100 of each asset for customer 1 and 900 for each other, unblocked, and no break marks over it.
abbrev pub pool : CustodyFigures
pool c a = cond (c == 1) 100 900

abbrev pub free : CustodyFigures
free c a = 0

abbrev pub no_breaks : List Bool
no_breaks = replicate 256 false

-- The break marks after 90 are stated, and then 100.
abbrev pub off : List Bool
off = marks_after pool no_breaks 1 1 90

abbrev pub mended : List Bool
mended = marks_after pool off 1 1 100

-- ---- the cases
pub record WorkedFigures : Type 0 where
  -- Cash 1,000 and 3 notes at 101 make protected value 1,293; 3 bills at 1 are worth 2.
  pub cash_and_notes : protected_value (customer zeros 0 1000 3 zeros 101) ≡ 1293
  pub bills : worth 2 3 1 ≡ 2
  -- Nets 10 of contract 1 and -4 of contract 3 require 3,300 flat and 3,200 by scenario.
  pub flat_margin : flat mixed ≡ 3300
  pub scenario_margin : scenario mixed ≡ 3200
  -- Cash 500 and unsettled -800 settle to cash 0 and debt 300; unsettled 1,000 then gives cash 700 and debt 0.
  pub loss_unsettled : unsettled (owing (neg_ℤ (pos 800)) 0 500) ≡ neg_ℤ (pos 800)
  pub loss_settled : Settles (owing (neg_ℤ (pos 800)) 0 500) 0 300
  pub gain_unsettled : unsettled after_the_loss ≡ pos 1000
  pub gain_settled : Settles after_the_loss 700 0
  -- Cash 500, debt 200 and unsettled -300 settle to cash 0 and debt 0.
  pub both_unsettled : unsettled (owing (neg_ℤ (pos 300)) 200 500) ≡ neg_ℤ (pos 300)
  pub both_settled : Settles (owing (neg_ℤ (pos 300)) 200 500) 0 0
  -- 90 stated against 100 held answers -10; a release then gets 8 at place 1, until 100 is stated.
  pub states_less : stating pool 1 1 90 ≡ Ok (neg_ℤ (pos 10))
  pub blocked_then : released pool (depths_over off free) 1 1 50 ≡ Err (fault_at Blocked 1 1 1)
  pub free_again : released pool (depths_over mended free) 1 1 50 ≡ Ok tt
  -- With 100 held for customer 1 and 900 for customer 2, releasing 101 for customer 1 gets 9.
  pub not_from_the_pool : released pool free 1 1 101 ≡ Err (fault_at NotHeld 1 1 0)
  -- A withdrawal that leaves just the requirement passes, and one cent more gets 10.
  pub just_covered : outcome (some 1) (rule flat (Withdrawal 1 1 700) (customer mixed 0 4000 0 zeros 0)) ≡ Ok (Figures 3300 0 0)
  pub one_cent_more : outcome (some 1) (rule flat (Withdrawal 1 1 701) (customer mixed 0 4000 0 zeros 0)) ≡ Err (fault NotCovered 1)
