-- What concerns one customer, and how a part of it is replaced.
use Rattle.std.specs.Prelude.{ℕ, Bool, true, false, cond, List, [], ◌∷◌, ℤ, ◌==◌}
use Rattle.reconciliation.specs.Breaks.{depth_over}
use Rattle.rules.specs.declared.records.Status.{Status}
use Rattle.rules.specs.declared.records.Status.TheVariants.{Open, InTransit, Ported, Liquidated}
use Rattle.rules.specs.declared.records.MemberState.{MemberState}
use Rattle.rules.specs.declared.records.MemberState.TheVariants.{Active, Porting, Liquidating}
use Rattle.rules.specs.declared.records.CustomerRecord.{CustomerRecord}

-- The marks of the contracts, the quotes of assets 2 to 4, the member's state: the same for all customers.
pub record Market : Type 0 where
  pub marks : List ℤ
  pub quotes : List ℕ
  pub member : MemberState

-- A customer's view: the customer's record; by asset the units held, the block depth of the custody below the book
-- and the break marks of the book's own reconciliation; and the market. Every entry of a customer is ruled on this alone.
pub record View : Type 0 where
  pub account : CustomerRecord
  pub held : ℕ → ℕ
  pub below : ℕ → ℕ
  pub broken : ℕ → Bool
  pub market : Market

-- The block depth of an asset, through the book's reconciliation.
abbrev pub depth_of : View → ℕ → ℕ
depth_of v a = depth_over (v.broken a) (v.below a)

-- ---- the customer's status
abbrev pub open_status : Status → Bool
open_status Open = true
open_status InTransit = false
open_status Ported = false
open_status Liquidated = false

abbrev pub transit_status : Status → Bool
transit_status Open = false
transit_status InTransit = true
transit_status Ported = false
transit_status Liquidated = false

abbrev pub liquidated_status : Status → Bool
liquidated_status Open = false
liquidated_status InTransit = false
liquidated_status Ported = false
liquidated_status Liquidated = true

abbrev pub is_open : View → Bool
is_open v = open_status v.account.status

abbrev pub is_in_transit : View → Bool
is_in_transit v = transit_status v.account.status

abbrev pub is_liquidated : View → Bool
is_liquidated v = liquidated_status v.account.status

-- ---- the member's state
abbrev pub active_member : MemberState → Bool
active_member Active = true
active_member Porting = false
active_member Liquidating = false

abbrev pub porting_member : MemberState → Bool
porting_member Active = false
porting_member Porting = true
porting_member Liquidating = false

abbrev pub liquidating_member : MemberState → Bool
liquidating_member Active = false
liquidating_member Porting = false
liquidating_member Liquidating = true

abbrev pub is_active : View → Bool
is_active v = active_member v.market.member

abbrev pub is_porting : View → Bool
is_porting v = porting_member v.market.member

abbrev pub is_liquidating : View → Bool
is_liquidating v = liquidating_member v.market.member

-- ---- one part of a view replaced
abbrev pub with_account : CustomerRecord → View → View
with_account r v = record { account = r; held = v.held; below = v.below; broken = v.broken; market = v.market }

abbrev pub with_held : (ℕ → ℕ) → View → View
with_held held v = record { account = v.account; held = held; below = v.below; broken = v.broken; market = v.market }

abbrev pub with_broken : (ℕ → Bool) → View → View
with_broken broken v = record { account = v.account; held = v.held; below = v.below; broken = broken; market = v.market }

abbrev pub with_market : Market → View → View
with_market market v = record { account = v.account; held = v.held; below = v.below; broken = v.broken; market = market }

abbrev pub with_marks : List ℤ → View → View
with_marks marks v = with_market (record { marks = marks; quotes = v.market.quotes; member = v.market.member }) v

abbrev pub with_quotes : List ℕ → View → View
with_quotes quotes v = with_market (record { marks = v.market.marks; quotes = quotes; member = v.market.member }) v

abbrev pub with_member : MemberState → View → View
with_member member v = with_market (record { marks = v.market.marks; quotes = v.market.quotes; member = member }) v

-- ---- one part of a record replaced
abbrev pub with_status : Status → CustomerRecord → CustomerRecord
with_status status r = record { nets = r.nets; costs = r.costs; carried = r.carried; debt = r.debt; status = status }

abbrev pub with_carried : List ℕ → CustomerRecord → CustomerRecord
with_carried carried r = record { nets = r.nets; costs = r.costs; carried = carried; debt = r.debt; status = r.status }

abbrev pub with_position : List ℤ → List ℤ → CustomerRecord → CustomerRecord
with_position nets costs r = record { nets = nets; costs = costs; carried = r.carried; debt = r.debt; status = r.status }

abbrev pub with_debt : ℕ → CustomerRecord → CustomerRecord
with_debt debt r = record { nets = r.nets; costs = r.costs; carried = r.carried; debt = debt; status = r.status }

-- ---- assets
-- A figure of one asset replaced.
abbrev pub put : {A : Type 0} → ℕ → A → (ℕ → A) → ℕ → A
put a x figures b = cond (b == a) x (figures b)

-- One for each asset, by number.
abbrev pub every_asset : {A : Type 0} → (ℕ → A) → List A
every_asset f = f 1 ∷ f 2 ∷ f 3 ∷ f 4 ∷ []
