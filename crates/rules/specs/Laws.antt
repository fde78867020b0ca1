-- The laws over whole histories, and what every call of a book promises by them.
use Rattle.std.specs.Prelude.{◌≡◌, ℕ, ◌≤◌, true, false, List, [], ◌∷◌, is_ok}
use Rattle.refusals.specs.Ranges.{Known, ceiling, is_asset, is_customer}
use Rattle.custody.specs.Meaning.{Figures, Alike, taken, released, raised, lowered}
use Rattle.custody.specs.Movements.{Movement, taking, release}
use Rattle.reconciliation.specs.Breaks.{depth_over}
use Rattle.margin.specs.Meaning.{Method}
use Rattle.rules.specs.declared.records.Accounts.{Accounts}
use Rattle.rules.specs.declared.entries.Entry.{Entry}
use Rattle.rules.specs.declared.entries.Entry.TheVariants.{Return}
use Rattle.rules.specs.Views.{is_in_transit}
use Rattle.rules.specs.Figures.{carried_amount}
use Rattle.rules.specs.Rulings.{Outcome}
use Rattle.rules.specs.Histories.{Custody, State, view, ruling, answer_to, state_after, Event, Leads, Same, Step, opening}
use Rattle.rules.specs.Segregation.{Segregated, entries}
use Rattle.rules.specs.Conservation.{Conserved}

-- ---- return
-- The custody began within its ceilings, as every custody is.
abbrev pub WithinCeilings : Custody → Type 0
WithinCeilings k = (c a : ℕ) → Known c a → k.units c a ≤ ceiling a

-- Of a customer in transit nothing is held, and what is carried is within the ceilings; so a return is always granted.
abbrev pub Returnable : Method → Custody → State → Type 0
Returnable m k s =
    WithinCeilings k → (c : ℕ) → is_customer c ≡ true → is_in_transit (view s c) ≡ true →
    ((a : ℕ) → is_asset a ≡ true → ((view s c).held a ≡ 0) × (carried_amount (view s c).account a ≤ ceiling a))
    × (is_ok (answer_to m (Return c) s) ≡ true)

-- ---- movements
-- A custody with these units and block depths grants the movements, one after the other, and is left with these units.
abbrev pub Makes : Figures → Figures → List Movement → Figures → Type 0
Makes units depths [] after = Alike units after
Makes units depths (taking c a n ∷ ms) after = (is_ok (taken units c a n) ≡ true) × Makes (raised units c a n) depths ms after
Makes units depths (release c a n ∷ ms) after =
    (is_ok (released units depths c a n) ≡ true) × Makes (lowered units c a n) depths ms after

-- The block depths through the book's own reconciliation.
abbrev pub depths_through : State → Figures
depths_through s c a = depth_over (s.broken c a) (s.custody.depths c a)

-- The movements of a granted entry are each granted by a custody within its ceilings, and leave just the units of the rule.
abbrev pub MovementsAgree : Type 0
MovementsAgree =
    (m : Method) (e : Entry) (s : State) → WithinCeilings s.custody → is_ok (answer_to m e s) ≡ true →
    Makes s.custody.units (depths_through s) (ruling m e s).movements (state_after m e s).custody.units

-- ---- the laws
-- They stand at the end of a history.
pub record Lawful (m : Method) (k : Custody) (h : List Event) (s : State) : Type 0 where
  pub led : Leads m k h s
  pub segregated : Segregated m k h s
  pub conserved : Conserved k h s
  pub returnable : Returnable m k s

-- They stand at the end of every history, over any custody and any method,
abbrev pub LawsStand : Type 0
LawsStand = (m : Method) (k : Custody) (h : List Event) (s : State) → Leads m k h s → Lawful m k h s

-- and every list of entries has a history, so that no law is empty.
abbrev pub HistoriesExist : Type 0
HistoriesExist =
    (m : Method) (k : Custody) (es : List Entry) → (h : List Event) × (s : State) × Leads m k h s × (entries h ≡ es)

-- ---- on a call
-- A call that brings the entry e makes the step of the rules; and for every history that leads to the state before, the
-- history longer by this entry leads to the state after, and the laws stand there.
pub record Entered (m : Method) (e : Entry) (s : State) (o : Outcome) (t : State) : Type 0 where
  pub step : Step m e s o t
  pub lawful : (k : Custody) (h : List Event) → Leads m k h s → Lawful m k (record { entry = e; result = o } ∷ h) t

-- Every step of the rules is such a one.
abbrev pub StepsKeepLaws : Type 0
StepsKeepLaws = (m : Method) (e : Entry) (s : State) (o : Outcome) (t : State) → Step m e s o t → Entered m e s o t

-- Opening a book over the custody k gives the first state, where the laws stand.
pub record Opened (m : Method) (k : Custody) (s : State) : Type 0 where
  pub first : Same s (opening k)
  pub lawful : Lawful m k [] s

-- A book with these accounts, and no break marks yet, is opened over any custody and for any method.
abbrev pub Opens : Accounts → Type 0
Opens b = (m : Method) (k : Custody) → Opened m k (record { accounts = b; custody = k; broken = λ c a. false })
