-- The book over its custody, how an entry moves both, and the histories that lead from an opening to a state.
use Rattle.std.specs.Prelude.{◌≡◌, ℕ, ◌-◌, Bool, false, cond, ◌&&◌, List, [], ◌∷◌, replicate, pos, is_ok, ◌==◌, slice_index_or, slice_set}
use Rattle.std.proofs.Math.Option.{Option, some, none}
use Rattle.refusals.specs.Ranges.{is_asset, is_customer}
use Rattle.custody.specs.Meaning.{Figures, Alike}
use Rattle.margin.specs.Meaning.{Method, on_portfolios}
use Rattle.rules.specs.declared.records.Status.TheVariants.{Open}
use Rattle.rules.specs.declared.records.MemberState.TheVariants.{Active}
use Rattle.rules.specs.declared.records.CustomerRecord.{CustomerRecord}
use Rattle.rules.specs.declared.records.Accounts.{Accounts}
use Rattle.rules.specs.declared.entries.Entry.{Entry}
use Rattle.rules.specs.Views.{Market, View}
use Rattle.rules.specs.Rulings.{Rule, Outcome, outcome}
use Rattle.rules.specs.Rules.{rule, owner}

-- A custody's meaning: the units held and the block depths, by customer and asset.
pub record Custody : Type 0 where
  pub units : Figures
  pub depths : Figures

-- The book's accounts, the custody below it, and the break marks of the book's own reconciliation.
pub record State : Type 0 where
  pub accounts : Accounts
  pub custody : Custody
  pub broken : ℕ → ℕ → Bool

-- ---- a customer's view of a state
abbrev pub blank : CustomerRecord
blank = record { nets = replicate 8 (pos 0); costs = replicate 8 (pos 0); carried = replicate 4 0; debt = 0; status = Open }

-- What a list of records gives past its end; no list of 64 is read there.
abbrev pub unread : CustomerRecord
unread = record { nets = []; costs = []; carried = []; debt = 0; status = Open }

-- The record of a customer, and a blank one where there is no such customer.
abbrev pub account_of : Accounts → ℕ → CustomerRecord
account_of b c = cond (is_customer c) (slice_index_or b.records (c - 1) unread) blank

abbrev pub market_of : Accounts → Market
market_of b = record { marks = b.marks; quotes = b.quotes; member = b.member }

-- A customer's figures by asset, and a bare one where there is no such customer or asset.
abbrev pub row : {A : Type 0} → A → (ℕ → ℕ → A) → ℕ → ℕ → A
row bare f c a = cond (is_customer c && is_asset a) (f c a) bare

abbrev pub view : State → ℕ → View
view s c = record {
  account = account_of s.accounts c;
  held = row 0 s.custody.units c;
  below = row 0 s.custody.depths c;
  broken = row false s.broken c;
  market = market_of s.accounts;
}

-- ---- what an entry does to a state
-- An entry is ruled on the view of the customer that it names; one of none on the market alone, since 0 is no customer.
abbrev pub subject : Option ℕ → ℕ
subject (some c) = c
subject none = 0

abbrev pub ruling : Method → Entry → State → Rule
ruling m e s = rule (on_portfolios m) e (view s (subject (owner e)))

abbrev pub answer_to : Method → Entry → State → Outcome
answer_to m e s = outcome (owner e) (ruling m e s)

-- One customer's figures in the place of those that were.
abbrev pub put_row : {A : Type 0} → ℕ → (ℕ → A) → (ℕ → ℕ → A) → ℕ → ℕ → A
put_row c new f d a = cond (d == c) (new a) (f d a)

-- One customer's record in the place of the one that was.
abbrev pub with_record : ℕ → CustomerRecord → Accounts → Accounts
with_record c r b = record { records = slice_set b.records (c - 1) r; marks = b.marks; quotes = b.quotes; member = b.member }

-- The market in the place of the one that was.
abbrev pub with_prices : Market → Accounts → Accounts
with_prices k b = record { records = b.records; marks = k.marks; quotes = k.quotes; member = k.member }

-- An entry of a customer changes that customer's record, units and break marks, and nothing else;
-- an entry of none changes the market, and nothing else.
abbrev pub put_back : Option ℕ → View → State → State
put_back (some c) v s = record {
  accounts = with_record c v.account s.accounts;
  custody = record { units = put_row c v.held s.custody.units; depths = s.custody.depths };
  broken = put_row c v.broken s.broken;
}
put_back none v s = record {
  accounts = with_prices v.market s.accounts;
  custody = s.custody;
  broken = s.broken;
}

-- The state after the entry: a refused one leaves it.
abbrev pub state_after : Method → Entry → State → State
state_after m e s = cond (is_ok (answer_to m e s)) (put_back (owner e) (ruling m e s).after s) s

-- Two states show the same accounts, and the same units, depths and break marks of the 64 customers and four assets.
pub record Same (s t : State) : Type 0 where
  pub accounts : s.accounts ≡ t.accounts
  pub units : Alike s.custody.units t.custody.units
  pub depths : Alike s.custody.depths t.custody.depths
  pub broken : Alike s.broken t.broken

-- The entry e, brought to the state s, gets the outcome o and leaves the state t.
pub record Step (m : Method) (e : Entry) (s : State) (o : Outcome) (t : State) : Type 0 where
  pub answered : o ≡ answer_to m e s
  pub moved : Same t (state_after m e s)

-- ---- opening: all figures are 0, every customer is open, the member is active, and no break is marked
abbrev pub opening_accounts : Accounts
opening_accounts = record { records = replicate 64 blank; marks = replicate 8 (pos 0); quotes = replicate 3 0; member = Active }

abbrev pub opening : Custody → State
opening k = record { accounts = opening_accounts; custody = k; broken = λ c a. false }

-- ---- histories
-- An entry, and what it got.
pub record Event : Type 0 where
  pub entry : Entry
  pub result : Outcome

-- The history, newest entry first, leads from the opening over the custody k to the state t.
abbrev pub Leads : Method → Custody → List Event → State → Type 0
Leads m k [] t = Same t (opening k)
Leads m k (x ∷ h) t = (s : State) × Leads m k h s × Step m x.entry s x.result t
