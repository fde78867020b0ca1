-- Segregation: what other customers enter, and where, changes nothing that a customer is told or has.
use Rattle.std.specs.Prelude.{◌≡◌, ℕ, Bool, true, false, List, [], ◌∷◌, map, ℤ, ◌==◌}
use Rattle.std.proofs.Math.Option.{Option, some, none}
use Rattle.refusals.specs.Ranges.{is_asset}
use Rattle.margin.specs.Meaning.{Method, is_portfolio, on_portfolios}
use Rattle.rules.specs.declared.entries.Entry.{Entry}
use Rattle.rules.specs.Figures.{protected_value, margin_call}
use Rattle.rules.specs.Rulings.{Outcome}
use Rattle.rules.specs.Rules.{owner}
use Rattle.rules.specs.Histories.{Custody, State, view, Event, Leads}

-- The entry is of the customer c, or of none.
abbrev pub concerns : ℕ → Option ℕ → Bool
concerns c (some d) = d == c
concerns c none = true

abbrev pub keep : Bool → Event → List Event → List Event
keep true x h = x ∷ h
keep false x h = h

-- The rest for c: what a history holds of the entries of c and of none.
abbrev pub rest : ℕ → List Event → List Event
rest c [] = []
rest c (x ∷ h) = keep (concerns c (owner x.entry)) x (rest c h)

abbrev pub entries : List Event → List Entry
entries = map (λ x. x.entry)

abbrev pub answers : List Event → List Outcome
answers = map (λ x. x.result)

-- What a customer has is equal in two states: the figures, the carried portfolio, and all else that concerns the customer.
pub record EqualFigures (m : Method) (s : State) (m' : Method) (s' : State) (c : ℕ) : Type 0 where
  pub value : protected_value (view s c) ≡ protected_value (view s' c)
  pub call : margin_call (on_portfolios m) (view s c) ≡ margin_call (on_portfolios m') (view s' c)
  pub debt : (view s c).account.debt ≡ (view s' c).account.debt
  pub nets : (view s c).account.nets ≡ (view s' c).account.nets
  pub costs : (view s c).account.costs ≡ (view s' c).account.costs
  pub carried : (view s c).account.carried ≡ (view s' c).account.carried
  pub whole : view s c ≡ view s' c

-- The custodies began alike in the units and block depths of the customer c.
pub record BeganAlike (c : ℕ) (k k' : Custody) : Type 0 where
  pub units : (a : ℕ) → is_asset a ≡ true → k.units c a ≡ k'.units c a
  pub depths : (a : ℕ) → is_asset a ≡ true → k.depths c a ≡ k'.depths c a

-- The methods require the same of each portfolio.
abbrev pub RequireAlike : Method → Method → Type 0
RequireAlike m m' = (nets : List ℤ) → is_portfolio nets ≡ true → m nets ≡ m' nets

-- The history h over the custody k led to s. Any other history may differ in whatever other customers entered, and where.
-- If the rest is the same list, the custodies began alike for the customer and the methods require the same of each
-- portfolio, then every answer to the rest is equal, and so is what the customer has.
abbrev pub Segregated : Method → Custody → List Event → State → Type 0
Segregated m k h s =
    (c : ℕ) (m' : Method) (k' : Custody) (h' : List Event) (s' : State) →
    Leads m' k' h' s' →
    entries (rest c h) ≡ entries (rest c h') →
    BeganAlike c k k' →
    RequireAlike m m' →
    (answers (rest c h) ≡ answers (rest c h')) × EqualFigures m s m' s' c
