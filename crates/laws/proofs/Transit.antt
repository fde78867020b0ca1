-- What is held stays within the ceilings, and of a customer in transit nothing is held, so that a return finds room.
use Rattle.std.proofs.Common.{◌≡◌, ℕ, ◌+◌, ◌-◌, ◌≤◌, true, false, ◌&&◌, eqb, leb, List, ◌∷◌, get_or, is_ok, sym, refl, ap, ◌∙◌, subst, arith}
use mathlib.Core.Option.{Option, some, none}
use Rattle.std.proofs.lemmas.Bool.{eqb-true, cond_both, leb-true, le-leb, and_parts, true≢false}
use Rattle.refusals.specs.Ranges.{ceiling, is_asset, is_customer, is_debt, customer_check}
use Rattle.refusals.proofs.Lists.{Hold, all_pass}
use Rattle.refusals.proofs.Names.{known, each_asset}
use Rattle.margin.specs.Meaning.{Method, on_portfolios}
use Rattle.rules.specs.declared.entries.Terms.{Terms}
use Rattle.rules.specs.declared.entries.Entry.{Entry}
use Rattle.rules.specs.declared.entries.Entry.TheVariants.{Deposit, Withdrawal, Payout, Trade, Mark, Quote, Settlement, Statement, Default, Closing, Transfer, Delivery, Return, Liquidation}
use Rattle.rules.specs.Views.{View, transit_status, is_in_transit, put, every_asset}
use Rattle.rules.specs.Figures.{carried_amount}
use Rattle.rules.specs.Rulings.{outcome}
use Rattle.rules.specs.Collateral.{deposit, withdrawal, payout, statement}
use Rattle.rules.specs.Trades.{trade}
use Rattle.rules.specs.Settlements.{settlement, liquidation, due, cash_after, debt_after}
use Rattle.rules.specs.Transfers.{transfer, delivery, return_of}
use Rattle.rules.specs.Rules.{rule, owner}
use Rattle.rules.specs.Histories.{Custody, State, view, opening, Event, Leads}
use Rattle.rules.specs.Laws.{WithinCeilings, Returnable}
use Rattle.laws.proofs.Shown.{own}
use Rattle.laws.proofs.Following.{KeptByGrants, kept_by_grants, follow}
use Rattle.laws.proofs.Statuses.{open_not_transit, liquidated_not_transit}
use Rattle.laws.proofs.Conservation.{opening_account}

-- ---- what holds of a customer's view
record Placed (v : View) : Type 0 where
  pub within : (a : ℕ) → is_asset a ≡ true → v.held a ≤ ceiling a
  pub emptied : is_in_transit v ≡ true → (a : ℕ) → is_asset a ≡ true → (v.held a ≡ 0) × (carried_amount v.account a ≤ ceiling a)

-- Of a customer that is not in transit only the ceilings are asked.
settled_down : (v : View) → is_in_transit v ≡ false → ((a : ℕ) → is_asset a ≡ true → v.held a ≤ ceiling a) → Placed v
settled_down v e w = record { within = w; emptied = λ t. absurd (true≢false (sym t ∙ e)) }

-- One asset's units replaced by some within its ceiling.
put_within :
    (held : ℕ → ℕ) (a n : ℕ) → ((b : ℕ) → is_asset b ≡ true → held b ≤ ceiling b) → n ≤ ceiling a
    → (b : ℕ) → is_asset b ≡ true → put a n held b ≤ ceiling b
put_within held a n w l b t =
    cond_both (eqb b a) n (held b) (λ x. x ≤ ceiling b) (λ e. subst (λ x. n ≤ ceiling x) (sym (eqb-true b a e)) l) (λ _. w b t)

-- ---- every entry of a customer
module _ (m : Method) (c : ℕ) (v : View) (p : Placed v) where
  deposits : (a n : ℕ) → Hold (deposit m c a n v).checks → Placed (deposit m c a n v).after
  unfolding deposit
  deposits a n (_, (_, (_, (status, (room, _))))) =
      settled_down _ (open_not_transit v.account.status status)
      (put_within v.held a (v.held a + n) p.within (leb-true (v.held a + n) (ceiling a) room))

  -- Units given out leave what is held within the ceilings.
  fewer_held : (a n : ℕ) → is_asset a ≡ true → (b : ℕ) → is_asset b ≡ true → put a (v.held a - n) v.held b ≤ ceiling b
  fewer_held a n asset = put_within v.held a (v.held a - n) p.within (let l = p.within a asset in omega (arith, l))

  withdrawals : (a n : ℕ) → Hold (withdrawal m c a n v).checks → Placed (withdrawal m c a n v).after
  unfolding withdrawal
  withdrawals a n (asset, (_, (_, (status, _)))) = settled_down _ (open_not_transit v.account.status status) (fewer_held a n asset)

  payouts : (a n : ℕ) → Hold (payout m c a n v).checks → Placed (payout m c a n v).after
  unfolding payout
  payouts a n (asset, (_, (_, (status, _)))) = settled_down _ (liquidated_not_transit v.account.status status) (fewer_held a n asset)

  trades : (t : Terms) → Placed (trade m c t v).after
  unfolding trade
  trades t = record { within = p.within; emptied = p.emptied }

  -- Cash that a settlement leaves, within its ceiling.
  cash_within :
      (leb (cash_after (v.held 1) (due v)) (ceiling 1) && is_debt (debt_after (v.held 1) (due v))) ≡ true
      → (a : ℕ) → is_asset a ≡ true → put 1 (cash_after (v.held 1) (due v)) v.held a ≤ ceiling a
  cash_within limits =
      put_within v.held 1 (cash_after (v.held 1) (due v)) p.within
      (leb-true (cash_after (v.held 1) (due v)) (ceiling 1) (and_parts (leb (cash_after (v.held 1) (due v)) (ceiling 1)) _ limits).0)

  settlements : Hold (settlement m c v).checks → Placed (settlement m c v).after
  unfolding settlement
  settlements (status, (limits, _)) = settled_down _ (open_not_transit v.account.status status) (cash_within limits)

  liquidations : Hold (liquidation m c v).checks → Placed (liquidation m c v).after
  unfolding liquidation
  liquidations (_, (_, (limits, _))) = settled_down _ refl (cash_within limits)

  statements : (a n : ℕ) → Placed (statement c a n v).after
  unfolding statement
  statements a n = record { within = p.within; emptied = p.emptied }

  transfers : Placed (transfer m c v).after
  unfolding transfer
  transfers = record {
    within = λ a t. omega arith;
    emptied = λ _ a t. (refl, each_asset (λ b. get_or (every_asset v.held) (b - 1) 0 ≤ ceiling b) (p.within 1 refl) (p.within 2 refl) (p.within 3 refl) (p.within 4 refl) a t);
  }

  deliveries : Placed (delivery m c v).after
  unfolding delivery
  deliveries = settled_down _ refl p.within

  returns_back : Hold (return_of m c v).checks → Placed (return_of m c v).after
  unfolding return_of
  returns_back (_, (one, (two, (three, (four, _))))) =
      settled_down _ refl (each_asset (λ a. v.held a + carried_amount v.account a ≤ ceiling a) (leb-true _ _ one) (leb-true _ _ two) (leb-true _ _ three) (leb-true _ _ four))

-- An entry of none changes neither account nor holdings.
abbrev Claim : Option ℕ → View → View → Type 0
Claim (some c) v w = Placed v → Placed w
Claim none v w = Unit {0}

claim : (m : Method) (e : Entry) (v : View) → Hold (rule m e v).checks → Claim (owner e) v (rule m e v).after
claim m (Deposit c a n) v t = λ p. deposits m c v p a n t
claim m (Withdrawal c a n) v t = λ p. withdrawals m c v p a n t
claim m (Payout c a n) v t = λ p. payouts m c v p a n t
claim m (Trade c terms) v t = λ p. trades m c v p terms
claim m (Mark k p) v t = tt
claim m (Quote a q) v t = tt
claim m (Settlement c) v t = λ p. settlements m c v p t
claim m (Statement c a n) v t = λ p. statements m c v p a n
claim m Default v t = tt
claim m Closing v t = tt
claim m (Transfer c) v t = λ p. transfers m c v p
claim m (Delivery c) v t = λ p. deliveries m c v p
claim m (Return c) v t = λ p. returns_back m c v p t
claim m (Liquidation c) v t = λ p. liquidations m c v p t

-- ---- every history
own_placed : (c : ℕ) (v w : View) → is_customer c ≡ true → Placed w → Placed (own c w v)
own_placed c v w e p = record {
  within = λ a t. rw (e, t) (p.within a t);
  emptied = λ s a t. rw (e, t) (p.emptied s a t);
}

placed_kept : (q : Method) (c : ℕ) → KeptByGrants q c (λ h v. Placed v)
placed_kept q c = record {
  by_another = λ x h v n p. p;
  by_refusal = λ x h v r p. p;
  by_grant = λ x h v r o e t p.
      own_placed c v (rule q x.entry v).after e (subst (λ y. Claim y v (rule q x.entry v).after) o (claim q x.entry v t) p);
  by_market = λ x h v r o t p. record { within = p.within; emptied = p.emptied };
}

opening_placed : (k : Custody) (c : ℕ) → is_customer c ≡ true → WithinCeilings k → Placed (view (opening k) c)
opening_placed k c e w =
    settled_down _ (ap (λ r. transit_status r.status) (opening_account k c e))
    (λ a t. rw (e, t) (w c a (known c a e t)))

placed : (m : Method) (k : Custody) (h : List Event) (s : State) → Leads m k h s → WithinCeilings k → (c : ℕ) → is_customer c ≡ true → Placed (view s c)
placed m k h s l w c e = follow m k c (λ _ v. Placed v) (kept_by_grants (on_portfolios m) c (λ _ v. Placed v) (placed_kept (on_portfolios m) c)) (opening_placed k c e w) h s l

-- ---- a return is granted
room : (v : View) → Placed v → is_in_transit v ≡ true → (a : ℕ) → is_asset a ≡ true → leb (v.held a + carried_amount v.account a) (ceiling a) ≡ true
room v p t a asset = let e = p.emptied t a asset in le-leb _ _ (omega (arith, e.0, e.1))

return_granted : (q : Method) (c : ℕ) (v : View) → is_customer c ≡ true → Placed v → is_in_transit v ≡ true → is_ok (outcome (some c) (return_of q c v)) ≡ true
unfolding outcome return_of
return_granted q c v e p t =
    all_pass (return_of q c v).answer (customer_check c ∷ (return_of q c v).checks)
    (e, (t, (room v p t 1 refl, (room v p t 2 refl, (room v p t 3 refl, (room v p t 4 refl, tt))))))

pub returnable : (m : Method) (k : Custody) (h : List Event) (s : State) → Leads m k h s → Returnable m k s
returnable m k h s l w c e t =
    let p = placed m k h s l w c e in
    (p.emptied t, return_granted (on_portfolios m) c (view s c) e p t)
