-- What each granted entry does to a customer's balance at any prices.
use Rattle.std.proofs.Common.{◌≡◌, ℕ, suc, ◌+◌, ◌-◌, ◌<◌, min, Bool, true, false, cond, ◌&&◌, eqb, ◌≢◌, List, length, set, ℤ, pos, negsuc, ◌+ℤ◌, ◌-ℤ◌, ◌*ℤ◌, sym, refl, ap, ◌∙◌, ap₂, ⊎_elim, arith, length-set, get_or-set_other, get_or-set_same}
use mathlib.Core.Option.{Option, some, none}
use Rattle.std.proofs.lemmas.Int.{ints}
use Rattle.std.proofs.lemmas.Bool.{cases_eq, eq-eqb, ne_eqb, cond-true, cond-false, leb-true, false≢true}
use Rattle.refusals.specs.Ranges.{is_contract}
use Rattle.refusals.proofs.Lists.{Hold}
use Rattle.refusals.proofs.Names.{in_range}
use Rattle.margin.specs.Sums.{at, eight, total}
use Rattle.margin.specs.Meaning.{Method}
use Rattle.rules.specs.declared.entries.Terms.{Terms}
use Rattle.rules.specs.declared.entries.Entry.{Entry}
use Rattle.rules.specs.declared.entries.Entry.TheVariants.{Deposit, Withdrawal, Payout, Trade, Mark, Quote, Settlement, Statement, Default, Closing, Transfer, Delivery, Return, Liquidation}
use Rattle.rules.specs.Views.{View, transit_status, with_account}
use Rattle.rules.specs.Figures.{amount, carried_amount, unsettled}
use Rattle.rules.specs.Collateral.{deposit, withdrawal, payout, statement}
use Rattle.rules.specs.Trades.{trade, traded, net_after, cost_after}
use Rattle.rules.specs.Settlements.{settlement, liquidation, settled, due, gain, loss, cash_after, debt_after}
use Rattle.rules.specs.Transfers.{transfer, delivery, return_of}
use Rattle.rules.specs.Markets.{mark, quote, default, closing}
use Rattle.rules.specs.Rules.{rule, owner}
use Rattle.rules.specs.Conservation.{Effect, pays_in, draws, trades, marks, counts_nothing, effect, cash_in, cash_out, trade_result, mark_after, is_live}
use Rattle.laws.proofs.Statuses.{open_live, transit_live, liquidated_not_live, open_not_transit}
use Rattle.laws.proofs.Totals.{one_trade, total_less, total_change, total_eight}

-- The unsettled result of each contract at the prices μ,
abbrev pub positions : View → (ℕ → ℤ) → ℕ → ℤ
positions v μ i = at v.account.nets i *ℤ μ (suc i) -ℤ at v.account.costs i

-- and cash, in transit too, less debt plus their sum.
abbrev pub balance : View → (ℕ → ℤ) → ℤ
balance v μ = pos (amount v 1) -ℤ pos v.account.debt +ℤ total 8 (positions v μ)

-- What an effect adds to the balance of c.
abbrev pub increase : ℕ → Effect → (ℕ → ℤ) → ℤ
increase c f μ = pos (cash_in c f) -ℤ pos (cash_out c f) +ℤ trade_result c μ f

-- An entry of the customer c, whose effect is f, turned the view v into w.
pub record Change (c : ℕ) (f : Effect) (v w : View) : Type 0 where
  pub live : is_live w.account.status ≡ true → is_live v.account.status ≡ true
  pub nets : length v.account.nets ≡ 8 → length w.account.nets ≡ 8
  pub costs : length v.account.costs ≡ 8 → length w.account.costs ≡ 8
  pub moved :
      is_live w.account.status ≡ true → length v.account.nets ≡ 8 → length v.account.costs ≡ 8
      → (μ : ℕ → ℤ) → balance w μ ≡ balance v μ +ℤ increase c f μ
  pub no_mark : (k : ℕ) (z : ℤ) → mark_after k z f ≡ z

-- ---- cash in and out
-- Cash in transit.
abbrev carried : View → ℕ
carried v = cond (transit_status v.account.status) (carried_amount v.account 1) 0

-- The cash after, by the units i that came in and o that went out of the asset a.
cash_moved :
    (c a i o h₁ hₐ h' x : ℕ) → (a ≡ 1 → hₐ ≡ h₁) → hₐ + i ≡ h' + o
    → h₁ + x + cond (eqb c c && eqb a 1) i 0 ≡ cond (eqb 1 a) h' h₁ + x + cond (eqb c c && eqb a 1) o 0
cash_moved c a i o h₁ hₐ h' x e s =
    ⊎_elim
    (λ (q : a ≡ 1). simp (eq-eqb c c refl, eq-eqb a 1 q, eq-eqb 1 a (sym q)) (omega (arith, e q)))
    (λ (q : a ≡ 1 → ⊥). simp (eq-eqb c c refl, ne_eqb a 1 q, ne_eqb 1 a (λ r. q (sym r))) (omega arith))
    (cases_eq a 1)

none_moved : (b : Bool) → cond {A = ℕ} b 0 0 ≡ 0
none_moved true = refl
none_moved false = refl

-- The balance moves by what came in less what went out,
by_cash :
    (A A' D i o i' o' : ℕ) (X : ℤ) → A + i ≡ A' + o → i ≡ i' → o ≡ o'
    → pos A' -ℤ pos D +ℤ X ≡ (pos A -ℤ pos D +ℤ X) +ℤ (pos i' -ℤ pos o' +ℤ pos 0)
by_cash A A' D i o i' o' X e f g = omega (arith, ints)

-- and not at all where nothing did.
pub unmoved : (x y : ℤ) → y ≡ pos 0 -ℤ pos 0 +ℤ pos 0 → x ≡ x +ℤ y
unmoved x y e = omega (arith, ints)

-- An entry that leaves the account, and is no mark.
account_kept :
    (c : ℕ) (f : Effect) (v w : View) → w.account ≡ v.account → ((k : ℕ) (z : ℤ) → mark_after k z f ≡ z)
    → ((μ : ℕ → ℤ) → is_live w.account.status ≡ true → balance w μ ≡ balance v μ +ℤ increase c f μ)
    → Change c f v w
account_kept c f v w e n b = record {
  live = λ l. ap (λ r. is_live r.status) (sym e) ∙ l;
  nets = λ l. ap (λ r. length r.nets) e ∙ l;
  costs = λ l. ap (λ r. length r.costs) e ∙ l;
  moved = λ l _ _ μ. b μ l;
  no_mark = n;
}

deposits : (m : Method) (c a n : ℕ) (v : View) → Change c (pays_in c a n) v (deposit m c a n v).after
unfolding deposit
deposits m c a n v =
    account_kept c (pays_in c a n) v _ refl (λ _ _. refl)
    (λ μ _. by_cash (amount v 1) _ v.account.debt _ _ _ 0 (total 8 (positions v μ))
    (cash_moved c a n 0 (v.held 1) (v.held a) (v.held a + n) (carried v) (λ e. ap v.held e) (omega arith)) refl (none_moved (eqb c c && eqb a 1)))

withdrawals : (m : Method) (c a n : ℕ) (v : View) → Hold (withdrawal m c a n v).checks → Change c (draws c a n) v (withdrawal m c a n v).after
unfolding withdrawal
withdrawals m c a n v (_, (_, (_, (_, (_, (held, _)))))) =
    account_kept c (draws c a n) v _ refl (λ _ _. refl)
    (λ μ _. by_cash (amount v 1) _ v.account.debt _ _ 0 _ (total 8 (positions v μ))
    (cash_moved c a 0 n (v.held 1) (v.held a) (v.held a - n) (carried v) (λ e. ap v.held e) (omega (arith, leb-true n (v.held a) held)))
    (none_moved (eqb c c && eqb a 1)) refl)

-- A payout is of a liquidated customer, of whom the law says nothing.
payouts : (m : Method) (c a n : ℕ) (v : View) → Hold (payout m c a n v).checks → Change c counts_nothing v (payout m c a n v).after
unfolding payout
payouts m c a n v (_, (_, (_, (status, _)))) =
    account_kept c counts_nothing v _ refl (λ _ _. refl) (λ μ l. absurd (liquidated_not_live v.account.status status l))

-- A statement changes neither account nor holdings.
statements : (c a n : ℕ) (v : View) → Change c counts_nothing v (statement c a n v).after
unfolding statement
statements c a n v = account_kept c counts_nothing v _ refl (λ _ _. refl) (λ μ _. unmoved (balance v μ) _ refl)

-- ---- transfers: cash goes out of custody and stays counted, until delivered
same_cash : (A A' D : ℕ) (X : ℤ) → A' ≡ A → pos A' -ℤ pos D +ℤ X ≡ (pos A -ℤ pos D +ℤ X) +ℤ (pos 0 -ℤ pos 0 +ℤ pos 0)
same_cash A A' D X e = by_cash A A' D 0 0 0 0 X (ap (λ z. z + 0) (sym e)) refl refl

not_counted : (b : Bool) (x h : ℕ) → b ≡ false → 0 + h ≡ h + cond b x 0
not_counted b x h e = simp e (omega arith)

counted : (b : Bool) (x h : ℕ) → b ≡ true → h + x + 0 ≡ h + cond b x 0
counted b x h e = simp e (omega arith)

transfers : (m : Method) (c : ℕ) (v : View) → Hold (transfer m c v).checks → Change c counts_nothing v (transfer m c v).after
unfolding transfer
transfers m c v (_, (status, _)) = record {
  live = λ _. open_live v.account.status status;
  nets = λ l. l;
  costs = λ l. l;
  moved = λ _ _ _ μ. same_cash (amount v 1) (0 + v.held 1) v.account.debt (total 8 (positions v μ))
      (not_counted (transit_status v.account.status) (carried_amount v.account 1) (v.held 1) (open_not_transit v.account.status status));
  no_mark = λ _ _. refl;
}

deliveries : (m : Method) (c : ℕ) (v : View) → Change c counts_nothing v (delivery m c v).after
unfolding delivery
deliveries m c v = record {
  live = λ l. absurd (false≢true l);
  nets = λ l. l;
  costs = λ l. l;
  moved = λ l _ _ μ. absurd (false≢true l);
  no_mark = λ _ _. refl;
}

returns_back : (m : Method) (c : ℕ) (v : View) → Hold (return_of m c v).checks → Change c counts_nothing v (return_of m c v).after
unfolding return_of
returns_back m c v (status, _) = record {
  live = λ _. transit_live v.account.status status;
  nets = λ l. l;
  costs = λ l. l;
  moved = λ _ _ _ μ. same_cash (amount v 1) (v.held 1 + carried_amount v.account 1 + 0) v.account.debt (total 8 (positions v μ))
      (counted (transit_status v.account.status) (carried_amount v.account 1) (v.held 1) status);
  no_mark = λ _ _. refl;
}

-- ---- trade
place_of : (k : ℕ) → is_contract k ≡ true → (k - 1 < 8) × (suc (k - 1) ≡ k)
place_of k t = let r = in_range 1 8 k t in omega (arith, r.0, r.1)

by_trade : (A D : ℕ) (X X' x y : ℤ) → X' ≡ X +ℤ x → x ≡ y → pos A -ℤ pos D +ℤ X' ≡ (pos A -ℤ pos D +ℤ X) +ℤ (pos 0 -ℤ pos 0 +ℤ y)
by_trade A D X X' x y e f = omega (arith, ints)

trade_change : (c : ℕ) (t : Terms) (v : View) → is_contract t.contract ≡ true → Change c (trades c t) v (with_account (traded t v.account) v)
trade_change c t v known = record {
  live = λ l. l;
  nets = λ l. length-set v.account.nets j _ ∙ l;
  costs = λ l. length-set v.account.costs j _ ∙ l;
  moved = λ _ nets costs μ.
      by_trade (amount v 1) v.account.debt (total 8 (positions v μ)) (total 8 (positions w μ)) (added μ) _ (changed nets costs μ) (counts μ);
  no_mark = λ _ _. refl;
}
  where
    j : ℕ
    j = t.contract - 1

    w : View
    w = with_account (traded t v.account) v

    added : (ℕ → ℤ) → ℤ
    added μ = t.units *ℤ (μ (suc j) -ℤ t.price)

    counts : (μ : ℕ → ℤ) → added μ ≡ cond (eqb c c) (t.units *ℤ (μ t.contract -ℤ t.price)) (pos 0)
    counts μ = ap (λ i. t.units *ℤ (μ i -ℤ t.price)) (place_of t.contract known).1 ∙ sym (cond-true (eqb c c) _ _ (eq-eqb c c refl))

    changed : length v.account.nets ≡ 8 → length v.account.costs ≡ 8 → (μ : ℕ → ℤ) → total 8 (positions w μ) ≡ total 8 (positions v μ) +ℤ added μ
    changed nets costs μ =
        total_change 8 j (positions v μ) (positions w μ) (added μ) (place_of t.contract known).0
        (ap₂ (λ x y. x *ℤ μ (suc j) -ℤ y)
        (get_or-set_same v.account.nets j (net_after t v.account) (pos 0) (omega (arith, nets, (place_of t.contract known).0)))
        (get_or-set_same v.account.costs j (cost_after t v.account) (pos 0) (omega (arith, costs, (place_of t.contract known).0)))
        ∙ one_trade (at v.account.nets j) (at v.account.costs j) t.units t.price (μ (suc j)))
        (λ i other. ap₂ (λ x y. x *ℤ μ (suc i) -ℤ y)
        (get_or-set_other v.account.nets j i (net_after t v.account) (pos 0) other)
        (get_or-set_other v.account.costs j i (cost_after t v.account) (pos 0) other))

trades_made : (m : Method) (c : ℕ) (t : Terms) (v : View) → Hold (trade m c t v).checks → Change c (trades c t) v (trade m c t v).after
unfolding trade
trades_made m c t v (known, _) = trade_change c t v known

-- ---- settlement: what is due moves from the unsettled result to cash and debt
by_due :
    (H D X : ℕ) (U d F G K : ℤ) → U -ℤ pos D ≡ d → U ≡ G -ℤ K
    → pos (H + gain d - min H (loss d) + X) -ℤ pos (loss d - min H (loss d)) +ℤ (F -ℤ G)
    ≡ (pos (H + X) -ℤ pos D +ℤ (F -ℤ K)) +ℤ (pos 0 -ℤ pos 0 +ℤ pos 0)
by_due H D X U (pos n) F G K e f = omega (arith, ints)
by_due H D X U (negsuc n) F G K e f = omega (arith, ints)

settlement_moves : (v : View) (μ : ℕ → ℤ) → balance (settled v) μ ≡ balance v μ +ℤ (pos 0 -ℤ pos 0 +ℤ pos 0)
settlement_moves v μ =
    ap (λ x. pos (cash_after (v.held 1) (due v) + carried v) -ℤ pos (debt_after (v.held 1) (due v)) +ℤ x)
    (total_less 8 priced (at (eight marked)) ∙ ap (λ x. total 8 priced -ℤ x) (total_eight marked))
    ∙ by_due (v.held 1) v.account.debt (carried v) (unsettled v) (due v) (total 8 priced) (total 8 marked) (total 8 costs) refl (total_less 8 marked costs)
    ∙ ap (λ x. (pos (amount v 1) -ℤ pos v.account.debt +ℤ x) +ℤ (pos 0 -ℤ pos 0 +ℤ pos 0)) (sym (total_less 8 priced costs))
  where
    priced : ℕ → ℤ
    priced i = at v.account.nets i *ℤ μ (suc i)

    marked : ℕ → ℤ
    marked i = at v.account.nets i *ℤ at v.market.marks i

    costs : ℕ → ℤ
    costs i = at v.account.costs i

settlements : (m : Method) (c : ℕ) (v : View) → Change c counts_nothing v (settlement m c v).after
unfolding settlement
settlements m c v = record {
  live = λ l. l;
  nets = λ l. l;
  costs = λ _. refl;
  moved = λ _ _ _ μ. settlement_moves v μ;
  no_mark = λ _ _. refl;
}

liquidations : (m : Method) (c : ℕ) (v : View) → Change c counts_nothing v (liquidation m c v).after
unfolding liquidation
liquidations m c v = record {
  live = λ l. absurd (false≢true l);
  nets = λ _. refl;
  costs = λ _. refl;
  moved = λ l _ _ μ. absurd (false≢true l);
  no_mark = λ _ _. refl;
}

-- ---- entries of no customer: they change the market alone
pub record Repriced (f : Effect) (v w : View) : Type 0 where
  pub eight_marks : length v.market.marks ≡ 8 → length w.market.marks ≡ 8
  pub prices : length v.market.marks ≡ 8 → (i : ℕ) → i < 8 → at w.market.marks i ≡ mark_after (suc i) (at v.market.marks i) f
  pub no_cash : (c : ℕ) (μ : ℕ → ℤ) → increase c f μ ≡ pos 0 -ℤ pos 0 +ℤ pos 0

mark_set : (xs : List ℤ) (k i : ℕ) (p : ℤ) → is_contract k ≡ true → length xs ≡ 8 → i < 8 → at (set xs (k - 1) p) i ≡ cond (eqb k (suc i)) p (at xs i)
mark_set xs k i p t l h =
    ⊎_elim
    (λ (q : k ≡ suc i). let j : k - 1 ≡ i = omega arith in
    ap (λ x. at (set xs x p) i) j ∙ get_or-set_same xs i p (pos 0) (omega arith) ∙ sym (cond-true (eqb k (suc i)) p (at xs i) (eq-eqb k (suc i) q)))
    (λ (q : k ≡ suc i → ⊥). let r = place_of k t in let n : i ≢ k - 1 = omega (arith, r.1) in
    get_or-set_other xs (k - 1) i p (pos 0) n ∙ sym (cond-false (eqb k (suc i)) p (at xs i) (ne_eqb k (suc i) q)))
    (cases_eq k (suc i))

marks_set : (k : ℕ) (p : ℤ) (v : View) → Hold (mark k p v).checks → Repriced (marks k p) v (mark k p v).after
unfolding mark
marks_set k p v (known, _) = record {
  eight_marks = λ l. length-set v.market.marks (k - 1) p ∙ l;
  prices = λ l i h. mark_set v.market.marks k i p known l h;
  no_cash = λ _ _. refl;
}

-- The marks are left.
unpriced : (v w : View) → w.market.marks ≡ v.market.marks → Repriced counts_nothing v w
unpriced v w e = record {
  eight_marks = λ l. ap length e ∙ l;
  prices = λ _ i _. ap (λ xs. at xs i) e;
  no_cash = λ _ _. refl;
}

quotes_set : (a n : ℕ) (v : View) → Repriced counts_nothing v (quote a n v).after
unfolding quote
quotes_set a n v = unpriced v _ refl

defaults : (v : View) → Repriced counts_nothing v (default v).after
unfolding default
defaults v = unpriced v _ refl

closings : (v : View) → Repriced counts_nothing v (closing v).after
unfolding closing
closings v = unpriced v _ refl

-- ---- every entry
abbrev pub Claim : Option ℕ → Effect → View → View → Type 0
Claim (some c) f v w = Change c f v w
Claim none f v w = Repriced f v w

pub claim : (m : Method) (e : Entry) (v : View) → Hold (rule m e v).checks → Claim (owner e) (effect e) v (rule m e v).after
claim m (Deposit c a n) v t = deposits m c a n v
claim m (Withdrawal c a n) v t = withdrawals m c a n v t
claim m (Payout c a n) v t = payouts m c a n v t
claim m (Trade c terms) v t = trades_made m c terms v t
claim m (Mark k p) v t = marks_set k p v t
claim m (Quote a n) v t = quotes_set a n v
claim m (Settlement c) v t = settlements m c v
claim m (Statement c a n) v t = statements c a n v
claim m Default v t = defaults v
claim m Closing v t = closings v
claim m (Transfer c) v t = transfers m c v t
claim m (Delivery c) v t = deliveries m c v
claim m (Return c) v t = returns_back m c v t
claim m (Liquidation c) v t = liquidations m c v
