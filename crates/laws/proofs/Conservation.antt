-- Over every history the balance of a customer is what was paid in, less what was withdrawn, plus the result of the trades.
use Rattle.std.proofs.Common.{◌≡◌, ℕ, suc, ◌+◌, ◌-◌, ◌<◌, ◌≤◌, Bool, true, false, cond, ◌&&◌, eqb, List, [], ◌∷◌, length, replicate, ℤ, pos, ◌+ℤ◌, ◌-ℤ◌, ◌*ℤ◌, is_ok, sym, refl, ap, ◌∙◌, subst, ap₂, arith}
use lib.IntN.{zero-*ℤ}
use lib.ListN.{get_or-replicate}
use Rattle.std.proofs.lemmas.Int.{ints}
use Rattle.std.proofs.lemmas.Bool.{cond-true, true≢false}
use Rattle.refusals.specs.Ranges.{is_asset, is_customer}
use Rattle.refusals.proofs.Names.{in_range}
use Rattle.margin.specs.Sums.{at, total}
use Rattle.margin.specs.Meaning.{Method, on_portfolios}
use Rattle.rules.specs.declared.entries.Entry.{Entry}
use Rattle.rules.specs.declared.entries.Entry.TheVariants.{Deposit, Withdrawal, Payout, Trade, Mark, Quote, Settlement, Statement, Default, Closing, Transfer, Delivery, Return, Liquidation}
use Rattle.rules.specs.Views.{View, with_market}
use Rattle.rules.specs.Figures.{amount}
use Rattle.rules.specs.Rules.{rule, owner}
use Rattle.rules.specs.Histories.{Custody, State, view, blank, unread, opening, Event, Leads}
use Rattle.rules.specs.Segregation.{concerns}
use Rattle.rules.specs.Conservation.{Effect, counts_nothing, effect, granted_effect, cash_in, cash_out, trade_result, mark_after, paid_in, withdrawn, trade_results, mark_now, is_live, Conserved}
use Rattle.laws.proofs.Shown.{own}
use Rattle.laws.proofs.Following.{bare, KeptByGrants, kept_by_grants, follow}
use Rattle.laws.proofs.Totals.{total_same}
use Rattle.laws.proofs.Balance.{positions, balance, increase, unmoved, Change, Repriced, Claim, claim}

-- What the entries of a history come to, at the prices μ.
abbrev entered : ℕ → List Event → (ℕ → ℤ) → ℤ
entered c h μ = pos (paid_in c h) -ℤ pos (withdrawn c h) +ℤ trade_results c μ h

record LiveBooks (c : ℕ) (h : List Event) (v : View) : Type 0 where
  pub nets : length v.account.nets ≡ 8
  pub costs : length v.account.costs ≡ 8
  pub kept : (μ : ℕ → ℤ) → balance v μ ≡ entered c h μ

-- The law at every price, which a mark leaves as it is; and the marks, at which it is wanted in the end.
record Books (c : ℕ) (h : List Event) (v : View) : Type 0 where
  pub eight_marks : length v.market.marks ≡ 8
  pub prices : (i : ℕ) → i < 8 → at v.market.marks i ≡ mark_now h (suc i)
  pub when_live : is_live v.account.status ≡ true → LiveBooks c h v

-- ---- one event more
-- The effect f turned the view v of the customer c into w.
record Turned (c : ℕ) (f : Effect) (v w : View) : Type 0 where
  pub eight_marks : length v.market.marks ≡ 8 → length w.market.marks ≡ 8
  pub prices : length v.market.marks ≡ 8 → (i : ℕ) → i < 8 → at w.market.marks i ≡ mark_after (suc i) (at v.market.marks i) f
  pub live : is_live w.account.status ≡ true → is_live v.account.status ≡ true
  pub nets : length v.account.nets ≡ 8 → length w.account.nets ≡ 8
  pub costs : length v.account.costs ≡ 8 → length w.account.costs ≡ 8
  pub moved :
      is_live w.account.status ≡ true → length v.account.nets ≡ 8 → length v.account.costs ≡ 8
      → (μ : ℕ → ℤ) → balance w μ ≡ balance v μ +ℤ increase c f μ

one_more : (i o P W : ℕ) (t R : ℤ) → (pos P -ℤ pos W +ℤ R) +ℤ (pos i -ℤ pos o +ℤ t) ≡ pos (i + P) -ℤ pos (o + W) +ℤ (t +ℤ R)
one_more i o P W t R = omega (arith, ints)

books_on : (c : ℕ) (x : Event) (h : List Event) (v w : View) → Turned c (granted_effect x) v w → Books c h v → Books c (x ∷ h) w
books_on c x h v w t b = record {
  eight_marks = t.eight_marks b.eight_marks;
  prices = λ i l. t.prices b.eight_marks i l ∙ ap (λ z. mark_after (suc i) z (granted_effect x)) (b.prices i l);
  when_live = λ l. let o = b.when_live (t.live l) in record {
    nets = t.nets o.nets;
    costs = t.costs o.costs;
    kept = λ μ. t.moved l o.nets o.costs μ
        ∙ ap (λ y. y +ℤ increase c (granted_effect x) μ) (o.kept μ)
        ∙ one_more (cash_in c (granted_effect x)) (cash_out c (granted_effect x)) (paid_in c h) (withdrawn c h) (trade_result c μ (granted_effect x)) (trade_results c μ h);
  };
}

-- ---- what leaves the view
-- The effect counts for nothing of c.
record Idle (c : ℕ) (f : Effect) : Type 0 where
  pub cash : (μ : ℕ → ℤ) → increase c f μ ≡ pos 0 -ℤ pos 0 +ℤ pos 0
  pub mark : (k : ℕ) (z : ℤ) → mark_after k z f ≡ z

idle : (c : ℕ) (f : Effect) (v : View) → Idle c f → Turned c f v v
idle c f v d = record {
  eight_marks = λ l. l;
  prices = λ _ i _. sym (d.mark (suc i) (at v.market.marks i));
  live = λ l. l;
  nets = λ l. l;
  costs = λ l. l;
  moved = λ _ _ _ μ. unmoved (balance v μ) (increase c f μ) (d.cash μ);
}

nothing : (c : ℕ) → Idle c counts_nothing
nothing c = record { cash = λ _. refl; mark = λ _ _. refl }

-- An entry of another customer is no cash and no trade of c, and sets no mark.
of_another : (c : ℕ) (e : Entry) → concerns c (owner e) ≡ false → Idle c (effect e)
of_another c (Deposit d a n) h = record { cash = λ μ. ap (λ b. pos (cond (b && eqb a 1) n 0) -ℤ pos 0 +ℤ pos 0) h; mark = λ _ _. refl }
of_another c (Withdrawal d a n) h = record { cash = λ μ. ap (λ b. pos 0 -ℤ pos (cond (b && eqb a 1) n 0) +ℤ pos 0) h; mark = λ _ _. refl }
of_another c (Payout d a n) h = nothing c
of_another c (Trade d t) h = record { cash = λ μ. ap (λ b. pos 0 -ℤ pos 0 +ℤ cond b (t.units *ℤ (μ t.contract -ℤ t.price)) (pos 0)) h; mark = λ _ _. refl }
of_another c (Mark k p) h = absurd (true≢false h)
of_another c (Quote a q) h = nothing c
of_another c (Settlement d) h = nothing c
of_another c (Statement d a n) h = nothing c
of_another c Default h = nothing c
of_another c Closing h = nothing c
of_another c (Transfer d) h = nothing c
of_another c (Delivery d) h = nothing c
of_another c (Return d) h = nothing c
of_another c (Liquidation d) h = nothing c

idle_event : (c : ℕ) (f : Effect) (b : Bool) → Idle c f → Idle c (cond b f counts_nothing)
idle_event c f true d = d
idle_event c f false d = nothing c

-- ---- what is granted to c, or to none
own_balance : (c : ℕ) (v w : View) (μ : ℕ → ℤ) → is_customer c ≡ true → balance (own c w v) μ ≡ balance w μ
own_balance c v w μ e =
    ap (λ b. balance (record { account = w.account; held = λ a. cond (b && is_asset a) (w.held a) 0; below = v.below; broken = w.broken; market = v.market }) μ) e

own_turned : (c : ℕ) (f : Effect) (v w : View) → is_customer c ≡ true → Change c f v w → Turned c f v (own c w v)
own_turned c f v w e g = record {
  eight_marks = λ l. l;
  prices = λ _ i _. sym (g.no_mark (suc i) (at v.market.marks i));
  live = g.live;
  nets = g.nets;
  costs = g.costs;
  moved = λ l n k μ. own_balance c v w μ e ∙ g.moved l n k μ;
}

market_turned : (c : ℕ) (f : Effect) (v w : View) → Repriced f (bare v.market) w → Turned c f v (with_market w.market v)
market_turned c f v w g = record {
  eight_marks = g.eight_marks;
  prices = g.prices;
  live = λ l. l;
  nets = λ l. l;
  costs = λ l. l;
  moved = λ _ _ _ μ. unmoved (balance v μ) (increase c f μ) (g.no_cash c μ);
}

books_kept : (q : Method) (c : ℕ) → KeptByGrants q c (Books c)
books_kept q c = record {
  by_another = λ x h v n b.
      books_on c x h v v (idle c (granted_effect x) v (idle_event c (effect x.entry) (is_ok x.result) (of_another c x.entry n))) b;
  by_refusal = λ x h v r b. books_on c x h v v (counted x v v r (idle c counts_nothing v (nothing c))) b;
  by_grant = λ x h v r o e t b.
      let change : Change c (effect x.entry) v (rule q x.entry v).after = subst (λ y. Claim y (effect x.entry) v (rule q x.entry v).after) o (claim q x.entry v t) in
      books_on c x h v _ (counted x v _ r (own_turned c (effect x.entry) v (rule q x.entry v).after e change)) b;
  by_market = λ x h v r o t b.
      let u = bare v.market in
      let change : Repriced (effect x.entry) u (rule q x.entry u).after = subst (λ y. Claim y (effect x.entry) u (rule q x.entry u).after) o (claim q x.entry u t) in
      books_on c x h v _ (counted x v _ r (market_turned c (effect x.entry) v (rule q x.entry u).after change)) b;
}
  where
    -- What the event counts for, by its outcome.
    counted : {b : Bool} (x : Event) (v w : View) → is_ok x.result ≡ b → Turned c (cond b (effect x.entry) counts_nothing) v w → Turned c (granted_effect x) v w
    counted x v w r t = subst (λ y. Turned c (cond y (effect x.entry) counts_nothing) v w) (sym r) t

-- ---- the opening
place_below : {c : ℕ} → (1 ≤ c) × (c ≤ 64) → c - 1 < 64
place_below r = omega arith

pub opening_account : (k : Custody) (c : ℕ) → is_customer c ≡ true → (view (opening k) c).account ≡ blank
opening_account k c e = cond-true (is_customer c) _ _ e ∙ get_or-replicate 64 (c - 1) blank unread (place_below (in_range 1 64 c e))

no_position : (z x y : ℤ) → x ≡ pos 0 → y ≡ pos 0 → x *ℤ z -ℤ y ≡ pos 0
no_position z x y e f = ap₂ (λ a b. a *ℤ z -ℤ b) e f ∙ ap (λ a. a -ℤ pos 0) (zero-*ℤ z)

total_none : total 8 (λ i. pos 0) ≡ pos 0
unfolding total
total_none = refl

from_nothing : (A : ℕ) (X : ℤ) → A ≡ 0 → X ≡ pos 0 → pos A -ℤ pos 0 +ℤ X ≡ pos 0 -ℤ pos 0 +ℤ pos 0
from_nothing A X e f = omega (arith, ints)

-- A blank record over custody without cash.
blank_books : (c : ℕ) (v : View) → v.account ≡ blank → v.held 1 ≡ 0 → v.market.marks ≡ replicate 8 (pos 0) → Books c [] v
blank_books c v a e p = record {
  eight_marks = ap length p;
  prices = λ i l. ap (λ xs. at xs i) p ∙ get_or-replicate 8 i (pos 0) (pos 0) l;
  when_live = λ l. record {
    nets = ap (λ r. length r.nets) a;
    costs = ap (λ r. length r.costs) a;
    kept = λ μ. ap (λ r. balance (record { account = r; held = v.held; below = v.below; broken = v.broken; market = v.market }) μ) a
        ∙ from_nothing (v.held 1 + 0) _ (omega (arith, e))
        (total_same 8 _ (λ i. pos 0) (λ i h. no_position (μ (suc i)) _ _ (get_or-replicate 8 i (pos 0) (pos 0) h) (get_or-replicate 8 i (pos 0) (pos 0) h)) ∙ total_none);
  };
}

pub conservation : (m : Method) (k : Custody) (h : List Event) (s : State) → Leads m k h s → Conserved k h s
conservation m k h s p c t e l =
    ap (λ x. pos (amount (view s c) 1) -ℤ pos (view s c).account.debt +ℤ x)
    (total_same 8 _ (positions (view s c) (mark_now h))
    (λ i less. ap (λ z. at (view s c).account.nets i *ℤ z -ℤ at (view s c).account.costs i) (b.prices i less)))
    ∙ (b.when_live l).kept (mark_now h)
  where
    no_cash_held : (view (opening k) c).held 1 ≡ 0
    no_cash_held = cond-true (is_customer c && true) _ _ (ap (λ x. x && true) t) ∙ e

    b : Books c h (view s c)
    b = follow m k c (Books c) (kept_by_grants (on_portfolios m) c (Books c) (books_kept (on_portfolios m) c)) (blank_books c (view (opening k) c) (opening_account k c t) no_cash_held refl) h s p
