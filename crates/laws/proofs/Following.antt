-- What a history shows of one customer is a run on that customer's view alone, over the entries of that customer and of none.
use Rattle.std.proofs.Common.{◌≡◌, ℕ, ◌-◌, Bool, true, false, cond, List, [], ◌∷◌, length, is_ok, sym, refl, ap, ◌∙◌, subst, length-set}
use mathlib.Core.Option.{Option, some, none}
use Rattle.std.proofs.lemmas.Bool.{eqb-true, true≢false}
use Rattle.refusals.specs.Ranges.{is_customer, customer_check}
use Rattle.refusals.proofs.Lists.{Hold, all_hold}
use Rattle.margin.specs.Meaning.{Method, on_portfolios}
use Rattle.rules.specs.declared.records.Accounts.{Accounts}
use Rattle.rules.specs.declared.entries.Entry.{Entry}
use Rattle.rules.specs.Views.{Market, View, with_market}
use Rattle.rules.specs.Rulings.{Rule, Outcome, outcome}
use Rattle.rules.specs.Rules.{rule, owner}
use Rattle.rules.specs.Histories.{Custody, State, view, blank, subject, ruling, answer_to, put_back, Step, opening, Event, Leads}
use Rattle.rules.specs.Segregation.{concerns}
use Rattle.laws.proofs.Shown.{view_same, own, own_view, other_view}

-- ---- an entry on a view
-- A market without a customer.
abbrev pub bare : Market → View
bare k = record { account = blank; held = λ a. 0; below = λ a. 0; broken = λ a. false; market = k }

-- What an entry is ruled on: the whole view, or the market alone.
abbrev pub lens : Option ℕ → View → View
lens (some c) v = v
lens none v = bare v.market

abbrev pub ruled : Method → Entry → View → Rule
ruled q e v = rule q e (lens (owner e) v)

abbrev pub reply : Method → Entry → View → Outcome
reply q e v = outcome (owner e) (ruled q e v)

-- What a grant leaves of the view.
abbrev pub put_in : Option ℕ → View → View → View
put_in (some c) w v = own c w v
put_in none w v = with_market w.market v

abbrev pub onward : Method → Entry → View → View
onward q e v = cond (is_ok (reply q e v)) (put_in (owner e) (ruled q e v).after v) v

-- ---- a grant tells that its checks hold
pub granted_holds : (o : Option ℕ) (r : Rule) → is_ok (outcome o r) ≡ true → Hold r.checks
unfolding outcome
granted_holds (some c) r e = (all_hold r.answer (customer_check c ∷ r.checks) e).1
granted_holds none r e = all_hold r.answer r.checks e

pub granted_customer : (c : ℕ) (r : Rule) → is_ok (outcome (some c) r) ≡ true → is_customer c ≡ true
unfolding outcome
granted_customer c r e = (all_hold r.answer (customer_check c ∷ r.checks) e).0

-- ---- the entry acts on the view as on the state
module _ (c : ℕ) (s : State) where
  kept_ruling : (o : Option ℕ) (R : View → Rule) → concerns c o ≡ true → R (view s (subject o)) ≡ R (lens o (view s c))
  kept_ruling (some d) R h = ap (λ x. R (view s x)) (eqb-true d c h)
  kept_ruling none R h = refl

  -- one of c or of none,
  kept_view :
      (o : Option ℕ) (r : Rule) → concerns c o ≡ true → length s.accounts.records ≡ 64 → (b : Bool) → is_ok (outcome o r) ≡ b
      → view (cond b (put_back o r.after s) s) c ≡ cond b (put_in o r.after (view s c)) (view s c)
  kept_view (some d) r h l true e =
      subst (λ x. view (put_back (some d) r.after s) x ≡ own d r.after (view s x)) (eqb-true d c h) (own_view s d r.after (granted_customer d r e) l)
  kept_view (some d) r h l false e = refl
  kept_view none r h l true e = refl
  kept_view none r h l false e = refl

  -- and one of another leaves the view of c.
  left_view :
      (o : Option ℕ) (r : Rule) → concerns c o ≡ false → (b : Bool) → is_ok (outcome o r) ≡ b
      → view (cond b (put_back o r.after s) s) c ≡ view s c
  left_view (some d) r h true e = other_view s d c r.after (granted_customer d r e) h
  left_view (some d) r h false e = refl
  left_view none r h b e = absurd (true≢false h)

-- ---- the book keeps 64 records
records_kept : (o : Option ℕ) (w : View) (s : State) (b : Bool) → length (cond b (put_back o w s) s).accounts.records ≡ length s.accounts.records
records_kept (some c) w s true = length-set s.accounts.records (c - 1) w.account
records_kept (some c) w s false = refl
records_kept none w s true = refl
records_kept none w s false = refl

pub sixty_four : (m : Method) (k : Custody) (h : List Event) (s : State) → Leads m k h s → length s.accounts.records ≡ 64
sixty_four m k [] s p = ap (λ (b : Accounts). length b.records) p.accounts
sixty_four m k (x ∷ h) t p =
    ap (λ (b : Accounts). length b.records) p.2.moved.accounts
    ∙ records_kept (owner x.entry) (ruling m x.entry p.0).after p.0 (is_ok (answer_to m x.entry p.0))
    ∙ sixty_four m k h p.0 p.1

-- ---- what holds at the opening and is kept by every entry holds at the end of every history
-- Kept by an entry of another customer, and by one of c or of none.
pub record Kept (q : Method) (c : ℕ) (P : List Event → View → Type 0) : Type 0 where
  pub by_another : (x : Event) (h : List Event) (v : View) → concerns c (owner x.entry) ≡ false → P h v → P (x ∷ h) v
  pub by_own :
      (x : Event) (h : List Event) (v : View) → concerns c (owner x.entry) ≡ true → x.result ≡ reply q x.entry v → P h v
      → P (x ∷ h) (onward q x.entry v)

module _ (m : Method) (k : Custody) (c : ℕ) (P : List Event → View → Type 0) (kept : Kept (on_portfolios m) c P) where
  one_step :
      (x : Event) (h : List Event) (s t : State) (b : Bool) → concerns c (owner x.entry) ≡ b → length s.accounts.records ≡ 64
      → Step m x.entry s x.result t → P h (view s c) → P (x ∷ h) (view t c)
  one_step x h s t false n l st p =
      subst (P (x ∷ h))
      (sym (view_same t _ st.moved c ∙ left_view c s (owner x.entry) (ruling m x.entry s) n _ refl))
      (kept.by_another x h (view s c) n p)
  one_step x h s t true n l st p =
      subst (P (x ∷ h))
      (sym (view_same t _ st.moved c ∙ kept_view c s o (ruling m x.entry s) n l _ refl ∙ ap (λ r. cond (is_ok (outcome o r)) (put_in o r.after (view s c)) (view s c)) same))
      (kept.by_own x h (view s c) n (st.answered ∙ ap (outcome o) same) p)
    where
      o : Option ℕ
      o = owner x.entry

      same : ruling m x.entry s ≡ ruled (on_portfolios m) x.entry (view s c)
      same = kept_ruling c s o (rule (on_portfolios m) x.entry) n

  pub follow : P [] (view (opening k) c) → (h : List Event) (s : State) → Leads m k h s → P h (view s c)
  follow start [] s p = subst (P []) (sym (view_same s (opening k) p c)) start
  follow start (x ∷ h) t p =
      one_step x h p.0 t (concerns c (owner x.entry)) refl (sixty_four m k h p.0 p.1) p.2 (follow start h p.0 p.1)

-- Kept by what is refused, by what is granted to c, and by what is granted to none.
pub record KeptByGrants (q : Method) (c : ℕ) (P : List Event → View → Type 0) : Type 0 where
  pub by_another : (x : Event) (h : List Event) (v : View) → concerns c (owner x.entry) ≡ false → P h v → P (x ∷ h) v
  pub by_refusal : (x : Event) (h : List Event) (v : View) → is_ok x.result ≡ false → P h v → P (x ∷ h) v
  pub by_grant :
      (x : Event) (h : List Event) (v : View) → is_ok x.result ≡ true → owner x.entry ≡ some c → is_customer c ≡ true
      → Hold (rule q x.entry v).checks → P h v → P (x ∷ h) (own c (rule q x.entry v).after v)
  pub by_market :
      (x : Event) (h : List Event) (v : View) → is_ok x.result ≡ true → owner x.entry ≡ none
      → Hold (rule q x.entry (bare v.market)).checks → P h v
      → P (x ∷ h) (with_market (rule q x.entry (bare v.market)).after.market v)

module _ (q : Method) (c : ℕ) (P : List Event → View → Type 0) (kept : KeptByGrants q c P) (x : Event) (h : List Event) (v : View) (p : P h v) where
  by_outcome :
      (o : Option ℕ) (b : Bool) → owner x.entry ≡ o → concerns c o ≡ true → is_ok x.result ≡ b
      → is_ok (outcome o (rule q x.entry (lens o v))) ≡ b
      → P (x ∷ h) (cond b (put_in o (rule q x.entry (lens o v)).after v) v)
  by_outcome o false e n a r = kept.by_refusal x h v a p
  by_outcome (some d) true e n a r =
      let same = eqb-true d c n in
      let range = granted_customer d (rule q x.entry v) r in
      subst (λ y. P (x ∷ h) (own y (rule q x.entry v).after v)) (sym same)
      (kept.by_grant x h v a (e ∙ ap some same) (subst (λ y. is_customer y ≡ true) same range) (granted_holds (some d) (rule q x.entry v) r) p)
  by_outcome none true e n a r = kept.by_market x h v a e (granted_holds none (rule q x.entry (bare v.market)) r) p

pub kept_by_grants : (q : Method) (c : ℕ) (P : List Event → View → Type 0) → KeptByGrants q c P → Kept q c P
kept_by_grants q c P kept = record {
  by_another = kept.by_another;
  by_own = λ x h v n a p. by_outcome q c P kept x h v p (owner x.entry) (is_ok (reply q x.entry v)) refl n (ap is_ok a) refl;
}
