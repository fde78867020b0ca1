-- Custody grants the movements of a granted entry, and they leave the units of the rule.
use Rattle.std.proofs.Common.{◌≡◌, ℕ, ◌+◌, ◌-◌, ◌^◌, ◌≤◌, min, true, false, cond, ◌&&◌, ◌||◌, eqb, leb, [], ◌∷◌, ℤ, pos, negsuc, is_ok, sym, refl, ap, ◌∙◌, subst, ap₂, ⊎_elim, arith}
use mathlib.Core.Option.{Option, some}
use Rattle.std.proofs.lemmas.Bool.{cases_Bool, cond-true, cond-false, eqb-true, leb-true, le-leb, and_parts, and_from, and_right, or_cases}
use Rattle.refusals.specs.Checks.{passed}
use Rattle.refusals.specs.Ranges.{ceiling, is_asset, is_customer, are_units, are_moved_units}
use Rattle.refusals.proofs.Ceilings.{ceiling_most}
use Rattle.refusals.proofs.Lists.{Hold, all_pass}
use Rattle.refusals.proofs.Names.{in_range, known, asset_of, each_asset}
use Rattle.custody.specs.Meaning.{Figures, Alike, taken, released, taking_in, releasing, with_figure}
use Rattle.custody.specs.Movements.{release}
use Rattle.reconciliation.specs.Breaks.{depth_over}
use Rattle.margin.specs.Meaning.{Method, on_portfolios}
use Rattle.rules.specs.declared.entries.Terms.{Terms}
use Rattle.rules.specs.declared.entries.Entry.{Entry}
use Rattle.rules.specs.declared.entries.Entry.TheVariants.{Deposit, Withdrawal, Payout, Trade, Mark, Quote, Settlement, Statement, Default, Closing, Transfer, Delivery, Return, Liquidation}
use Rattle.rules.specs.Views.{View, depth_of, put}
use Rattle.rules.specs.Figures.{carried_amount}
use Rattle.rules.specs.Rulings.{Rule, outcome}
use Rattle.rules.specs.Collateral.{deposit, withdrawal, payout, statement}
use Rattle.rules.specs.Trades.{trade}
use Rattle.rules.specs.Settlements.{settlement, liquidation, due, loss, cash_after, cash_movement}
use Rattle.rules.specs.Transfers.{transfer, delivery, return_of}
use Rattle.rules.specs.Markets.{mark, quote, default, closing}
use Rattle.rules.specs.Rules.{owner}
use Rattle.rules.specs.Histories.{State, view, row, put_row, put_back, ruling}
use Rattle.rules.specs.Laws.{WithinCeilings, Makes, depths_through, MovementsAgree}
use Rattle.laws.proofs.Following.{granted_holds, granted_customer}

-- ---- one figure replaced
other_asset : (f : Figures) (c a x b : ℕ) → eqb b a ≡ false → with_figure f c a x c b ≡ f c b
other_asset f c a x b e = cond-false (eqb c c && eqb b a) x (f c b) (and_right (eqb c c) (eqb b a) e)

-- ---- a customer, by the units f and the block depths d of a custody within its ceilings
record Shows (f d : Figures) (c : ℕ) (v : View) : Type 0 where
  pub range : is_customer c ≡ true
  pub held : (a : ℕ) → is_asset a ≡ true → v.held a ≡ f c a
  pub deep : (a : ℕ) → is_asset a ≡ true → depth_of v a ≡ d c a
  pub bound : (a : ℕ) → is_asset a ≡ true → f c a ≤ ceiling a

-- The movements of the rule make its units.
abbrev Made : Figures → Figures → ℕ → Rule → Type 0
Made f d c r = Makes f d r.movements (put_row c r.after.held f)

module _ (f d : Figures) (c : ℕ) (v : View) (shows : Shows f d c v) where
  held : (a : ℕ) → is_asset a ≡ true → v.held a ≡ f c a
  held = shows.held

  -- Nothing replaced is no change;
  unmoved : Alike f (put_row c v.held f)
  unmoved x b k =
      ⊎_elim
      (λ (e : eqb x c ≡ true). rw e (ap (λ y. f y b) (eqb-true x c e) ∙ sym (held b (asset_of x b k))))
      (λ (e : eqb x c ≡ false). rw e refl)
      (cases_Bool (eqb x c))

  -- one asset's units replaced in custody show as replaced in the view.
  one_moved : (a n m : ℕ) → n ≡ m → Alike (with_figure f c a n) (put_row c (put a m v.held) f)
  one_moved a n m same x b k =
      ⊎_elim
      (λ (e : eqb x c ≡ true). rw e (ap₂ (cond (eqb b a)) same (ap (λ y. f y b) (eqb-true x c e) ∙ sym (held b (asset_of x b k)))))
      (λ (e : eqb x c ≡ false). rw e refl)
      (cases_Bool (eqb x c))

  -- All four replaced.
  four_moved :
      (new : ℕ → ℕ) (n₁ n₂ n₃ n₄ : ℕ) → n₁ ≡ new 1 → n₂ ≡ new 2 → n₃ ≡ new 3 → n₄ ≡ new 4
      → Alike (with_figure (with_figure (with_figure (with_figure f c 1 n₁) c 2 n₂) c 3 n₃) c 4 n₄) (put_row c new f)
  four_moved new n₁ n₂ n₃ n₄ p₁ p₂ p₃ p₄ x b k =
      ⊎_elim
      (λ (e : eqb x c ≡ true).
      each_asset (λ y. with_figure (with_figure (with_figure (with_figure f c 1 n₁) c 2 n₂) c 3 n₃) c 4 n₄ x y ≡ put_row c new f x y)
      (rw e p₁) (rw e p₂) (rw e p₃) (rw e p₄) b (asset_of x b k))
      (λ (e : eqb x c ≡ false). rw e refl)
      (cases_Bool (eqb x c))

  -- ---- one call of custody
  taken_in_full : (a n : ℕ) → is_asset a ≡ true → are_units n ≡ true → leb (v.held a + n) (ceiling a) ≡ true → is_ok (taken f c a n) ≡ true
  taken_in_full a n asset units room =
      all_pass tt (taking_in (f c a) c a n) (shows.range, (asset, (units, (ap (λ h. leb (h + n) (ceiling a)) (sym (held a asset)) ∙ room, tt))))

  given_in_full : (a n : ℕ) → is_asset a ≡ true → eqb (depth_of v a) 0 ≡ true → leb n (v.held a) ≡ true → is_ok (released f d c a n) ≡ true
  given_in_full a n asset free enough =
      all_pass tt (releasing (f c a) (d c a) c a n) (
        shows.range,
        (
          asset,
          (
            le-leb n (10 ^ 17) (omega (arith, leb-true n (v.held a) enough, held a asset, shows.bound a asset, ceiling_most a)),
            (ap (λ h. eqb h 0) (sym (shows.deep a asset)) ∙ free, (ap (leb n) (sym (held a asset)) ∙ enough, tt)),
          ),
        ),
      )

  few_units : (n : ℕ) → are_moved_units n ≡ true → are_units n ≡ true
  few_units n e = le-leb n (10 ^ 17) (omega (arith, (in_range 1 (10 ^ 15) n e).1))

  -- ---- deposit, withdrawal, payout
  deposits : (m : Method) (a n : ℕ) → Hold (deposit m c a n v).checks → Made f d c (deposit m c a n v)
  unfolding deposit
  deposits m a n (asset, (units, (_, (_, (room, _))))) =
      (taken_in_full a n asset (few_units n units) room, one_moved a _ _ (ap (λ h. h + n) (sym (held a asset))))

  one_given :
      (a n : ℕ) → is_asset a ≡ true → eqb (depth_of v a) 0 ≡ true → leb n (v.held a) ≡ true
      → Makes f d (release c a n ∷ []) (put_row c (put a (v.held a - n) v.held) f)
  one_given a n asset free enough = (given_in_full a n asset free enough, one_moved a _ _ (ap (λ h. h - n) (sym (held a asset))))

  withdrawals : (m : Method) (a n : ℕ) → Hold (withdrawal m c a n v).checks → Made f d c (withdrawal m c a n v)
  unfolding withdrawal
  withdrawals m a n (asset, (_, (_, (_, (free, (enough, _)))))) = one_given a n asset free enough

  payouts : (m : Method) (a n : ℕ) → Hold (payout m c a n v).checks → Made f d c (payout m c a n v)
  unfolding payout
  payouts m a n (asset, (_, (_, (_, (free, (enough, _)))))) = one_given a n asset free enough

  -- ---- settlement and liquidation
  cash_in_full : (n : ℕ) → v.held 1 + n - min (v.held 1) 0 ≤ 10 ^ 17 → v.held 1 + n ≤ 10 ^ 17
  cash_in_full n l = omega arith

  settles :
      (z : ℤ) → leb (cash_after (v.held 1) z) (ceiling 1) ≡ true → (eqb (loss z) 0 || eqb (depth_of v 1) 0) ≡ true
      → Makes f d (cash_movement c (v.held 1) z ∷ []) (put_row c (put 1 (cash_after (v.held 1) z) v.held) f)
  settles (pos n) limit free =
      let room = cash_in_full n (leb-true _ _ limit) in (
        taken_in_full 1 n refl (le-leb n (10 ^ 17) (omega (arith, room))) (le-leb (v.held 1 + n) (10 ^ 17) room),
        one_moved 1 _ _ (let e = held 1 refl in omega (arith, e)),
      )
  settles (negsuc n) limit free = (
    given_in_full 1 (min (v.held 1) (1 + n)) refl
        (⊎_elim (λ (e : eqb (1 + n) 0 ≡ true). absurd (let z = eqb-true (1 + n) 0 e in omega (arith, z))) (λ e. e) (or_cases _ _ free))
        (le-leb _ _ (omega arith)),
    one_moved 1 _ _ (let e = held 1 refl in omega (arith, e)),
  )

  settlements : (m : Method) → Hold (settlement m c v).checks → Made f d c (settlement m c v)
  unfolding settlement
  settlements m (_, (limits, (free, _))) = settles (due v) (and_parts (leb (cash_after (v.held 1) (due v)) (ceiling 1)) _ limits).0 free

  liquidations : (m : Method) → Hold (liquidation m c v).checks → Made f d c (liquidation m c v)
  unfolding liquidation
  liquidations m (_, (_, (limits, (free, _)))) =
      settles (due v) (and_parts (leb (cash_after (v.held 1) (due v)) (ceiling 1)) _ limits).0
      (rw free (⊎_elim (λ (e : eqb (loss (due v)) 0 ≡ true). rw e refl) (λ (e : eqb (loss (due v)) 0 ≡ false). rw e refl) (cases_Bool (eqb (loss (due v)) 0))))

  -- ---- transfer and return: all four assets, by number
  module _ (n₁ n₂ n₃ : ℕ) where
    -- What the movements so far left of the next asset.
    second : with_figure f c 1 n₁ c 2 ≡ f c 2
    second = other_asset f c 1 n₁ 2 refl

    third : with_figure (with_figure f c 1 n₁) c 2 n₂ c 3 ≡ f c 3
    third = other_asset (with_figure f c 1 n₁) c 2 n₂ 3 refl ∙ other_asset f c 1 n₁ 3 refl

    fourth : with_figure (with_figure (with_figure f c 1 n₁) c 2 n₂) c 3 n₃ c 4 ≡ f c 4
    fourth = other_asset (with_figure (with_figure f c 1 n₁) c 2 n₂) c 3 n₃ 4 refl ∙ other_asset (with_figure f c 1 n₁) c 2 n₂ 4 refl ∙ other_asset f c 1 n₁ 4 refl

  emptied : (a x : ℕ) → is_asset a ≡ true → x ≡ f c a → x - v.held a ≡ 0
  emptied a x asset e = omega (arith, held a asset)

  transfers : (m : Method) → Hold (transfer m c v).checks → Made f d c (transfer m c v)
  unfolding transfer
  transfers m (_, (_, (free₁, (free₂, (free₃, (free₄, _)))))) = (
    all_given 1 _ refl refl free₁,
    (
      all_given 2 _ refl (second _ 0 0) free₂,
      (
        all_given 3 _ refl (third _ _ 0) free₃,
        (
          all_given 4 _ refl (fourth _ _ _) free₄,
          four_moved (λ _. 0) _ _ _ _ (emptied 1 _ refl refl) (emptied 2 _ refl (second _ 0 0)) (emptied 3 _ refl (third _ _ 0)) (emptied 4 _ refl (fourth _ _ _)),
        ),
      ),
    ),
  )
    where
      all_given : (a x : ℕ) → is_asset a ≡ true → x ≡ f c a → eqb (depth_of v a) 0 ≡ true → is_ok (passed (releasing x (d c a) c a (v.held a))) ≡ true
      all_given a x asset e free =
          subst (λ h. is_ok (passed (releasing h (d c a) c a (v.held a))) ≡ true) (sym e) (given_in_full a (v.held a) asset free (le-leb (v.held a) (v.held a) (omega arith)))

  returns_back : (m : Method) → Hold (return_of m c v).checks → Made f d c (return_of m c v)
  unfolding return_of
  returns_back m (_, (room₁, (room₂, (room₃, (room₄, _))))) = (
    all_taken 1 _ refl refl room₁,
    (
      all_taken 2 _ refl (second _ 0 0) room₂,
      (
        all_taken 3 _ refl (third _ _ 0) room₃,
        (
          all_taken 4 _ refl (fourth _ _ _) room₄,
          four_moved (λ a. v.held a + back a) _ _ _ _ (refilled 1 _ refl refl) (refilled 2 _ refl (second _ 0 0)) (refilled 3 _ refl (third _ _ 0)) (refilled 4 _ refl (fourth _ _ _)),
        ),
      ),
    ),
  )
    where
      back : ℕ → ℕ
      back a = carried_amount v.account a

      refilled : (a x : ℕ) → is_asset a ≡ true → x ≡ f c a → x + back a ≡ v.held a + back a
      refilled a x asset e = ap (λ h. h + back a) (e ∙ sym (held a asset))

      all_taken : (a x : ℕ) → is_asset a ≡ true → x ≡ f c a → leb (v.held a + back a) (ceiling a) ≡ true → is_ok (passed (taking_in x c a (back a))) ≡ true
      all_taken a x asset e room =
          subst (λ h. is_ok (passed (taking_in h c a (back a))) ≡ true) (sym e)
          (taken_in_full a (back a) asset (le-leb (back a) (10 ^ 17) (omega (arith, leb-true _ _ room, ceiling_most a))) room)

  -- ---- entries without movements
  trades : (m : Method) (t : Terms) → Made f d c (trade m c t v)
  unfolding trade
  trades m t = unmoved

  statements : (a n : ℕ) → Made f d c (statement c a n v)
  unfolding statement
  statements a n = unmoved

  deliveries : (m : Method) → Made f d c (delivery m c v)
  unfolding delivery
  deliveries m = unmoved

-- ---- every entry on a state
shown : {A : Type 0} (bare : A) (f : ℕ → ℕ → A) (c a : ℕ) → is_customer c ≡ true → is_asset a ≡ true → row bare f c a ≡ f c a
shown bare f c a p q = cond-true (is_customer c && is_asset a) (f c a) bare (and_from (is_customer c) (is_asset a) p q)

module _ (m : Method) (s : State) (within : WithinCeilings s.custody) where
  abbrev Claim : Option ℕ → Rule → Type 0
  Claim o r = Makes s.custody.units (depths_through s) r.movements (put_back o r.after s).custody.units

  view_shows : (c : ℕ) → is_customer c ≡ true → Shows s.custody.units (depths_through s) c (view s c)
  view_shows c e = record {
    range = e;
    held = λ a t. shown 0 s.custody.units c a e t;
    deep = λ a t. ap₂ depth_over (shown false s.broken c a e t) (shown 0 s.custody.depths c a e t);
    bound = λ a t. within c a (known c a e t);
  }

  own_claim :
      (c : ℕ) (r : View → Rule) → is_customer c ≡ true
      → ((f d : Figures) (v : View) → Shows f d c v → Hold (r v).checks → Made f d c (r v))
      → Hold (r (view s c)).checks → Claim (some c) (r (view s c))
  own_claim c r e g t = g s.custody.units (depths_through s) (view s c) (view_shows c e) t

  abbrev q : Method
  q = on_portfolios m

  claim : (e : Entry) → ((c : ℕ) → owner e ≡ some c → is_customer c ≡ true) → Hold (ruling m e s).checks → Claim (owner e) (ruling m e s)
  unfolding mark quote default closing
  claim (Deposit c a n) r t = own_claim c (deposit q c a n) (r c refl) (λ f d v p. deposits f d c v p q a n) t
  claim (Withdrawal c a n) r t = own_claim c (withdrawal q c a n) (r c refl) (λ f d v p. withdrawals f d c v p q a n) t
  claim (Payout c a n) r t = own_claim c (payout q c a n) (r c refl) (λ f d v p. payouts f d c v p q a n) t
  claim (Trade c terms) r t = own_claim c (trade q c terms) (r c refl) (λ f d v p _. trades f d c v p q terms) t
  claim (Mark k p) r t = λ _ _ _. refl
  claim (Quote a n) r t = λ _ _ _. refl
  claim (Settlement c) r t = own_claim c (settlement q c) (r c refl) (λ f d v p. settlements f d c v p q) t
  claim (Statement c a n) r t = own_claim c (statement c a n) (r c refl) (λ f d v p _. statements f d c v p a n) t
  claim Default r t = λ _ _ _. refl
  claim Closing r t = λ _ _ _. refl
  claim (Transfer c) r t = own_claim c (transfer q c) (r c refl) (λ f d v p. transfers f d c v p q) t
  claim (Delivery c) r t = own_claim c (delivery q c) (r c refl) (λ f d v p _. deliveries f d c v p q) t
  claim (Return c) r t = own_claim c (return_of q c) (r c refl) (λ f d v p. returns_back f d c v p q) t
  claim (Liquidation c) r t = own_claim c (liquidation q c) (r c refl) (λ f d v p. liquidations f d c v p q) t

pub movements_agree : MovementsAgree
movements_agree m e s within granted =
    subst (λ b. Makes s.custody.units (depths_through s) (ruling m e s).movements (cond b (put_back (owner e) (ruling m e s).after s) s).custody.units) (sym granted)
    (claim m s within e
    (λ c o. granted_customer c (ruling m e s) (subst (λ y. is_ok (outcome y (ruling m e s)) ≡ true) o granted))
    (granted_holds (owner e) (ruling m e s) granted))
