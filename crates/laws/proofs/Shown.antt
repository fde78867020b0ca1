-- What a state shows of a customer, and what of it an entry changes.
use Rattle.std.proofs.Common.{◌≡◌, ℕ, ◌-◌, ◌<◌, ◌≤◌, Bool, true, false, cond, ◌&&◌, eqb, ◌≢◌, length, sym, refl, ap, ◌∙◌, arith, get_or-set_other, get_or-set_same}
use mathlib.Core.Path.{fun_ext}
use mathlib.Core.Option.{some}
use Rattle.std.proofs.lemmas.Bool.{eqb-false, eq-eqb, ne_eqb, cond-true, cond-false, and_parts}
use Rattle.refusals.specs.Ranges.{Known, is_asset, is_customer}
use Rattle.refusals.proofs.Names.{known, in_range}
use Rattle.rules.specs.Views.{View}
use Rattle.rules.specs.Histories.{State, view, row, account_of, market_of, unread, put_row, put_back, Same}

-- ---- states that show the same figures
pub cond_same : {A : Type 0} (b : Bool) (x y z : A) → (b ≡ true → x ≡ y) → cond b x z ≡ cond b y z
cond_same true x y z h = h refl
cond_same false x y z h = refl

pub view_path :
    (v w : View) → v.account ≡ w.account → v.held ≡ w.held → v.below ≡ w.below → v.broken ≡ w.broken → v.market ≡ w.market → v ≡ w
view_path v w p q r s t i = record { account = p i; held = q i; below = r i; broken = s i; market = t i }

-- Figures that agree for a customer where there is such a customer and asset are shown alike.
pub row_same :
    {A : Type 0} (bare : A) (f g : ℕ → ℕ → A) (c : ℕ) → ((a : ℕ) → Known c a → f c a ≡ g c a) → row bare f c ≡ row bare g c
row_same bare f g c h =
    fun_ext
    (λ a. cond_same (is_customer c && is_asset a) (f c a) (g c a) bare
    (λ t. let p = and_parts (is_customer c) (is_asset a) t in h a (known c a p.0 p.1)))

pub view_same : (s t : State) → Same s t → (c : ℕ) → view s c ≡ view t c
view_same s t e c =
    view_path (view s c) (view t c)
    (ap (λ b. account_of b c) e.accounts)
    (row_same 0 s.custody.units t.custody.units c (e.units c))
    (row_same 0 s.custody.depths t.custody.depths c (e.depths c))
    (row_same false s.broken t.broken c (e.broken c))
    (ap market_of e.accounts)

-- ---- what is put back for a customer
-- The figures of w in the place of those of v, as a state shows them of the customer c.
abbrev pub own : ℕ → View → View → View
own c w v = record {
  account = w.account;
  held = λ a. cond (is_customer c && is_asset a) (w.held a) 0;
  below = v.below;
  broken = λ a. cond (is_customer c && is_asset a) (w.broken a) false;
  market = v.market;
}

-- The customer's own figures, put back, are shown;
row_own : {A : Type 0} (bare : A) (new : ℕ → A) (f : ℕ → ℕ → A) (c : ℕ) → row bare (put_row c new f) c ≡ (λ a. cond (is_customer c && is_asset a) (new a) bare)
row_own bare new f c =
    fun_ext (λ a. cond_same (is_customer c && is_asset a) (put_row c new f c a) (new a) bare (λ _. cond-true (eqb c c) (new a) (f c a) (eq-eqb c c refl)))

-- those of another do not show.
row_other : {A : Type 0} (bare : A) (new : ℕ → A) (f : ℕ → ℕ → A) (d c : ℕ) → eqb d c ≡ false → row bare (put_row d new f) c ≡ row bare f c
row_other bare new f d c n =
    row_same bare (put_row d new f) f c
    (λ a _. cond-false (eqb c d) (new a) (f c a) (ne_eqb c d (λ p. eqb-false d c n (sym p))))

inside : {c : ℕ} (n : ℕ) → (1 ≤ c) × (c ≤ 64) → n ≡ 64 → c - 1 < n
inside n r l = omega arith

apart : {d c : ℕ} → (1 ≤ d) × (d ≤ 64) → (1 ≤ c) × (c ≤ 64) → (d ≡ c → ⊥) → c - 1 ≢ d - 1
apart q r n = omega arith

pub own_view :
    (s : State) (c : ℕ) (w : View) → is_customer c ≡ true → length s.accounts.records ≡ 64
    → view (put_back (some c) w s) c ≡ own c w (view s c)
own_view s c w e l =
    view_path (view (put_back (some c) w s) c) (own c w (view s c))
    (cond-true (is_customer c) _ _ e ∙ get_or-set_same s.accounts.records (c - 1) w.account unread (inside _ (in_range 1 64 c e) l))
    (row_own 0 w.held s.custody.units c)
    refl
    (row_own false w.broken s.broken c)
    refl

pub other_view :
    (s : State) (d c : ℕ) (w : View) → is_customer d ≡ true → eqb d c ≡ false → view (put_back (some d) w s) c ≡ view s c
other_view s d c w e n =
    view_path (view (put_back (some d) w s) c) (view s c)
    (cond_same (is_customer c) _ _ _
    (λ t. get_or-set_other s.accounts.records (d - 1) (c - 1) w.account unread (apart (in_range 1 64 d e) (in_range 1 64 c t) (eqb-false d c n))))
    (row_other 0 w.held s.custody.units d c n)
    refl
    (row_other false w.broken s.broken d c n)
    refl
