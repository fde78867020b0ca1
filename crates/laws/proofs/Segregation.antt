-- Two histories with the same rest show a customer the same.
use Rattle.std.proofs.Common.{◌≡◌, ℕ, List, [], ◌∷◌, sym, refl, ap, ◌∙◌, subst, ap₂}
use mathlib.Core.Path.{fun_ext}
use Rattle.margin.specs.Meaning.{Method, is_portfolio, on_portfolios}
use Rattle.rules.specs.declared.entries.Entry.{Entry}
use Rattle.rules.specs.Views.{View}
use Rattle.rules.specs.Figures.{protected_value, margin_call}
use Rattle.rules.specs.Rulings.{Outcome}
use Rattle.rules.specs.Histories.{Custody, State, Event, Leads, view, opening}
use Rattle.rules.specs.Segregation.{Segregated, BeganAlike, RequireAlike, keep, rest, entries, answers}
use Rattle.refusals.proofs.Names.{asset_of}
use Rattle.laws.proofs.Shown.{cond_same, view_path, row_same}
use Rattle.laws.proofs.Following.{reply, onward, Kept, follow}

-- ---- the run on a view, newest entry first
abbrev final : Method → View → List Entry → View
final q v [] = v
final q v (e ∷ es) = onward q e (final q v es)

abbrev replies : Method → View → List Entry → List Outcome
replies q v [] = []
replies q v (e ∷ es) = reply q e (final q v es) ∷ replies q v es

-- The view, and the answers to the rest, are those of the run over the entries of the rest.
record Seen (q : Method) (start : View) (kept : List Event) (v : View) : Type 0 where
  pub figures : v ≡ final q start (entries kept)
  pub said : answers kept ≡ replies q start (entries kept)

seen_kept : (q : Method) (c : ℕ) (start : View) → Kept q c (λ h v. Seen q start (rest c h) v)
seen_kept q c start = record {
  by_another = λ x h v n p. subst (λ b. Seen q start (keep b x (rest c h)) v) (sym n) p;
  by_own = λ x h v n a p. subst (λ b. Seen q start (keep b x (rest c h)) (onward q x.entry v)) (sym n) (record {
    figures = ap (onward q x.entry) p.figures;
    said = ap₂ ◌∷◌ (a ∙ ap (reply q x.entry) p.figures) p.said;
  });
}

seen : (m : Method) (k : Custody) (c : ℕ) (h : List Event) (s : State) → Leads m k h s → Seen (on_portfolios m) (view (opening k) c) (rest c h) (view s c)
seen m k c h s p =
    follow m k c (λ h' v. Seen (on_portfolios m) (view (opening k) c) (rest c h') v) (seen_kept (on_portfolios m) c (view (opening k) c))
    (record { figures = refl; said = refl }) h s p

-- ---- both runs begin alike, by the same method
same_method : (m m' : Method) → RequireAlike m m' → on_portfolios m ≡ on_portfolios m'
unfolding on_portfolios
same_method m m' h = fun_ext (λ nets. cond_same (is_portfolio nets) (m nets) (m' nets) 0 (h nets))

same_start : (k k' : Custody) (c : ℕ) → BeganAlike c k k' → view (opening k) c ≡ view (opening k') c
same_start k k' c e =
    view_path (view (opening k) c) (view (opening k') c) refl
    (row_same 0 k.units k'.units c (λ a t. e.units a (asset_of c a t)))
    (row_same 0 k.depths k'.depths c (λ a t. e.depths a (asset_of c a t)))
    refl refl

pub segregation : (m : Method) (k : Custody) (h : List Event) (s : State) → Leads m k h s → Segregated m k h s
segregation m k h s p c m' k' h' s' p' same_entries began require = (
  left.said ∙ (λ i. replies (methods i) (starts i) (same_entries i)) ∙ sym right.said,
  record {
    value = ap protected_value views;
    call = λ i. margin_call (methods i) (views i);
    debt = ap (λ v. v.account.debt) views;
    nets = ap (λ v. v.account.nets) views;
    costs = ap (λ v. v.account.costs) views;
    carried = ap (λ v. v.account.carried) views;
    whole = views;
  },
)
  where
    left : Seen (on_portfolios m) (view (opening k) c) (rest c h) (view s c)
    left = seen m k c h s p

    right : Seen (on_portfolios m') (view (opening k') c) (rest c h') (view s' c)
    right = seen m' k' c h' s' p'

    methods : on_portfolios m ≡ on_portfolios m'
    methods = same_method m m' require

    starts : view (opening k) c ≡ view (opening k') c
    starts = same_start k k' c began

    views : view s c ≡ view s' c
    views = left.figures ∙ (λ i. final (methods i) (starts i) (same_entries i)) ∙ sym right.figures
