-- The text of a day depends on the figures of the 64 customers and four assets alone.
use Rattle.std.proofs.Common.{◌≡◌, ℕ, ◌+◌, ◌-◌, ◌<◌, ◌≤◌, Bool, true, false, cond, not, eqb, List, [], ◌∷◌, ◌++◌, length, get_or, take, drop, set, is_ok, Result, sym, refl, ap, ◌∙◌, ⊎_elim, append_assoc, append-nil, arith}
use Rattle.std.proofs.lemmas.Bool.{cases_Bool}
use Rattle.std.proofs.lemmas.Bool.Decides.{nat_tests}
use Rattle.std.proofs.lemmas.List.{drop_more, drop_all, take_more, take_all}
use Rattle.refusals.specs.declared.Fault.{Fault}
use Rattle.refusals.specs.Checks.{granted_as}
use Rattle.refusals.specs.Ranges.{Known, spot}
use Rattle.custody.specs.Meaning.{Figures, Alike, taken, released, raised, lowered}
use Rattle.custody.proofs.Same.{named_same, taken_same, answered_same, released_same, replaced_same, after_same}
use Rattle.reconciliation.specs.Breaks.{marked, depth_over, depths_over, stating, marks_after}
use Rattle.custody_day.specs.declared.steps.Step.{Step}
use Rattle.custody_day.specs.declared.steps.Step.TheVariants.{TakeIn, Release, Statement, Question}
use Rattle.custody_day.specs.declared.steps.Answer.{Answer}
use Rattle.custody_day.specs.declared.steps.Answer.TheVariants.{Done, Difference, Holding}
use Rattle.custody.specs.declared.Custody.{Ghosts as Custodian}
use Rattle.reconciliation.specs.declared.Reconciliation.{Reconciliation}
use Rattle.custody_day.specs.Steps.{performed, held_after, breaks_after, held_in, depths_in, Stepped}
use Rattle.custody_day.specs.Days.{line_of, told, told_of, Went}

over_same : (d e : Figures) → Alike d e → (breaks : List Bool) → Alike (depths_over breaks d) (depths_over breaks e)
over_same d e deep breaks c a k = ap (depth_over (marked breaks c a)) (deep c a k)

stated_of : (f : Figures) (c a n : ℕ) → is_ok (stating f c a n) ≡ true → Known c a
stated_of f c a n ok = grind (arith, nat_tests)

module _ (f g d e : Figures) (alike : Alike f g) (deep : Alike d e) where
  stating_same : (c a n : ℕ) → stating f c a n ≡ stating g c a n
  stating_same c a n = named_same c a _ _ _ _ (λ k. rw (alike c a k) refl)

  performed_same : (s : Step) → performed f d s ≡ performed g e s
  performed_same (TakeIn c a n) = ap (granted_as (λ _. Done)) (taken_same f g alike c a n)
  performed_same (Release c a n) = ap (granted_as (λ _. Done)) (released_same f g d e alike deep c a n)
  performed_same (Statement c a n) = ap (granted_as Difference) (stating_same c a n)
  performed_same (Question c a) = ap (granted_as (λ p. Holding p.0 p.1)) (answered_same f g d e alike deep c a 0)

  held_same : (s : Step) → Alike (held_after f d s) (held_after g e s)
  held_same (TakeIn c a n) =
      after_same (taken f c a n) (taken g c a n) (raised f c a n) (raised g c a n) f g (taken_same f g alike c a n)
      (replaced_same f g alike c a (f c a + n) (g c a + n) (λ k. ap (λ h. h + n) (alike c a k))) alike
  held_same (Release c a n) =
      after_same (released f d c a n) (released g e c a n) (lowered f c a n) (lowered g c a n) f g (released_same f g d e alike deep c a n)
      (replaced_same f g alike c a (f c a - n) (g c a - n) (λ k. ap (λ h. h - n) (alike c a k))) alike
  held_same (Statement c a n) = alike
  held_same (Question c a) = alike

  marks_same : (breaks : List Bool) (c a n : ℕ) → marks_after f breaks c a n ≡ marks_after g breaks c a n
  marks_same breaks c a n =
      let same = stating_same c a n in
      ⊎_elim
      (λ (t : is_ok (stating f c a n) ≡ true).
      ap (λ r. cond (is_ok r) (set breaks (spot c a) (not (eqb n (f c a)))) breaks) same
      ∙ ap (λ h. cond (is_ok (stating g c a n)) (set breaks (spot c a) (not (eqb n h))) breaks) (alike c a (stated_of f c a n t)))
      (λ (t : is_ok (stating f c a n) ≡ false). let u : is_ok (stating g c a n) ≡ false = ap is_ok (sym same) ∙ t in rw (t, u) refl)
      (cases_Bool (is_ok (stating f c a n)))

  breaks_same : (breaks : List Bool) (s : Step) → breaks_after f breaks s ≡ breaks_after g breaks s
  breaks_same breaks (TakeIn c a n) = refl
  breaks_same breaks (Release c a n) = refl
  breaks_same breaks (Statement c a n) = marks_same breaks c a n
  breaks_same breaks (Question c a) = refl

pub told_same :
    (steps : List Step) (f g d e : Figures) → Alike f g → Alike d e → (breaks : List Bool) (n : ℕ) → told f d breaks n steps ≡ told g e breaks n steps
unfolding told
told_same [] f g d e alike deep breaks n = refl
told_same (s ∷ ss) f g d e alike deep breaks n =
    let over = over_same d e deep breaks in
    ap (λ r. line_of n s r ++ told (held_after f (depths_over breaks d) s) d (breaks_after f breaks s) (n + 1) ss)
    (performed_same f g (depths_over breaks d) (depths_over breaks e) alike over s)
    ∙ ap (λ l. line_of n s (performed g (depths_over breaks e) s) ++ l)
    (told_same ss (held_after f (depths_over breaks d) s) (held_after g (depths_over breaks e) s) d e
    (held_same f g (depths_over breaks d) (depths_over breaks e) alike over s) deep (breaks_after f breaks s) (n + 1)
    ∙ ap (λ b. told (held_after g (depths_over breaks e) s) e b (n + 1) ss) (breaks_same f g d e alike deep breaks s))

-- ---- one step more
-- The text after its line, and what is still to be told, are what was to be told before.
one_more :
    {C : Type 0} (g : Custodian C) (before after : List ℕ) (k t : Reconciliation C) (n : ℕ) (s : Step) (r : Result Answer Fault) (rest : List Step)
    → Stepped g k s r t → after ≡ before ++ line_of n s r → after ++ told_of g t (n + 1) rest ≡ before ++ told_of g k n (s ∷ rest)
unfolding told
one_more g before after k t n s r rest step written =
    let line = line_of n s (performed (held_in g k) (depths_in g k) s) in
    ap (λ l. l ++ told_of g t (n + 1) rest) (written ∙ ap (λ q. before ++ line_of n s q) step.result)
    ∙ append_assoc before line (told_of g t (n + 1) rest)
    ∙ ap (λ l. before ++ (line ++ l))
    (told_same rest (held_in g t) (held_after (held_in g k) (depths_in g k) s) (g.depth t.below) (g.depth k.below) step.figures step.depths t.breaks (n + 1)
    ∙ ap (λ b. told (held_after (held_in g k) (depths_in g k) s) (g.depth k.below) b (n + 1) rest) step.marks)

went_more :
    {C : Type 0} (g : Custodian C) (ss : List Step) (k j t : Reconciliation C) (s : Step) (r : Result Answer Fault)
    → Went g k ss j → Stepped g j s r t → Went g k (ss ++ s ∷ []) t
went_more g [] k j t s r same step = (r, t, rw (sym same) step, refl)
went_more g (x ∷ xs) k j t s r went step = (went.0, went.1, went.2, went_more g xs went.1 j t s r went.3 step)

-- ---- after i steps of a day: what is written, and then what is still to be told; and how custody came there
abbrev pub SoFar : {C : Type 0} → Custodian C → Reconciliation C → List Step → List ℕ → Reconciliation C → ℕ → Type 0
SoFar g start steps text k i =
    (text ++ told_of g k (i + 1) (drop i steps) ≡ told_of g start 1 steps) × Went g start (take i steps) k

module _ {C : Type 0} (g : Custodian C) (start : Reconciliation C) (steps : List Step) where
  pub begins : (text : List ℕ) → text ≡ [] → SoFar g start steps text start 0
  begins text none = (ap (λ l. l ++ told_of g start 1 steps) none, refl)

  module _ (before : List ℕ) (k t : Reconciliation C) (i : ℕ) (d : Step) (r : Result Answer Fault) (more : i < length steps) (step : Stepped g k (get_or steps i d) r t) (far : SoFar g start steps before k i) where
    pub performs : Went g start (take (i + 1) steps) t
    performs = rw (take_more steps i d more) (went_more g (take i steps) start k t (get_or steps i d) r far.1 step)

    -- The line has the step's own number.
    pub goes_on : (after : List ℕ) (n : ℕ) → after ≡ before ++ line_of n (get_or steps i d) r → n ≡ i + 1 → SoFar g start steps after t (i + 1)
    goes_on after n written own = (
      one_more g before after k t (i + 1) (get_or steps i d) r (drop (i + 1) steps) step (rw own at written)
          ∙ ap (λ ss. before ++ told_of g k (i + 1) ss) (sym (drop_more steps i d more)) ∙ far.0,
      performs,
    )

  pub ends : (text : List ℕ) (k : Reconciliation C) (i : ℕ) → length steps ≤ i → SoFar g start steps text k i → (text ≡ told_of g start 1 steps) × Went g start steps k
  unfolding told
  ends text k i over far = (
    sym (append-nil text) ∙ ap (λ ss. text ++ told_of g k (i + 1) ss) (sym (drop_all i steps over)) ∙ far.0,
    rw (take_all i steps over) at far.1,
  )
