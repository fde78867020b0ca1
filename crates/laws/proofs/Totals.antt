-- Sums over the contracts.
use Rattle.std.proofs.Common.{◌≡◌, ℕ, zero, suc, ◌*◌, ◌<◌, ◌≢◌, ℤ, ◌+ℤ◌, ◌-ℤ◌, ◌*ℤ◌, sym, refl, ap, ◌∙◌, ap₂, ⊎_elim, arith}
use lib.IntN.{ -ℤ-+ℤ_cancel}
use borrow.Author.Differences.{up, down, sum_is_lem}
use Rattle.std.proofs.lemmas.Int.{ints}
use Rattle.std.proofs.lemmas.Bool.{cases_eq}
use Rattle.margin.specs.Sums.{total, at, eight}

-- a product over a sum: the sum's parts, times the parts of the factor, are what `omega` lacks
distributes : (a n u : ℤ) → (a +ℤ n) *ℤ u ≡ a *ℤ u +ℤ n *ℤ u
distributes a n u = omega (arith, ints, ap (λ x. x * up u) (sum_is_lem a n), ap (λ x. x * down u) (sum_is_lem a n))

over_sum : (n a b : ℤ) → n *ℤ (a +ℤ b) ≡ n *ℤ a +ℤ n *ℤ b
over_sum n a b = omega (arith, ints, ap (λ x. up n * x) (sum_is_lem a b), ap (λ x. down n * x) (sum_is_lem a b))

difference : (x y z : ℤ) → x ≡ z +ℤ y → z ≡ x -ℤ y
difference x y z e = omega (arith, ints)

subtracts : (n u p : ℤ) → n *ℤ (u -ℤ p) ≡ n *ℤ u -ℤ n *ℤ p
subtracts n u p =
    difference (n *ℤ u) (n *ℤ p) (n *ℤ (u -ℤ p)) (ap (λ x. n *ℤ x) (sym (-ℤ-+ℤ_cancel u p)) ∙ over_sum n (u -ℤ p) p)

regroup : (au nu np b s r : ℤ) → s ≡ au +ℤ nu → r ≡ nu -ℤ np → s -ℤ (b +ℤ np) ≡ (au -ℤ b) +ℤ r
regroup au nu np b s r d e = omega (arith, ints)

pub one_trade : (a b n p u : ℤ) → (a +ℤ n) *ℤ u -ℤ (b +ℤ n *ℤ p) ≡ (a *ℤ u -ℤ b) +ℤ n *ℤ (u -ℤ p)
one_trade a b n p u = regroup (a *ℤ u) (n *ℤ u) (n *ℤ p) b ((a +ℤ n) *ℤ u) (n *ℤ (u -ℤ p)) (distributes a n u) (subtracts n u p)

pub total_same : (n : ℕ) (f g : ℕ → ℤ) → ((i : ℕ) → i < n → f i ≡ g i) → total n f ≡ total n g
unfolding total
total_same zero f g h = refl
total_same (suc n) f g h = ap₂ ◌+ℤ◌ (total_same n f g (λ i l. h i (omega arith))) (h n (omega arith))

pub total_less : (n : ℕ) (f g : ℕ → ℤ) → total n (λ i. f i -ℤ g i) ≡ total n f -ℤ total n g
unfolding total
total_less zero f g = refl
total_less (suc n) f g = let e : total n (λ i. f i -ℤ g i) ≡ total n f -ℤ total n g = total_less n f g in omega (arith, ints)

pub total_change : (n j : ℕ) (f g : ℕ → ℤ) (x : ℤ) → j < n → g j ≡ f j +ℤ x → ((i : ℕ) → i ≢ j → g i ≡ f i) → total n g ≡ total n f +ℤ x
unfolding total
total_change zero j f g x l e h = absurd (omega arith)
total_change (suc n) j f g x l e h =
    ⊎_elim
    (λ q. let r : total n g ≡ total n f = total_same n g f (λ i i<n. h i (omega arith)) in
    let t : g n ≡ f n +ℤ x = ap g (sym q) ∙ e ∙ ap (λ i. f i +ℤ x) q in
    omega (arith, ints))
    (λ q. let r : total n g ≡ total n f +ℤ x = total_change n j f g x (omega arith) e h in
    let t : g n ≡ f n = h n (omega arith) in
    omega (arith, ints))
    (cases_eq j n)

pub total_eight : (f : ℕ → ℤ) → total 8 (at (eight f)) ≡ total 8 f
unfolding total
total_eight f = refl
