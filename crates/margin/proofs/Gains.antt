-- What one turn of the scenario's loop adds.
use Rattle.std.proofs.Common.{◌≡◌, ℕ, ◌+◌, ◌<◌, ◌≤◌, true, List, ℤ, ◌+ℤ◌, ◌*ℤ◌, nat_abs, add-one, ap₂, arith, w64, SFits}
use Rattle.std.proofs.lemmas.Int.{ints}
use Rattle.margin.specs.Sums.{at, total}
use Rattle.margin.specs.Meaning.{is_portfolio}
use Rattle.margin.proofs.Bounds.{net_most, gain_most, gains, gains_most}

-- A turn takes the next net and the next shock, and nothing leaves an i64.
pub record Gained (shocks nets : List ℤ) (n : ℕ) (so_far net shock : ℤ) : Type 0 where
  pub product_fits : SFits w64 (net *ℤ shock)
  pub sum_fits : SFits w64 (so_far +ℤ net *ℤ shock)
  pub is : so_far +ℤ net *ℤ shock ≡ gains shocks nets (n + 1)

pub gained : (shocks nets : List ℤ) → ((i : ℕ) → nat_abs (at shocks i) ≤ 1000) → is_portfolio nets ≡ true → (n : ℕ) (so_far net shock : ℤ) → n < 8 → so_far ≡ gains shocks nets n → net ≡ at nets n → shock ≡ at shocks n → Gained shocks nets n so_far net shock
unfolding total
gained shocks nets s p n so_far net shock l e f g =
    let now : so_far +ℤ net *ℤ shock ≡ gains shocks nets (n + 1) = rw add-one (ap₂ ◌+ℤ◌ e (ap₂ ◌*ℤ◌ f g)) in
    let most = gains_most shocks nets s p (n + 1) in
    let product = gain_most net shock (rw f (net_most nets p n)) (rw g (s n)) in
    record { product_fits = omega (arith, ints); sum_fits = omega (arith, ints); is = now }
