-- What holds of every commingled account holds at making, and after one share is replaced with its total.
use Rattle.std.proofs.Common.{◌≡◌, ℕ, ◌+◌, ◌-◌, ◌*◌, ◌^◌, ◌<◌, ◌≤◌, ◌≢◌, List, length, get_or, set, replicate, sum, refl, ap, ◌∙◌, ⊎_elim, arith}
use Rattle.std.specs.List.{AllByRecursion as All}
use Rattle.std.proofs.lemmas.List.{get_or-replicate, get_or-set_same, get_or-set_other, length-set}
use Rattle.std.proofs.lemmas.List.Sums.{sum_by-set, get_or-le-sum_by}
use Rattle.std.proofs.ByRecursion.{sum_by_le, All-from_get_or}
use Rattle.std.proofs.lemmas.Bool.{cases_eq}
use Rattle.refusals.specs.Ranges.{Known, ceiling}
use Rattle.refusals.proofs.Ceilings.{ceiling_most}
use Rattle.commingled.specs.Pools.{pooled, no_pool, pool_of, share, empty_pools, Four, Shared, Summed, Capped}
use Rattle.commingled.specs.declared.Pool.{Pool}
use Rattle.commingled.specs.declared.Commingled.{Commingled}
use Rattle.refusals.specs.declared.holding.Holding.{Holding}

abbrev pub Sound : List Pool → Type 0
Sound pools = record { four : Four pools; shared : Shared pools; summed : Summed pools; capped : Capped pools }

-- The pool of one asset with the share of one customer replaced by v, and its total by t.
abbrev pub replaced : List Pool → ℕ → ℕ → ℕ → ℕ → List Pool
replaced pools c a t v = set pools (a - 1) (pooled t (set (pool_of pools a).shares (c - 1) v))

-- What holds of the element replaced, and of the others, holds at each place.
at_set :
    {X : Type 0} (xs : List X) (i j : ℕ) (y d : X) → i < length xs → (P : X → Type 0)
    → (j ≡ i → P y) → (j ≢ i → P (get_or xs j d)) → P (get_or (set xs i y) j d)
at_set xs i j y d h P same other =
    ⊎_elim
    (λ e. let eq : get_or (set xs i y) j d ≡ y = ap (λ n. get_or (set xs i y) n d) e ∙ get_or-set_same xs i y d h in rw eq (same e))
    (λ (n : j ≢ i). rw (get_or-set_other xs i j y d n) (other n))
    (cases_eq j i)

module _ (s : Commingled) where
  -- The customer's share is part of the total,
  pub share_in_total : (holding : Holding) → share s.pools holding.customer holding.asset ≤ (pool_of s.pools holding.asset).total
  share_in_total holding =
      let k = holding.known in
      let xs : List ℕ = (pool_of s.pools holding.asset).shares in
      let lt : holding.customer - 1 < length xs = omega (arith, s.shared holding.asset k.2 k.3) in
      omega (arith, get_or-le-sum_by (λ x. x) xs (holding.customer - 1) 0 lt, s.summed holding.asset k.2 k.3)

  -- and 64 ceilings fit a total.
  pub total_most : (a : ℕ) → 1 ≤ a → a ≤ 4 → (pool_of s.pools a).total ≤ 64 * 10 ^ 17
  total_most a lo hi =
      let xs : List ℕ = (pool_of s.pools a).shares in
      let n : length xs ≡ 64 = s.shared a lo hi in
      let each : All (λ x. x ≤ 10 ^ 17) xs =
      All-from_get_or (λ x. x ≤ 10 ^ 17) xs 0
      (λ j l. let k : Known (j + 1) a = omega arith in let e : j + 1 - 1 ≡ j = omega arith in omega (arith, ceiling_most a, rw e at (s.capped (j + 1) a k)))
      in
      let most : sum xs ≤ 64 * 10 ^ 17 = rw n at (sum_by_le (λ x. x) (10 ^ 17) xs each) in
      omega (arith, s.summed a lo hi)

  -- With one share replaced by v, and its total by t, so that the total moves as the share does.
  pub replaced_sound :
      (holding : Holding) (t v : ℕ) → v ≤ ceiling holding.asset → t + share s.pools holding.customer holding.asset ≡ (pool_of s.pools holding.asset).total + v
      → Sound (replaced s.pools holding.customer holding.asset t v)
  replaced_sound holding t v room even =
      let k = holding.known in
      let i = holding.asset - 1 in
      let j = holding.customer - 1 in
      let xs : List ℕ = (pool_of s.pools holding.asset).shares in
      let n : length xs ≡ 64 = s.shared holding.asset k.2 k.3 in
      let four : length s.pools ≡ 4 = s.four in
      let la : i < length s.pools = omega arith in
      let lc : j < length xs = omega arith in
      let p : Pool = pooled t (set xs j v) in
      let moved : sum (set xs j v) + get_or xs j 0 ≡ sum xs + v = sum_by-set (λ x. x) xs j v 0 lc in
      let total : t ≡ sum (set xs j v) = omega (arith, s.summed holding.asset k.2 k.3) in
      record {
        four = simp length-set four;
        shared = λ b lo hi. at_set s.pools i (b - 1) p no_pool la (λ q. length q.shares ≡ 64) (λ _. simp length-set n) (λ _. s.shared b lo hi);
        summed = λ b lo hi. at_set s.pools i (b - 1) p no_pool la (λ q. q.total ≡ sum q.shares) (λ _. total) (λ _. s.summed b lo hi);
        capped =
            λ x y m.
            at_set s.pools i (y - 1) p no_pool la (λ q. get_or q.shares (x - 1) 0 ≤ ceiling y)
            (λ e.
            let same : y ≡ holding.asset = omega arith in
            rw same (at_set xs j (x - 1) v 0 lc (λ z. z ≤ ceiling holding.asset) (λ _. room) (λ _. s.capped x holding.asset (omega arith))))
            (λ _. s.capped x y m);
      }

-- ---- at making
each_of : {X : Type 0} (n i : ℕ) (x d : X) (P : X → Type 0) → i < n → P x → P (get_or (replicate n x) i d)
each_of n i x d P h p = rw get_or-replicate p

empty_share : (c a : ℕ) → Known c a → share empty_pools c a ≡ 0
empty_share c a k =
    let la : a - 1 < 4 = omega arith in
    let lc : c - 1 < 64 = omega arith in
    each_of 4 (a - 1) (pooled 0 (replicate 64 0)) no_pool (λ q. get_or q.shares (c - 1) 0 ≡ 0) la
    (each_of 64 (c - 1) 0 0 (λ n. n ≡ 0) lc refl)

pub empty_sound : Sound empty_pools
empty_sound = record {
  four = refl;
  shared = λ a lo hi. each_of 4 (a - 1) (pooled 0 (replicate 64 0)) no_pool (λ q. length q.shares ≡ 64) (omega arith) refl;
  summed = λ a lo hi. each_of 4 (a - 1) (pooled 0 (replicate 64 0)) no_pool (λ q. q.total ≡ sum q.shares) (omega arith) refl;
  capped = λ c a k. omega (arith, empty_share c a k);
}
