-- Pools: for each asset one total, and a share for each customer.
use Rattle.std.specs.Prelude.{◌≡◌, ℕ, ◌+◌, ◌-◌, ◌≤◌, List, [], ◌∷◌, length, replicate, sum, Result, slice_index, slice_index_or, slice_set}
use Rattle.refusals.specs.declared.Fault.{Fault}
use Rattle.refusals.specs.Checks.{passed_with}
use Rattle.refusals.specs.Ranges.{Known, ceiling, asset_check}
use Rattle.commingled.specs.declared.Pool.{Pool}

abbrev pub pooled : ℕ → List ℕ → Pool
pooled total shares = record { total = total; shares = shares }

-- What a read of an asset that there is not gives.
abbrev pub no_pool : Pool
no_pool = pooled 0 []

-- The pool of an asset, and a customer's share in it.
abbrev pub pool_of : List Pool → ℕ → Pool
pool_of pools a = slice_index_or pools (a - 1) no_pool

abbrev pub share_in : Pool → ℕ → ℕ
share_in pool c = slice_index pool.shares (c - 1)

abbrev pub share : List Pool → ℕ → ℕ → ℕ
share pools c a = share_in (pool_of pools a) c

-- At making every total and every share is 0.
abbrev pub empty_pools : List Pool
empty_pools = replicate 4 (pooled 0 (replicate 64 0))

-- Units taken in go to the customer's share and to the total, units released leave both.
abbrev pub raised_pool : Pool → ℕ → ℕ → Pool
raised_pool pool c n = pooled (pool.total + n) (slice_set pool.shares (c - 1) (share_in pool c + n))

abbrev pub lowered_pool : Pool → ℕ → ℕ → Pool
lowered_pool pool c n = pooled (pool.total - n) (slice_set pool.shares (c - 1) (share_in pool c - n))

-- The pools after a granted taking in, and after a granted release.
abbrev pub raised_pools : List Pool → ℕ → ℕ → ℕ → List Pool
raised_pools pools c a n = slice_set pools (a - 1) (raised_pool (pool_of pools a) c n)

abbrev pub lowered_pools : List Pool → ℕ → ℕ → ℕ → List Pool
lowered_pools pools c a n = slice_set pools (a - 1) (lowered_pool (pool_of pools a) c n)

-- The total of an asset is the sum of the 64 shares.
abbrev pub totalled : List Pool → ℕ → Result ℕ Fault
totalled pools a = passed_with (sum (pool_of pools a).shares) (asset_check 0 a ∷ [])

-- ---- what holds of every commingled account
-- There are four pools of 64 shares.
abbrev pub Four : List Pool → Type 0
Four pools = length pools ≡ 4

abbrev pub Shared : List Pool → Type 0
Shared pools = (a : ℕ) → 1 ≤ a → a ≤ 4 → length (pool_of pools a).shares ≡ 64

-- Each total is the sum of the shares.
abbrev pub Summed : List Pool → Type 0
Summed pools = (a : ℕ) → 1 ≤ a → a ≤ 4 → (pool_of pools a).total ≡ sum (pool_of pools a).shares

-- No share passes the ceiling.
abbrev pub Capped : List Pool → Type 0
Capped pools = (c a : ℕ) → Known c a → share pools c a ≤ ceiling a
