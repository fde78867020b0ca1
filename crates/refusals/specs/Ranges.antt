-- Ranges, and the refusals of what is out of range.
use Rattle.std.specs.Prelude.{ℕ, ◌+◌, ◌-◌, ◌*◌, ◌^◌, ◌≤◌, Bool, cond, not, ◌&&◌, List, [], ◌∷◌, ℤ, ◌==◌, nat_le, unsigned_abs}
use Rattle.refusals.specs.declared.Refusal.TheVariants.{CustomerRange, InstrumentRange, FigureRange}
use Rattle.refusals.specs.Refusals.{fault}
use Rattle.refusals.specs.Checks.{Check}

-- From low to high, both included.
abbrev pub between : ℕ → ℕ → ℕ → Bool
between low high n = nat_le low n && nat_le n high

-- From -limit to limit.
abbrev pub within : ℕ → ℤ → Bool
within limit z = nat_le (unsigned_abs z) limit

-- Customers are 1 to 64.
abbrev pub is_customer : ℕ → Bool
is_customer c = between 1 64 c

-- Assets are 1 cash, 2 bills, 3 notes and 4 bonds.
abbrev pub is_asset : ℕ → Bool
is_asset a = between 1 4 a

-- Contracts are 1 to 8.
abbrev pub is_contract : ℕ → Bool
is_contract k = between 1 8 k

-- Units on a custody call or a statement are 0 to 10^17.
abbrev pub are_units : ℕ → Bool
are_units n = nat_le n (10 ^ 17)

-- A deposit, withdrawal or payout is of 1 to 10^15 units.
abbrev pub are_moved_units : ℕ → Bool
are_moved_units n = between 1 (10 ^ 15) n

-- A net is -1,000,000 to 1,000,000 units,
abbrev pub is_net : ℤ → Bool
is_net z = within (10 ^ 6) z

-- and so are the units of a trade, which are not 0.
abbrev pub are_traded_units : ℤ → Bool
are_traded_units z = not (unsigned_abs z == 0) && is_net z

-- A mark or a trade price is -1,000,000 to 1,000,000 cents a unit.
abbrev pub is_price : ℤ → Bool
is_price z = within (10 ^ 6) z

-- A quote is 0 to 1,000,000 cents a unit, and only securities have one.
abbrev pub is_quote : ℕ → Bool
is_quote q = nat_le q (10 ^ 6)

abbrev pub is_security : ℕ → Bool
is_security a = between 2 4 a

-- The cost of a contract is -10^15 to 10^15 cents, and a debt 0 to 10^17.
abbrev pub is_cost : ℤ → Bool
is_cost z = within (10 ^ 15) z

abbrev pub is_debt : ℕ → Bool
is_debt d = nat_le d (10 ^ 17)

-- The most that is held for one customer: cash 10^17 cents, each security 10^9 units.
abbrev pub ceiling : ℕ → ℕ
ceiling a = cond (a == 1) (10 ^ 17) (10 ^ 9)

-- There is such a customer and such an asset.
abbrev pub Known : ℕ → ℕ → Type 0
Known c a = (1 ≤ c) × (c ≤ 64) × (1 ≤ a) × (a ≤ 4)

-- Where a customer and asset stand among the 256, by customer, then asset.
abbrev pub spot : ℕ → ℕ → ℕ
spot c a = 4 * (c - 1) + (a - 1)

-- Refusal 2 names no customer; 3 and 4 name the customer c, or 0 where the call names none.
abbrev pub customer_check : ℕ → Check
customer_check c = (is_customer c, fault CustomerRange 0)

abbrev pub asset_check : ℕ → ℕ → Check
asset_check c a = (is_asset a, fault InstrumentRange c)

abbrev pub contract_check : ℕ → ℕ → Check
contract_check c k = (is_contract k, fault InstrumentRange c)

abbrev pub units_check : ℕ → ℕ → Check
units_check c n = (are_units n, fault FigureRange c)

-- A customer and an asset are tested in this order,
abbrev pub name_checks : ℕ → ℕ → List Check
name_checks c a = customer_check c ∷ asset_check c a ∷ []

-- and then units.
abbrev pub range_checks : ℕ → ℕ → ℕ → List Check
range_checks c a n = customer_check c ∷ asset_check c a ∷ units_check c n ∷ []
