-- The rule of every entry, and whose entry it is.
use Rattle.std.specs.Prelude.{ℕ}
use Rattle.std.proofs.Math.Option.{Option, some, none}
use Rattle.margin.specs.Meaning.{Method}
use Rattle.rules.specs.declared.entries.Entry.{Entry}
use Rattle.rules.specs.declared.entries.Entry.TheVariants.{Deposit, Withdrawal, Payout, Trade, Mark, Quote, Settlement, Statement, Default, Closing, Transfer, Delivery, Return, Liquidation}
use Rattle.rules.specs.Views.{View}
use Rattle.rules.specs.Rulings.{Rule}
use Rattle.rules.specs.Collateral.{deposit, withdrawal, payout, statement}
use Rattle.rules.specs.Trades.{trade}
use Rattle.rules.specs.Settlements.{settlement, liquidation}
use Rattle.rules.specs.Transfers.{transfer, delivery, return_of}
use Rattle.rules.specs.Markets.{mark, quote, default, closing}

abbrev pub rule : Method → Entry → View → Rule
rule m (Deposit c a n) v = deposit m c a n v
rule m (Withdrawal c a n) v = withdrawal m c a n v
rule m (Payout c a n) v = payout m c a n v
rule m (Trade c t) v = trade m c t v
rule m (Mark k p) v = mark k p v
rule m (Quote a q) v = quote a q v
rule m (Settlement c) v = settlement m c v
rule m (Statement c a n) v = statement c a n v
rule m Default v = default v
rule m Closing v = closing v
rule m (Transfer c) v = transfer m c v
rule m (Delivery c) v = delivery m c v
rule m (Return c) v = return_of m c v
rule m (Liquidation c) v = liquidation m c v

-- An entry is of the customer that its fields or its obligation name, in range or not, or of none.
abbrev pub owner : Entry → Option ℕ
owner (Deposit c a n) = some c
owner (Withdrawal c a n) = some c
owner (Payout c a n) = some c
owner (Trade c t) = some c
owner (Mark k p) = none
owner (Quote a q) = none
owner (Settlement c) = some c
owner (Statement c a n) = some c
owner Default = none
owner Closing = none
owner (Transfer c) = some c
owner (Delivery c) = some c
owner (Return c) = some c
owner (Liquidation c) = some c
