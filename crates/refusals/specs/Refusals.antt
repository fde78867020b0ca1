-- The number of each refusal, and faults.
use Rattle.std.specs.Prelude.{ℕ}
use Rattle.refusals.specs.declared.Refusal.{Refusal}
use Rattle.refusals.specs.declared.Refusal.TheVariants.{Form, CustomerRange, InstrumentRange, FigureRange, WrongState, WrongStatus, Limit, Blocked, NotHeld, NotCovered, NotSettled, FewLots}
use Rattle.refusals.specs.declared.Fault.{Fault}

-- The number under which each refusal is reported.
abbrev pub number : Refusal → ℕ
number Form = 1
number CustomerRange = 2
number InstrumentRange = 3
number FigureRange = 4
number WrongState = 5
number WrongStatus = 6
number Limit = 7
number Blocked = 8
number NotHeld = 9
number NotCovered = 10
number NotSettled = 11
number FewLots = 12

-- A fault's four parts: refusal, customer, asset and place.
abbrev pub fault_at : Refusal → ℕ → ℕ → ℕ → Fault
fault_at why customer asset place = record { refusal = why; customer = customer; asset = asset; place = place }

-- A fault that names a customer, or 0 for none, but no asset and no place.
abbrev pub fault : Refusal → ℕ → Fault
fault why customer = fault_at why customer 0 0
