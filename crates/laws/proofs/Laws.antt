-- The laws, for every history and so after every call.
use Rattle.std.proofs.Common.{◌≡◌, false, [], ◌∷◌, refl, ap}
use Rattle.margin.specs.Meaning.{Method}
use Rattle.rules.specs.declared.records.Accounts.{Accounts}
use Rattle.rules.specs.Histories.{Custody, State, answer_to, state_after, Same, opening, opening_accounts}
use Rattle.rules.specs.Laws.{LawsStand, StepsKeepLaws, HistoriesExist, Opened, Opens}
use Rattle.laws.proofs.Segregation.{segregation}
use Rattle.laws.proofs.Conservation.{conservation}
use Rattle.laws.proofs.Transit.{returnable}

pub laws_stand : LawsStand
laws_stand m k h s p = record {
  led = p;
  segregated = segregation m k h s p;
  conserved = conservation m k h s p;
  returnable = returnable m k h s p;
}

-- A call that makes the step keeps the laws, and so does one that opens a book.
pub entered : StepsKeepLaws
entered m e s o t p = record { step = p; lawful = λ k h q. laws_stand m k (record { entry = e; result = o } ∷ h) t (s, q, p) }

pub opened : (m : Method) (k : Custody) (s : State) → Same s (opening k) → Opened m k s
opened m k s p = record { first = p; lawful = laws_stand m k [] s p }

pub same : (s : State) → Same s s
same s = record { accounts = refl; units = λ c a k. refl; depths = λ c a k. refl; broken = λ c a k. refl }

pub opens : (b : Accounts) → b ≡ opening_accounts → Opens b
opens b e m k =
    opened m k (record { accounts = b; custody = k; broken = λ c a. false })
    (record { accounts = e; units = λ c a k. refl; depths = λ c a k. refl; broken = λ c a k. refl })

pub histories_exist : HistoriesExist
histories_exist m k [] = ([], opening k, same (opening k), refl)
histories_exist m k (e ∷ es) =
    let (h, s, l, p) = histories_exist m k es in (
      record { entry = e; result = answer_to m e s } ∷ h,
      state_after m e s,
      (s, l, record { answered = refl; moved = same (state_after m e s) }),
      ap (λ xs. e ∷ xs) p,
    )
