-- Faults, and steps that may fail.
use Rattle.std.specs.Prelude.{◌≡◌, ℕ, Result, Ok, Err}
use Rattle.ber_values.specs.declared.fault.BerFault.{BerFault}
use Rattle.ber_values.specs.declared.fault.Why.{Why}

-- the fault at a place
abbrev pub fault_at : ℕ → Why → BerFault
fault_at place why = record { place = place; why = why }

-- the second step, where the first did not fail
infixl 10 ◌>>=◌
abbrev pub ◌>>=◌ : {X Y : Type 0} → Result X BerFault → (X → Result Y BerFault) → Result Y BerFault
(Ok x) >>= f = f x
(Err e) >>= f = Err e

-- what a function returned, seen by view, is what reading gives
abbrev pub Gives : {X Y : Type 0} → (X → Y) → Result X BerFault → Result Y BerFault → Type 0
Gives view (Ok x) read = read ≡ Ok (view x)
Gives view (Err f) read = read ≡ Err f
