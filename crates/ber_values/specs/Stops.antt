-- Readings that take memory, which may run out.
use Rattle.std.specs.Prelude.{◌≡◌, Result, Ok, Err, alloc_error}
use Rattle.std.specs.declared.alloc.AllocError.{AllocError}
use Rattle.ber_values.specs.declared.fault.BerFault.{BerFault}
use Rattle.ber_values.specs.declared.stop.Stop.{Stop}
use Rattle.ber_values.specs.declared.stop.Stop.TheVariants as stops

-- why a function stopped is what reading gives, unless memory ran out
abbrev pub StopsAs : {Y : Type 0} → Stop → Result Y BerFault → Type 0
StopsAs stops.Memory read = Unit {0}
StopsAs (stops.Fault f) read = read ≡ Err f

-- what a function returned, seen by view, is what reading gives, unless memory ran out
abbrev pub Answers : {X Y : Type 0} → (X → Y) → Result X Stop → Result Y BerFault → Type 0
Answers view (Ok x) read = read ≡ Ok (view x)
Answers view (Err stop) read = StopsAs stop read

-- want of memory apart from faults
abbrev pub settled : {X : Type 0} → Result X Stop → Result (Result X BerFault) AllocError
settled (Ok x) = Ok (Ok x)
settled (Err stops.Memory) = Err alloc_error
settled (Err (stops.Fault f)) = Ok (Err f)

-- a function answered this value, seen by view
abbrev pub AnswersValue : {X Y : Type 0} → (X → Y) → Result X BerFault → Y → Type 0
AnswersValue view (Ok x) y = view x ≡ y
AnswersValue view (Err f) y = ⊥
