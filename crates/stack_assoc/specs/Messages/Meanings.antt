-- What octets say through several layers: one layer, then the next inside its body.
use Rattle.std.specs.Prelude.{◌≡◌, Bool, true, false, ◌⊎◌, Option, Some, None, Result}
use Rattle.std.specs.Prelude.{Ok, Err, IfOk, ◌↔◌}
use Rattle.ber_values.specs.Reading.{IsOne}
use Rattle.stack_assoc.specs.declared.messages.fault.StackFault.{StackFault}

-- what octets say, or the first fault of those that say nothing
pub record Meaning (X : Type 0) : Type 1 where
  pub says : X → Type 0
  pub breaks : StackFault → Type 0
  -- reading from the left, which tells both
  pub reading : Result X StackFault

-- a value that is known already
unfoldable pub says_just : {X : Type 0} → X → Meaning X
says_just x = record { says = λ y. y ≡ x; breaks = λ f. ⊥; reading = Ok x }

-- what may not stand there
unfoldable pub says_nothing : {X : Type 0} → StackFault → Meaning X
says_nothing fault =
    record { says = λ y. ⊥; breaks = λ f. f ≡ fault; reading = Err fault }

-- a value, where there is one; else this fault
abbrev pub says_some : {X : Type 0} → StackFault → Option X → Meaning X
says_some fault None = says_nothing fault
says_some fault (Some x) = says_just x

-- what was read, and then what is read behind it
abbrev pub read_then : {X Y : Type 0} → Result X StackFault → (X → Result Y StackFault)
    → Result Y StackFault
read_then (Ok x) next = next x
read_then (Err fault) next = Err fault

-- one layer, then the next inside it
unfoldable pub inside : {X Y : Type 0} → Meaning X → (X → Meaning Y) → Meaning Y
inside {X} outer inner = record {
  says = λ y. (x : X) × outer.says x × (inner x).says y;
  breaks = λ f. outer.breaks f ⊎ ((x : X) × outer.says x × (inner x).breaks f);
  reading = read_then outer.reading (λ x. (inner x).reading);
}

-- what may come now, else this fault
abbrev pub where_allowed : {X : Type 0} → Bool → StackFault → Meaning X → Meaning X
where_allowed true fault meaning = meaning
where_allowed false fault meaning = says_nothing fault

-- octets were read exactly
pub record IsReadAs {X : Type 0} (meaning : Meaning X) (read : Result X StackFault) : Type 0 where
  -- a value is read only where the octets say it,
  pub found : IfOk read meaning.says
  -- and wherever they say one, that is read
  pub only : (x : X) → meaning.says x → read ≡ Ok x
  -- a fault is the first one from the left
  pub fault : (f : StackFault) → (read ≡ Err f) ↔ meaning.breaks f

-- exactly one holds: exactly one value is said, or there is exactly one first fault
abbrev pub HasOneMeaning : {X : Type 0} → Meaning X → Type 0
HasOneMeaning {X} meaning =
    (IsOne X meaning.says × ((f : StackFault) → meaning.breaks f → ⊥))
    ⊎ (((x : X) → meaning.says x → ⊥) × IsOne StackFault meaning.breaks)
