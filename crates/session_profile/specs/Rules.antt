-- Parameters one after another to the end of octets, under rules.
use Rattle.std.specs.Prelude.{◌≡◌, ℕ, zero, suc, Bool, true, false, List, [], ◌∷◌, ◌++◌, length}
use Rattle.std.specs.Prelude.{Option, Some, None, Result, Ok, Err, ◌⊎◌, if◌then◌else◌}
use Rattle.ber_values.specs.declared.fault.BerFault.{BerFault}
use Rattle.ber_values.specs.declared.fault.Why.TheVariants as whys
use Rattle.ber_values.specs.Faults.{fault_at, ◌>>=◌}
use Rattle.ber_values.specs.Reading.{Taken}
use Rattle.session_profile.specs.Parameters.{Parameter, BeginsParameter, ParameterFault}
use Rattle.session_profile.specs.Parameters.{BeginsParameters, parameter_in}

-- what parameters have to keep, and the value that they are
pub record Rules (S V : Type 0) : Type 1 where
  -- what counts of parameters that came: it says what may follow, and the value
  pub seen : List Parameter → S
  -- whether a parameter of an identifier may follow
  pub may_follow : S → ℕ → Bool
  -- the value, unless a parameter is missed
  pub value : S → Option V
  -- a parameter's contents keep their rules
  pub is_sound : Parameter → Type 0
  -- the first fault of contents that don't
  pub breaks : Parameter → BerFault → Type 0
  -- for reading: one more parameter counts, and its contents are judged
  pub with_one : S → Parameter → S
  pub judged : Parameter → Result (Unit {0}) BerFault

-- after those before them, each of these may follow, and its contents are sound
abbrev pub MayFollow : {S V : Type 0} → Rules S V → List Parameter → List Parameter → Type 0
MayFollow r before [] = Unit {0}
MayFollow r before (p ∷ ps) = (r.may_follow (r.seen before) p.identifier ≡ true)
    × r.is_sound p × MayFollow r (before ++ p ∷ []) ps

-- the octets are parameters that keep the rules, and none is missed
pub record SpellsAll {S V : Type 0} (r : Rules S V) (at : ℕ) (value : V) (octets : List ℕ)
    : Type 0 where
  pub parameters : List Parameter
  pub end : ℕ
  pub spelled : BeginsParameters at octets parameters end []
  pub kept : MayFollow r [] parameters
  pub is : r.value (r.seen parameters) ≡ Some value

-- what breaks first after parameters: one is missed, or may not follow, or isn't whole, or isn't
-- sound
abbrev pub BreaksAfter : {S V : Type 0} → Rules S V → List Parameter → ℕ → List ℕ → BerFault
    → Type 0
BreaksAfter r before at [] f =
    (r.value (r.seen before) ≡ None) × (f ≡ fault_at at whys.Short)
BreaksAfter r before at (identifier ∷ octets) f =
    ((r.may_follow (r.seen before) identifier ≡ false) × (f ≡ fault_at at whys.Tag))
    ⊎ ((r.may_follow (r.seen before) identifier ≡ true)
    × (ParameterFault at (identifier ∷ octets) f ⊎ ((t : Taken Parameter)
    × BeginsParameter at (identifier ∷ octets) t × r.breaks t.value f)))

-- some parameters keep the rules, and what comes next breaks one
pub record FaultAmong {S V : Type 0} (r : Rules S V) (at : ℕ) (octets : List ℕ) (f : BerFault)
    : Type 0 where
  pub before : List Parameter
  pub next : ℕ
  pub rest : List ℕ
  pub spelled : BeginsParameters at octets before next rest
  pub kept : MayFollow r [] before
  pub breaks : BreaksAfter r before next rest f

-- a parameter and its contents
abbrev pub sound_in : {S V : Type 0} → Rules S V → ℕ → List ℕ → Result (Taken Parameter) BerFault
sound_in r at octets = parameter_in at octets >>= λ t. r.judged t.value >>= λ u. Ok t

-- the next one, where it may follow
abbrev pub next_in : {S V : Type 0} → Rules S V → S → ℕ → List ℕ → Result (Taken Parameter) BerFault
next_in r s at [] = Err (fault_at at whys.Short)
next_in r s at (identifier ∷ octets) = if r.may_follow s identifier
    then sound_in r at (identifier ∷ octets) else Err (fault_at at whys.Tag)

abbrev pub whole_or_short : {V : Type 0} → Option V → ℕ → Result V BerFault
whole_or_short None at = Err (fault_at at whys.Short)
whole_or_short (Some v) at = Ok v

-- so many more parameters at most
abbrev pub more_parameters_in : {S V : Type 0} → Rules S V → ℕ → S → ℕ → List ℕ → Result V BerFault
more_parameters_in r room s at [] = whole_or_short (r.value s) at
more_parameters_in r zero s at (identifier ∷ octets) = Err (fault_at at whys.Tag)
more_parameters_in r (suc room) s at (identifier ∷ octets) = next_in r s at (identifier ∷ octets)
    >>= λ t. more_parameters_in r room (r.with_one s t.value) t.next t.rest

-- reading the rest from the left; there are no more parameters than octets
unfoldable pub rest_in : {S V : Type 0} → Rules S V → S → ℕ → List ℕ → Result V BerFault
rest_in r s at octets = more_parameters_in r (length octets) s at octets

unfoldable pub all_parameters_in : {S V : Type 0} → Rules S V → ℕ → List ℕ → Result V BerFault
all_parameters_in r at octets = rest_in r (r.seen []) at octets
