-- SPDUs (ISO 8327-1, 8.3): which octets spell which, the first fault of those that spell none, and
-- the reading from the left that tells both.
use Rattle.std.specs.Prelude.{◌≡◌, ◌≢◌, ℕ, ◌+◌, Bool, true, false, ◌||◌, List, [], ◌∷◌, Result, Ok}
use Rattle.std.specs.Prelude.{Err, ◌⊎◌, ◌==◌, if◌then◌else◌}
use Rattle.ber_values.specs.declared.fault.BerFault.{BerFault}
use Rattle.ber_values.specs.declared.fault.Span.{Span}
use Rattle.ber_values.specs.declared.fault.Why.TheVariants as whys
use Rattle.ber_values.specs.Faults.{fault_at, ◌>>=◌}
use Rattle.ber_values.specs.Leaves.{span_at}
use Rattle.ber_values.specs.Reading.{Taken}
use Rattle.session_profile.specs.declared.spdu.Spdu.{Spdu}
use Rattle.session_profile.specs.declared.spdu.Spdu.TheVariants.{Connect, Accept, Refuse, Carry}
use Rattle.session_profile.specs.declared.spdu.Spdu.TheVariants.{Finish, Disconnect, Abort}
use Rattle.session_profile.specs.declared.spdu.Spdu.TheVariants.{AbortAccept}
use Rattle.session_profile.specs.Parameters.{Parameter, BeginsParameter, ParameterFault}
use Rattle.session_profile.specs.Parameters.{parameter_in, spdu_end_in}
use Rattle.session_profile.specs.Rules.{SpellsAll, FaultAmong, all_parameters_in}
use Rattle.session_profile.specs.Connections.{Connection, connection}

-- the code and the contents of an SPDU that carries no data; those of the last five aren't looked
-- at
abbrev pub IsCoded : Spdu → Parameter → Type 0
IsCoded (Connect called body) p = (p.identifier ≡ 13)
    × SpellsAll connection p.body (record { called = called; body = body }) p.contents
IsCoded (Accept called body) p = (p.identifier ≡ 14)
    × SpellsAll connection p.body (record { called = called; body = body }) p.contents
IsCoded Refuse p = p.identifier ≡ 12
IsCoded (Carry body) p = ⊥
IsCoded Finish p = p.identifier ≡ 9
IsCoded Disconnect p = p.identifier ≡ 10
IsCoded Abort p = p.identifier ≡ 25
IsCoded AbortAccept p = p.identifier ≡ 26

-- a code, a length and contents that fill the TSDU
pub record IsWhole (spdu : Spdu) (tsdu : List ℕ) : Type 0 where
  pub taken : Taken Parameter
  pub spelled : BeginsParameter 0 tsdu taken
  pub coded : IsCoded spdu taken.value
  pub ends : taken.rest ≡ []

-- give tokens and data transfer, 1 0 1 0, and then the body to the end of the TSDU
abbrev pub IsData : Span → List ℕ → Type 0
IsData body tsdu = (octets : List ℕ) × (tsdu ≡ 1 ∷ 0 ∷ 1 ∷ 0 ∷ octets) × (body ≡ span_at 4 octets)

abbrev pub SpellsSpdu : Spdu → List ℕ → Type 0
SpellsSpdu (Carry body) tsdu = IsData body tsdu
SpellsSpdu spdu tsdu = IsWhole spdu tsdu

-- ---- the first fault

-- no octet is left, or the first one isn't the wanted one
abbrev pub WantedOctetFault : ℕ → ℕ → List ℕ → BerFault → Type 0
WantedOctetFault at want [] f = f ≡ fault_at at whys.Short
WantedOctetFault at want (first ∷ octets) f = (first ≢ want) × (f ≡ fault_at at whys.Value)

-- the octets don't begin with these: the first of them breaks, or one after it
abbrev pub FrontFault : ℕ → List ℕ → List ℕ → BerFault → Type 0
FrontFault at [] octets f = ⊥
FrontFault at (want ∷ wanted) octets f = WantedOctetFault at want octets f
    ⊎ ((rest : List ℕ) × (octets ≡ want ∷ rest) × FrontFault (at + 1) wanted rest f)

abbrev pub is_code : ℕ → Bool
is_code code = code == 13 || code == 14 || code == 12 || code == 9 || code == 10 || code == 25
    || code == 26

abbrev pub CodedFault : Parameter → BerFault → Type 0
CodedFault p f =
    ((p.identifier ≡ 13) ⊎ (p.identifier ≡ 14)) × FaultAmong connection p.body p.contents f

-- the code and length aren't whole, or the contents break a rule, or octets follow
abbrev pub WholeFault : List ℕ → BerFault → Type 0
WholeFault tsdu f = ParameterFault 0 tsdu f
    ⊎ ((t : Taken Parameter) × BeginsParameter 0 tsdu t
    × (CodedFault t.value f ⊎ ((spdu : Spdu) × IsCoded spdu t.value
    × ((t.rest ≢ []) × (f ≡ fault_at t.next whys.Tag)))))

abbrev pub SpduFault : List ℕ → BerFault → Type 0
SpduFault [] f = f ≡ fault_at 0 whys.Short
SpduFault (code ∷ octets) f = ((code ≡ 1) × FrontFault 1 (0 ∷ 1 ∷ 0 ∷ []) octets f)
    ⊎ (((code ≢ 1) × (is_code code ≡ true) × WholeFault (code ∷ octets) f)
    ⊎ ((code ≢ 1) × (is_code code ≡ false) × (f ≡ fault_at 0 whys.Tag)))

-- ---- reading from the left

abbrev pub wanted_octet_in : ℕ → ℕ → List ℕ → Result (List ℕ) BerFault
wanted_octet_in at want [] = Err (fault_at at whys.Short)
wanted_octet_in at want (first ∷ rest) = if first ==
    want then Ok rest else Err (fault_at at whys.Value)

-- these octets, and a function of those after them
abbrev pub fixed_front_in : {X : Type 0} → ℕ → List ℕ → List ℕ → (List ℕ → X) → Result X BerFault
fixed_front_in at [] octets made = Ok (made octets)
fixed_front_in at (want ∷ wanted) octets made =
    wanted_octet_in at want octets >>= λ rest. fixed_front_in (at + 1) wanted rest made

abbrev pub carried_data : List ℕ → Spdu
carried_data octets = Carry (span_at 4 octets)

abbrev pub connected : Connection → Spdu
connected c = Connect c.called c.body

abbrev pub accepted_connection : Connection → Spdu
accepted_connection c = Accept c.called c.body

-- an SPDU whose contents aren't looked at
abbrev pub plain_in : ℕ → Result Spdu BerFault
plain_in code = if code == 12 then Ok Refuse else (if code == 9 then Ok Finish
    else (if code == 10 then Ok Disconnect else (if code == 25 then Ok Abort
    else (if code == 26 then Ok AbortAccept else Err (fault_at 0 whys.Tag)))))

unfoldable pub spdu_coded_in : Parameter → Result Spdu BerFault
spdu_coded_in p = if p.identifier == 13
    then (all_parameters_in connection p.body p.contents >>= λ c. Ok (connected c))
    else (if p.identifier == 14
    then (all_parameters_in connection p.body p.contents >>= λ c. Ok (accepted_connection c))
    else plain_in p.identifier)

unfoldable pub whole_spdu_in : List ℕ → Result Spdu BerFault
whole_spdu_in tsdu = parameter_in 0 tsdu
    >>= λ t. spdu_coded_in t.value >>= λ spdu. spdu_end_in spdu t.next t.rest

unfoldable pub spdu_in : List ℕ → Result Spdu BerFault
spdu_in [] = Err (fault_at 0 whys.Short)
spdu_in (code ∷ octets) = if code == 1 then fixed_front_in 1 (0 ∷ 1 ∷ 0 ∷ []) octets carried_data
    else (if is_code code then whole_spdu_in (code ∷ octets) else Err (fault_at 0 whys.Tag))
