-- The contexts that both ends agree on.
use Rattle.std.specs.Prelude.{◌≡◌, ◌≢◌, ℕ, ◌≤◌, Bool, ◌&&◌, ◌||◌, List, [], ◌∷◌, length, map}
use Rattle.std.specs.Prelude.{filter, ◌⊎◌, Result, Ok, Err, Option, Some, None, ◌↔◌, ◌==◌}
use Rattle.std.specs.Prelude.{if◌then◌else◌}
use Rattle.std.specs.Str.{bytes_eq}
use Rattle.presentation_profile.specs.declared.offers.Offered.{Offered}
use Rattle.presentation_profile.specs.declared.agreement.Agreed.{Agreed}
use Rattle.presentation_profile.specs.declared.agreement.ContextFault.{ContextFault}
use Rattle.presentation_profile.specs.declared.agreement.ContextFault.TheVariants as faults

-- ACSE: joint-iso-itu-t association-control(2) abstract-syntax(1) apdus(0) version1(1)
abbrev pub acse_name : List ℕ
acse_name = 82 ∷ 1 ∷ 0 ∷ 1 ∷ []

-- MMS: iso(1) standard(0) 9506 part(2) mms-abstract-syntax-version1(1)
abbrev pub mms_name : List ℕ
mms_name = 40 ∷ 202 ∷ 34 ∷ 2 ∷ 1 ∷ []

-- whether an offer has this abstract syntax, and BER
abbrev pub is_of : List ℕ → Offered → Bool
is_of name o = o.ber && bytes_eq o.abstract_name name

-- the offers of this abstract syntax that have BER
abbrev pub offers_of : List ℕ → List Offered → List Offered
offers_of name contexts = filter (is_of name) contexts

-- the id of the only one of these offers, if there is one, or else two stand there
abbrev pub IsOnly : List Offered → Result (Option ℕ) ContextFault → Type 0
IsOnly os (Ok None) = os ≡ []
IsOnly os (Ok (Some id)) = (o : Offered) × (os ≡ o ∷ []) × (id ≡ o.id)
IsOnly os (Err fault) = (2 ≤ length os) × (fault ≡ faults.Twice)

-- two offers name the same of the two, or one of each has the same id
abbrev pub NamesTwice : List Offered → Type 0
NamesTwice contexts = (2 ≤ length (offers_of acse_name contexts))
    ⊎ ((2 ≤ length (offers_of mms_name contexts))
    ⊎ ((acse : Offered) × (mms : Offered) × (offers_of acse_name contexts ≡ acse ∷ [])
    × (offers_of mms_name contexts ≡ mms ∷ []) × (acse.id ≡ mms.id)))

-- one offer names ACSE, one names MMS, and they have these ids, which differ
pub record Agrees (contexts : List Offered) (agreed : Agreed) : Type 0 where
  pub acse : Offered
  pub mms : Offered
  pub one_acse : offers_of acse_name contexts ≡ acse ∷ []
  pub one_mms : offers_of mms_name contexts ≡ mms ∷ []
  pub ids : agreed ≡ record { acse = acse.id; mms = mms.id }
  pub differ : acse.id ≢ mms.id

-- the id of the only offer of ACSE, where the only one of MMS has another
abbrev pub acse_among : List Offered → List Offered → Option ℕ
acse_among (acse ∷ []) (mms ∷ []) = if acse.id == mms.id then None else Some acse.id
acse_among _ _ = None

-- the id of ACSE's context, where contexts are agreed on
abbrev pub acse_of : List Offered → Option ℕ
acse_of contexts = acse_among (offers_of acse_name contexts) (offers_of mms_name contexts)

-- the same of MMS
abbrev pub mms_among : List Offered → List Offered → Option ℕ
mms_among (acse ∷ []) (mms ∷ []) = if acse.id == mms.id then None else Some mms.id
mms_among _ _ = None

-- the id of MMS's context, where contexts are agreed on
abbrev pub mms_of : List Offered → Option ℕ
mms_of contexts = mms_among (offers_of acse_name contexts) (offers_of mms_name contexts)

-- what is agreed on, or the first of these that holds: a name stands twice, ACSE has none, MMS none
pub record IsAgreement (contexts : List Offered) (result : Result Agreed ContextFault) : Type 0
  where
    pub agrees : (agreed : Agreed) → (result ≡ Ok agreed) ↔ Agrees contexts agreed
    pub twice : (result ≡ Err faults.Twice) ↔ NamesTwice contexts
    pub no_acse : (result ≡ Err faults.NoAcse)
        ↔ ((NamesTwice contexts → ⊥) × (offers_of acse_name contexts ≡ []))
    pub no_mms : (result ≡ Err faults.NoMms)
        ↔ ((NamesTwice contexts → ⊥) × (offers_of acse_name contexts ≢ [])
        × (offers_of mms_name contexts ≡ []))

-- what becomes of an offer, where contexts are agreed on: it is accepted where it is one of the
-- two, else the user rejects it
abbrev pub result_of : Offered → ℕ
result_of o = if is_of acse_name o || is_of mms_name o then 0 else 1

-- a result for each offer, in order
abbrev pub results_of : List Offered → List ℕ
results_of contexts = map result_of contexts
