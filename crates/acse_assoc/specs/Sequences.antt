-- AARQ and AARE as sequences of elements (ISO 8650-1, AARQ-apdu and AARE-apdu): which elements
-- stand there, and what they spell.
use Rattle.std.specs.Prelude.{◌≡◌, ◌≢◌, ℕ, ◌+◌, ◌<◌, List, [], ◌∷◌, length, All, AllPairs, ◌⊎◌}
use Rattle.std.specs.Prelude.{Option, Some, None}
use Rattle.ber_values.specs.Parts.{Contents}
use Rattle.ber_values.specs.Runs.{AnyElement, IsSoundElement, element_octets, elements_octets}
use Rattle.acse_assoc.specs.declared.expected.Expected.{Expected}
use Rattle.acse_assoc.specs.declared.request.AssociateRequest.{AssociateRequest}
use Rattle.acse_assoc.specs.declared.response.AssociateResponse.{AssociateResponse}
use Rattle.acse_assoc.specs.Users.{user_information}
use Rattle.acse_assoc.specs.Requests.{one_oid}
use Rattle.acse_assoc.specs.Responses.{result_number}
use Rattle.acse_assoc.specs.Writing.{HasUser}

-- each number is below those of all later elements
abbrev pub IsRising : List AnyElement → Type 0
IsRising elements = AllPairs (λ a b. a.tag.number < b.tag.number) elements

-- octets are these elements, all of the context class, whose numbers rise
pub record IsSequence (octets : List ℕ) (elements : List AnyElement) : Type 0 where
  pub sound : All IsSoundElement elements
  pub parts : octets ≡ elements_octets elements
  pub context : All (λ e. e.tag.class ≡ 2) elements
  pub rising : IsRising elements

-- an element of this tag stands among elements, of which the first has the place at, and its
-- contents spell a value
abbrev pub HasElement : {X : Type 0} → ℕ → Contents X → ℕ → List AnyElement → X → Type 0
HasElement tag c at [] x = ⊥
HasElement tag c at (e ∷ es) x = ((e.tagged ≡ tag ∷ [])
    × c.spells (at + length e.tagged + length e.sized) x e.contents)
    ⊎ HasElement tag c (at + length (element_octets e)) es x

abbrev pub LacksElement : ℕ → List AnyElement → Type 0
LacksElement tag elements = All (λ e. e.tagged ≢ tag ∷ []) elements

-- the same where an element may be absent
abbrev pub MayHaveElement : {X : Type 0} → ℕ → Contents X → ℕ → List AnyElement → Option X
    → Type 0
MayHaveElement tag c at elements None = LacksElement tag elements
MayHaveElement tag c at elements (Some x) = HasElement tag c at elements x

-- the calling title, which counts as none unless one object identifier alone stands in its element
abbrev pub HasTitle : ℕ → List AnyElement → Option (List ℕ) → Type 0
HasTitle at elements None = (title : List ℕ) → HasElement 166 one_oid at elements title → ⊥
HasTitle at elements (Some title) = HasElement 166 one_oid at elements title

-- the contents of an AARQ, of which the first octet has the place at: the application context's
-- name and the user information are there, the title may be
pub record IsAarq (e : Expected) (at : ℕ) (octets : List ℕ) (elements : List AnyElement)
    (r : AssociateRequest) : Type 0 where
  pub sequence : IsSequence octets elements
  pub context : HasElement 161 one_oid at elements r.context
  pub title : HasTitle at elements r.title
  pub user : HasElement 190 (user_information e.request_id) at elements r.user

-- the contents of an AARE: the result is there, and the user information where it accepts
pub record IsAare (e : Expected) (at : ℕ) (octets : List ℕ) (elements : List AnyElement)
    (r : AssociateResponse) : Type 0 where
  pub sequence : IsSequence octets elements
  pub name : Option (List ℕ)
  pub context : MayHaveElement 161 one_oid at elements name
  pub result : HasElement 162 (result_number e) at elements r.result
  pub user : MayHaveElement 190 (user_information e.response_id) at elements r.user
  pub accepted : HasUser r.result r.user

-- octets, of which the first has the place at, are one element of this tag, whose contents hold
pub record IsOneElement (tag at : ℕ) (octets : List ℕ) (Holds : ℕ → List ℕ → Type 0) : Type 0 where
  pub element : AnyElement
  pub sound : IsSoundElement element
  pub tagged : element.tagged ≡ tag ∷ []
  pub parts : octets ≡ element_octets element
  pub contents : Holds (at + length element.tagged + length element.sized) element.contents

-- octets are an AARQ, or an AARE
abbrev pub IsWholeAarq : Expected → ℕ → List ℕ → AssociateRequest → Type 0
IsWholeAarq e at octets r = IsOneElement 96 at octets
    (λ body contents. (elements : List AnyElement) × IsAarq e body contents elements r)

abbrev pub IsWholeAare : Expected → ℕ → List ℕ → AssociateResponse → Type 0
IsWholeAare e at octets r = IsOneElement 97 at octets
    (λ body contents. (elements : List AnyElement) × IsAare e body contents elements r)
