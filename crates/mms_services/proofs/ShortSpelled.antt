-- What is written for initiates, errors, rejects and who answers is read back.
use Rattle.std.proofs.Common.{◌≡◌, ℕ, ◌+◌, ◌-◌, ◌<◌, ◌≤◌, ◌^◌, true, false, eqb, Bool, List, [], ◌∷◌, ◌++◌, length, Option, Some, None, ℤ, pos, IfSome, refl, sym, ap, subst, inl, arith}
use Rattle.std.specs.Int.{w64}
use Rattle.std.specs.Int.RustNames.{FitsSigned}
use Rattle.std.proofs.lemmas.Bool.{ne_eqb, le-leb}
use Rattle.ber_values.specs.Writing.{written, integer_octets, length_octets}
use Rattle.ber_values.specs.Grammars.{Grammar, taken, then_in, map_in, branch_in, has_tag}
use Rattle.ber_values.specs.Passing.{pass_in, is_other}
use Rattle.ber_values.specs.Parts.{part_in, maybe_in, contents_as}
use Rattle.ber_values.specs.Leaves.{integer, unsigned, octet, raw, visible, fixed}
use Rattle.ber_values.proofs.Externals.{integer-few, unsigned_spelled}
use Rattle.ber_values.proofs.WrittenParts.{Writes, Ends, ends_of, then-ends, map-ends, part-writes, all-spelled, none_passed}
use Rattle.mms_services.proofs.OfNames.NameListsSpelled.{integer-writes}
use Rattle.mms_services.specs.declared.coded.Coded.{Coded}
use Rattle.mms_services.specs.declared.error.ErrorPdu.{ErrorPdu}
use Rattle.mms_services.specs.declared.reject.RejectPdu.{RejectPdu}
use Rattle.mms_services.specs.declared.initiate.Initiate.{Initiate}
use Rattle.mms_services.specs.Coded.{by_first, is_within, coded, coded_in}
use Rattle.mms_services.specs.Errors.{error_class, service_error, error_of, error_pdu, service_error_octets, error_pdu_octets}
use Rattle.mms_services.specs.Rejects.{reject_of, reject_pdu, some_invoke_octets, reason_octets, reject_pdu_octets}
use Rattle.mms_services.specs.Initiates.{initiate_detail, initiate_of, initiate, some_integer_octets, initiate_detail_octets, last_octets, later_octets, initiate_octets, IsHeldInitiate}
use Rattle.mms_services.specs.Identities.{identify_request, some_syntaxes, identify_response, identify_response_octets}
use Rattle.ber_values.proofs.WrittenParts.{maybe-none, maybe-some, before-ends}

-- ---- pieces

-- one thing, and no element after it to be passed over
pub skipped-ends : {X Y : Type 0} (g : Grammar X) (f : X → Y) (skips : ℕ → Bool) (at : ℕ) (x : X) (octets : List ℕ) → Ends g at x octets → Ends (then_in g (λ y. map_in (λ u. f y) (pass_in skips))) at (f x) octets
unfolding then_in map_in
skipped-ends g f skips at x octets e =
    let end = at + length octets in
    (taken x end [], e, (taken tt end [], none_passed skips end [] refl, refl))

octet-spelled : (at value : ℕ) → octet.spells at value (value ∷ [])
unfolding octet
octet-spelled at value = refl

-- a code under the tag with this number
coded-writes : (low high number code at : ℕ) → is_within low high (128 + number) ≡ true → Writes (coded_in low high) at (record { number = number; code = code }) (written (128 + number) (code ∷ []))
unfolding coded_in by_first branch_in contents_as
coded-writes low high number code at within rest =
    let back : number ≡ 128 + number - 128 = omega arith in
    inl (
      within,
      part-writes (128 + number) (contents_as (coded (128 + number)) octet) at (record { number = number; code = code }) (code ∷ []) (omega arith)
          (code, octet-spelled _ code, ap (λ (n : ℕ). record { number = n; code = code }) back) rest,
    )

unsigned-writes : (tag n at : ℕ) → n < 2 ^ 32 → Writes (part_in tag unsigned) at n (written tag (integer_octets (pos n)))
unsigned-writes tag n at small = part-writes tag unsigned at n (integer_octets (pos n)) (omega (arith, integer-few n (omega (arith, small)))) (unsigned_spelled _ n small)

-- ---- errors

error_class-spelled : (at class code : ℕ) → class ≤ 15 → error_class.spells at (record { number = class; code = code }) (written (128 + class) (code ∷ []))
unfolding error_class
error_class-spelled at class code few =
    let within : is_within 128 143 (128 + class) ≡ true = rw (le-leb 128 (128 + class) (omega arith), le-leb (128 + class) 143 (omega (arith, few))) refl in
    all-spelled (coded_in 128 143) at _ (written (128 + class) (code ∷ [])) (ends_of (coded_in 128 143) at _ _ (coded-writes 128 143 class code at within))

service_error-writes : (at class code : ℕ) → class ≤ 15 → Writes (part_in 162 service_error) at (record { number = class; code = code }) (service_error_octets class code)
unfolding service_error service_error_octets length_octets
service_error-writes at class code few =
    let one = written (128 + class) (code ∷ []) in
    let error : Coded = record { number = class; code = code } in
    let inner = written 160 one in
    part-writes 162 service_error at error inner (omega arith)
    (all-spelled _ _ error inner (skipped-ends (part_in 160 error_class) (λ e. e) (is_other 0 255 []) _ error inner
    (ends_of (part_in 160 error_class) _ error inner (part-writes 160 error_class _ error one (omega arith) (error_class-spelled _ class code few)))))

-- what is written for an error is the error
pub error_pdu-spelled : (at : ℕ) (e : ErrorPdu) → e.invoke < 2 ^ 32 → e.class ≤ 15 → error_pdu.spells at e (error_pdu_octets e)
unfolding error_pdu error_pdu_octets
error_pdu-spelled at e small few =
    let one = written 128 (integer_octets (pos e.invoke)) in
    let two = service_error_octets e.class e.code in
    let next = at + length one in
    all-spelled _ at e (one ++ two)
    (then-ends (part_in 128 unsigned) (λ invoke. map_in (error_of invoke) (part_in 162 service_error)) at e.invoke one e two (unsigned-writes 128 e.invoke at small)
    (map-ends (error_of e.invoke) (part_in 162 service_error) next (record { number = e.class; code = e.code }) two
    (ends_of (part_in 162 service_error) next _ two (service_error-writes next e.class e.code few))))

-- ---- rejects

some_invoke-begins : (v : Option ℕ) (at : ℕ) (rest : List ℕ) → IfSome v (λ n. n < 2 ^ 32) → has_tag 128 rest ≡ false → (maybe_in 128 unsigned).begins at (some_invoke_octets v ++ rest) (taken v (at + length (some_invoke_octets v)) rest)
some_invoke-begins None at rest held other =
    let same : at ≡ at + 0 = omega arith in
    subst (λ (n : ℕ). (maybe_in 128 unsigned).begins at rest (taken None n rest)) same (maybe-none 128 unsigned at rest other)
some_invoke-begins (Some n) at rest held other =
    let octets = written 128 (integer_octets (pos n)) in
    maybe-some 128 unsigned at n (octets ++ rest) rest (at + length octets) refl (unsigned-writes 128 n at held rest)

reason-writes : (at kind code : ℕ) → 1 ≤ kind → kind ≤ 15 → Writes (coded_in 129 143) at (record { number = kind; code = code }) (reason_octets kind code)
unfolding reason_octets
reason-writes at kind code some few =
    let within : is_within 129 143 (128 + kind) ≡ true = rw (le-leb 129 (128 + kind) (omega (arith, some)), le-leb (128 + kind) 143 (omega (arith, few))) refl in
    coded-writes 129 143 kind code at within

reason-other : (kind code : ℕ) → 1 ≤ kind → has_tag 128 (reason_octets kind code) ≡ false
unfolding reason_octets
reason-other kind code some = ne_eqb (128 + kind) 128 (omega (arith, some))

-- what is written for a reject is the reject
pub reject_pdu-spelled : (at : ℕ) (r : RejectPdu) → IfSome r.invoke (λ n. n < 2 ^ 32) → 1 ≤ r.kind → r.kind ≤ 15 → reject_pdu.spells at r (reject_pdu_octets r)
unfolding reject_pdu reject_pdu_octets
reject_pdu-spelled at r held some few =
    let one = some_invoke_octets r.invoke in
    let two = reason_octets r.kind r.code in
    let next = at + length one in
    all-spelled _ at r (one ++ two)
    (before-ends (maybe_in 128 unsigned) (λ invoke. map_in (reject_of invoke) (coded_in 129 143)) at r.invoke one r two
    (some_invoke-begins r.invoke at two held (reason-other r.kind r.code some))
    (map-ends (reject_of r.invoke) (coded_in 129 143) next (record { number = r.kind; code = r.code }) two
    (ends_of (coded_in 129 143) next _ two (reason-writes next r.kind r.code some few))))

-- ---- initiates

some_integer-begins : (tag : ℕ) (v : Option ℤ) (at : ℕ) (rest : List ℕ) → eqb tag tag ≡ true → IfSome v (FitsSigned w64) → has_tag tag rest ≡ false → (maybe_in tag integer).begins at (some_integer_octets tag v ++ rest) (taken v (at + length (some_integer_octets tag v)) rest)
some_integer-begins tag None at rest same held other =
    let end : at ≡ at + 0 = omega arith in
    subst (λ (n : ℕ). (maybe_in tag integer).begins at rest (taken None n rest)) end (maybe-none tag integer at rest other)
some_integer-begins tag (Some z) at rest same held other =
    let octets = written tag (integer_octets z) in
    maybe-some tag integer at z (octets ++ rest) rest (at + length octets) same (integer-writes tag z at held rest)

version-spelled : (at : ℕ) → integer.spells at (pos 1) (1 ∷ [])
unfolding integer
version-spelled at = ((omega arith, omega arith), refl)

raw-spelled : (at : ℕ) (octets : List ℕ) → raw.spells at octets octets
unfolding raw
raw-spelled at octets = refl

initiate_detail-spelled : (at : ℕ) → initiate_detail.spells at (pos 1) initiate_detail_octets
unfolding initiate_detail initiate_detail_octets
initiate_detail-spelled at =
    let parameters : List ℕ = 5 ∷ 225 ∷ 0 ∷ [] in
    let services : List ℕ = 3 ∷ 110 ∷ 28 ∷ 0 ∷ 0 ∷ 0 ∷ 0 ∷ 0 ∷ 0 ∷ 0 ∷ 1 ∷ 16 ∷ [] in
    let one : List ℕ = written 128 (1 ∷ []) in
    let two : List ℕ = written 129 parameters in
    let three : List ℕ = written 130 services in
    let skips = is_other 0 255 [] in
    let next = at + length one in
    let last = next + length two in
    all-spelled _ at (pos 1) (one ++ (two ++ three))
    (then-ends (part_in 128 integer) (λ version. then_in (part_in 129 raw) (λ p. then_in (part_in 130 raw) (λ s. map_in (λ u. version) (pass_in skips)))) at (pos 1) one (pos 1) (two ++ three)
    (part-writes 128 integer at (pos 1) (1 ∷ []) (omega arith) (version-spelled _))
    (then-ends (part_in 129 raw) (λ p. then_in (part_in 130 raw) (λ s. map_in (λ u. pos 1) (pass_in skips))) next parameters two (pos 1) three
    (part-writes 129 raw next parameters parameters (omega arith) (raw-spelled _ parameters))
    (skipped-ends (part_in 130 raw) (λ s. pos 1) skips last services three
    (ends_of (part_in 130 raw) last services three (part-writes 130 raw last services services (omega arith) (raw-spelled _ services))))))

detail-few : length initiate_detail_octets < 2 ^ 32
unfolding initiate_detail_octets length_octets
detail-few = omega arith

last-writes : (at : ℕ) → Writes (part_in 164 initiate_detail) at (pos 1) last_octets
unfolding last_octets
last-writes at = part-writes 164 initiate_detail at (pos 1) initiate_detail_octets detail-few (initiate_detail-spelled _)

last-other : has_tag 131 last_octets ≡ false
unfolding last_octets
last-other = refl

with_version : (o : Initiate) → o.version ≡ pos 1 → initiate_of o.detail o.calling o.called o.nesting (pos 1) ≡ o
with_version o e = ap (λ v. initiate_of o.detail o.calling o.called o.nesting v) (sym e)

-- what is written for parameters is the parameters
pub initiate-spelled : (at : ℕ) (o : Initiate) → o.version ≡ pos 1 → IsHeldInitiate o → initiate.spells at o (initiate_octets o)
unfolding initiate initiate_octets later_octets
initiate-spelled at o version held =
    let a = some_integer_octets 128 o.detail in
    let b = written 129 (integer_octets o.calling) in
    let c = written 130 (integer_octets o.called) in
    let d = some_integer_octets 131 o.nesting in
    let p = at + length a in
    let q = p + length b in
    let r = q + length c in
    let s = r + length d in
    let g = map_in (initiate_of o.detail o.calling o.called o.nesting) (part_in 164 initiate_detail) in
    all-spelled _ at o (a ++ (b ++ (c ++ (d ++ last_octets))))
    (before-ends (maybe_in 128 integer) _ at o.detail a o (b ++ (c ++ (d ++ last_octets)))
    (some_integer-begins 128 o.detail at (b ++ (c ++ (d ++ last_octets))) refl held.detail refl)
    (then-ends (part_in 129 integer) _ p o.calling b o (c ++ (d ++ last_octets)) (integer-writes 129 o.calling p held.calling)
    (then-ends (part_in 130 integer) _ q o.called c o (d ++ last_octets) (integer-writes 130 o.called q held.called)
    (before-ends (maybe_in 131 integer) _ r o.nesting d o last_octets
    (some_integer-begins 131 o.nesting r last_octets refl held.nesting last-other)
    (subst (λ (i : Initiate). Ends g s i last_octets) (with_version o version)
    (map-ends (initiate_of o.detail o.calling o.called o.nesting) (part_in 164 initiate_detail) s (pos 1) last_octets
    (ends_of (part_in 164 initiate_detail) s (pos 1) last_octets (last-writes s))))))))

-- ---- who answers

pub identify_request-spelled : (at : ℕ) → identify_request.spells at tt []
unfolding identify_request fixed
identify_request-spelled at = refl

vendor-spelled : (at : ℕ) → visible.spells at (67 ∷ 69 ∷ 78 ∷ 84 ∷ 82 ∷ 69 ∷ []) (67 ∷ 69 ∷ 78 ∷ 84 ∷ 82 ∷ 69 ∷ [])
unfolding visible
vendor-spelled at = ((omega arith, refl), refl)

model-spelled : (at : ℕ) → visible.spells at (84 ∷ 65 ∷ 83 ∷ 69 ∷ 50 ∷ []) (84 ∷ 65 ∷ 83 ∷ 69 ∷ 50 ∷ [])
unfolding visible
model-spelled at = ((omega arith, refl), refl)

revision-spelled : (at : ℕ) → visible.spells at (49 ∷ []) (49 ∷ [])
unfolding visible
revision-spelled at = ((omega arith, refl), refl)

no_syntaxes : (at : ℕ) → some_syntaxes.begins at [] (taken tt at [])
unfolding some_syntaxes map_in
no_syntaxes at = (taken None at [], maybe-none 163 raw at [] refl, refl)

-- what is written of who answers is read
pub identify_response-spelled : (at : ℕ) → identify_response.spells at tt identify_response_octets
unfolding identify_response identify_response_octets then_in
identify_response-spelled at =
    let vendor = 67 ∷ 69 ∷ 78 ∷ 84 ∷ 82 ∷ 69 ∷ [] in
    let model = 84 ∷ 65 ∷ 83 ∷ 69 ∷ 50 ∷ [] in
    let revision = 49 ∷ [] in
    let one = written 128 vendor in
    let two = written 129 model in
    let three = written 130 revision in
    let next = at + length one in
    let last = next + length two in
    let end = last + length three in
    all-spelled _ at tt (one ++ (two ++ three))
    (then-ends (part_in 128 visible) (λ v. then_in (part_in 129 visible) (λ m. then_in (part_in 130 visible) (λ r. some_syntaxes))) at vendor one tt (two ++ three)
    (part-writes 128 visible at vendor vendor (omega arith) (vendor-spelled _))
    (then-ends (part_in 129 visible) (λ m. then_in (part_in 130 visible) (λ r. some_syntaxes)) next model two tt three
    (part-writes 129 visible next model model (omega arith) (model-spelled _)) (
      taken revision end [],
      ends_of (part_in 130 visible) last revision three (part-writes 130 visible last revision revision (omega arith) (revision-spelled _)),
      no_syntaxes end,
    )))
