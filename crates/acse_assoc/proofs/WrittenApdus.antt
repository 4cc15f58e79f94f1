-- What is written is read back.
use Rattle.std.proofs.Common.{◌≡◌, ℕ, suc, ◌+◌, ◌<◌, ◌≤◌, ◌^◌, true, false, eqb, List, []}
use Rattle.std.proofs.Common.{◌∷◌, ◌++◌, length, pos, Option, Some, None, Ok, refl, sym}
use Rattle.std.proofs.Common.{ap, subst, ◌∙◌, inl, inr, ◌⊎◌, append-nil, arith}
use Rattle.std.specs.Prelude.{nat_le, option_map}
use Rattle.std.proofs.lemmas.List.{length-append}
use Rattle.ber_values.specs.declared.external.External.{External}
use Rattle.ber_values.specs.Oid.{IsOid}
use Rattle.ber_values.specs.Tags.{tag_with, tag_in}
use Rattle.ber_values.specs.Writing.{written, integer_octets, length_octets, last_span}
use Rattle.ber_values.specs.Externals.{external_of, is_wanted, external, external_octets}
use Rattle.ber_values.specs.Grammars.{taken, gives, then_in, map_in, branch_in, by_length}
use Rattle.ber_values.specs.Passing.{skip}
use Rattle.ber_values.specs.Parts.{Contents, part_in, maybe_in, contents_as, contents_where, all_in}
use Rattle.ber_values.specs.Parts.{whole_in}
use Rattle.ber_values.specs.Leaves.{oid, raw, unsigned_within}
use Rattle.ber_values.proofs.Grammars.{part-written, choose-written, choose-other}
use Rattle.ber_values.proofs.Capped.{length-written, part_size-most}
use Rattle.ber_values.proofs.WrittenParts.{ends_of, part-writes}
use Rattle.ber_values.proofs.Externals.{external-spelled, integer-few}
use Rattle.ber_values.proofs.Externals.{unsigned_spelled}
use Rattle.ber_values.proofs.Written.{skip-written}
use Rattle.ber_values.proofs.Tags.{tag_reads}
use Rattle.std.proofs.lemmas.Bool.{le-leb, ne_eqb, cases_Bool}
use Rattle.acse_assoc.specs.declared.expected.Expected.{Expected}
use Rattle.acse_assoc.specs.declared.request.AssociateRequest.{AssociateRequest}
use Rattle.acse_assoc.specs.declared.apdu.Apdu.{Apdu}
use Rattle.acse_assoc.specs.declared.apdu.Apdu.TheVariants.{Aarq, Aare, Rlrq, Rlre, Abrt}
use Rattle.ber_values.specs.declared.lengths.TheConstants.{MOST_BODY}
use Rattle.acse_assoc.specs.declared.response.AssociateResponse.{AssociateResponse}
use Rattle.acse_assoc.specs.Rising.{least_after}
use Rattle.acse_assoc.specs.Rising.{by_tag, rising_within, rising_in, named_in, perhaps_in, attempt}
use Rattle.acse_assoc.specs.Users.{user_information}
use Rattle.acse_assoc.specs.Requests.{one_oid, context_name, titled, calling_title}
use Rattle.acse_assoc.specs.Requests.{user_last, aarq_of, request}
use Rattle.acse_assoc.specs.Apdus.{one_apdu, apdu}
use Rattle.acse_assoc.specs.Writing.{user_information_octets, title_octets, aarq_contents, aarq_octets}
use Rattle.acse_assoc.specs.Responses.{context_passed, largest_result, result_number, result_next}
use Rattle.acse_assoc.specs.Responses.{user_of_result, some_user_last, aare_of, response}
use Rattle.acse_assoc.specs.Writing.{mms_context, aare_result_octets, diagnosed, diagnostic}
use Rattle.acse_assoc.specs.Writing.{some_user_octets, aare_contents, HasUser, IsSmall, IsOfId}
use Rattle.acse_assoc.specs.Writing.{some_moved, IsKeptTitle, apdu_octets, short_octets}
use Rattle.acse_assoc.specs.Writing.{apdu_as_written, IsWritableApdu, IsKeptApdu, IsExpectedApdu}
use Rattle.acse_assoc.specs.Writing.{aare_octets}
use Rattle.acse_assoc.proofs.RisingReads.{rising_reads, rising_within_reads}
use Rattle.acse_assoc.proofs.Sizes.{context_len}

-- an element at the end of its container
last-written : {X : Type 0} (tag : ℕ) (c : Contents X) (at : ℕ) (x : X) (contents : List ℕ)
    → length contents < 2 ^ 32
    → c.spells (at + 1 + length (length_octets (length contents))) x contents
    → (part_in tag c).begins at (written tag contents)
    (taken x (at + length (written tag contents)) [])
last-written tag c at x contents few spelled =
    ends_of (part_in tag c) at x (written tag contents) (part-writes tag c at x contents few spelled)

-- ---- lengths

-- how much longer an element is than its contents
written-few : (tag : ℕ) (contents : List ℕ) → length contents < 2 ^ 32
    → length (written tag contents) ≤ length contents + 6
written-few tag contents few =
    omega (arith, length-written tag contents, part_size-most (length contents))

-- ---- elements that aren't passed over

-- nothing is passed over where the next element is the one that is wanted, or a later one
rising_stops : (number least at : ℕ) (octets : List ℕ)
    → (rising_in number least).reading at octets ≡ Ok (taken least at octets)
    → (rising_in number least).begins at octets (taken least at octets)
rising_stops number least at octets e = (rising_reads number least at octets).found _ e

before_context : (at : ℕ) (rest : List ℕ)
    → (rising_in 1 0).reading at (161 ∷ rest) ≡ Ok (taken 0 at (161 ∷ rest))
unfolding rising_in rising_within by_length by_tag branch_in gives tag_in
before_context at rest = refl

before_title : (at : ℕ) (rest : List ℕ)
    → (rising_in 6 2).reading at (166 ∷ rest) ≡ Ok (taken 2 at (166 ∷ rest))
unfolding rising_in rising_within by_length by_tag branch_in gives tag_in
before_title at rest = refl

no_title : (at : ℕ) (rest : List ℕ)
    → (rising_in 6 2).reading at (190 ∷ rest) ≡ Ok (taken 2 at (190 ∷ rest))
unfolding rising_in rising_within by_length by_tag branch_in gives tag_in
no_title at rest = refl

before_user : (least at : ℕ) (rest : List ℕ)
    → (least ≡ 2) ⊎ (least ≡ 7)
    → (rising_in 30 least).reading at (190 ∷ rest) ≡ Ok (taken least at (190 ∷ rest))
unfolding rising_in rising_within by_length by_tag branch_in gives tag_in
before_user least at rest (inl e) = subst (λ (n : ℕ). (rising_in 30 n).reading at (190 ∷ rest) ≡ Ok (taken n at (190 ∷ rest))) (sym e) refl
before_user least at rest (inr e) = subst (λ (n : ℕ). (rising_in 30 n).reading at (190 ∷ rest) ≡ Ok (taken n at (190 ∷ rest))) (sym e) refl

at_end : (number least at : ℕ) → (rising_in number least).reading at [] ≡ Ok (taken least at [])
unfolding rising_in rising_within by_length gives
at_end number least at = refl

-- ---- names

oid_spelled : (at : ℕ) (name : List ℕ) → IsOid name → oid.spells at name name
unfolding oid
oid_spelled at name named = (named, refl)

one_oid_spelled : (at : ℕ) (name : List ℕ) → IsOid name → one_oid.spells at name (written 6 name)
unfolding one_oid all_in
one_oid_spelled at name named = (
  taken name (at + length (written 6 name)) [],
  last-written 6 oid at name name (omega (arith, named.1)) (oid_spelled _ name named),
  (refl, refl),
)

-- ---- user information

-- the last octets of contents are those of the whole element
last_in : (at from size : ℕ) (tag : ℕ) (contents body : List ℕ)
    → from ≡ at + 1 + length (length_octets (length contents))
    → external_of size (last_span (from + length contents) body)
    ≡ external_of size (last_span (at + length (written tag contents)) body)
last_in at from size tag contents body e =
    ap (λ (n : ℕ). external_of size (last_span n body))
    (let same : from + length contents ≡ at + length (written tag contents) =
    omega (arith, e, length-append (length_octets (length contents)) contents) in same)

external_few : (id : ℕ) (body : List ℕ) → id < 2 ^ 32 → length body ≤ MOST_BODY
    → length (external_octets id body) ≤ length body + 20
external_few id body small few = omega (
  arith,
  few,
  integer-few id (omega (arith, small)),
  length-append (written 2 (integer_octets (pos id))) (written 160 body),
  written-few 2 (integer_octets (pos id)) (omega (arith, integer-few id (omega (arith, small)))),
  written-few 160 body (omega (arith, few)),
)

user_spelled : (expected : Option ℕ) (id : ℕ) (body : List ℕ) (at : ℕ) → id < 2 ^ 32
    → length body ≤ MOST_BODY → is_wanted expected id ≡ true
    → (user_information expected).spells at
    (external_of id (last_span (at + length (written 40 (external_octets id body))) body))
    (written 40 (external_octets id body))
unfolding user_information all_in
user_spelled expected id body at small few wanted =
    let value = external_octets id body in
    let from = at + 1 + length (length_octets (length value)) in (
      taken (external_of id (last_span (from + length value) body))
          (at + length (written 40 value)) [],
      last-written 40 (external expected) at _ value (omega (arith, external_few id body small few, few))
          (external-spelled expected id body from small (omega (arith, few)) wanted),
      (refl, sym (last_in at from id 40 value body refl)),
    )

user_part_begins : (expected : Option ℕ) (id : ℕ) (body : List ℕ) (at : ℕ) → id < 2 ^ 32
    → length body ≤ MOST_BODY → is_wanted expected id ≡ true
    → (part_in 190 (user_information expected)).begins at (user_information_octets id body)
    (taken (external_of id (last_span (at + length (user_information_octets id body)) body))
    (at + length (user_information_octets id body)) [])
user_part_begins expected id body at small few wanted =
    let inner = written 40 (external_octets id body) in
    let from = at + 1 + length (length_octets (length inner)) in
    let size : length inner ≤ length body + 26 = omega (
      arith,
      external_few id body small few,
      written-few 40 (external_octets id body)
          (omega (arith, external_few id body small few, few)),
    ) in
    subst (λ (u : External). (part_in 190 (user_information expected)).begins at
    (user_information_octets id body) (taken u (at + length (user_information_octets id body)) []))
    (last_in at from id 190 inner body refl)
    (last-written 190 (user_information expected) at _ inner (omega (arith, size, few))
    (user_spelled expected id body from small few wanted))

user_begins : (expected : Option ℕ) (least id : ℕ) (body : List ℕ) (at : ℕ) → (nat_le least 30 ≡ true)
    → id < 2 ^ 32 → length body ≤ MOST_BODY → is_wanted expected id ≡ true
    → (named_in 30 (user_information expected) least).begins at (user_information_octets id body)
    (taken (external_of id (last_span (at + length (user_information_octets id body)) body))
    (at + length (user_information_octets id body)) [])
unfolding named_in branch_in
user_begins expected least id body at le small few wanted =
    inl (le, user_part_begins expected id body at small few wanted)

user_last_begins : (e : Expected) (from id : ℕ) (body : List ℕ) (at : ℕ)
    → (from ≡ 2) ⊎ (from ≡ 7) → id < 2 ^ 32 → length body ≤ MOST_BODY
    → is_wanted e.request_id id ≡ true → (user_last e from).begins at (user_information_octets id body)
    (taken (external_of id (last_span (at + length (user_information_octets id body)) body))
    (at + length (user_information_octets id body)) [])
unfolding user_last then_in map_in
user_last_begins e from id body at which small few wanted =
    let end = at + length (user_information_octets id body) in
    let user = external_of id (last_span end body) in (
      taken from at (user_information_octets id body),
      rising_stops 30 from at (user_information_octets id body) (before_user from at _ which),
      (
        taken user end [],
        user_begins e.request_id from id body at (below from which) small few wanted,
        (taken 31 end [], rising_stops _ 31 end [] (at_end _ 31 end), refl),
      ),
    )
  where
    below : (from : ℕ) → (from ≡ 2) ⊎ (from ≡ 7) → nat_le from 30 ≡ true
    below from (inl e) = subst (λ (n : ℕ). nat_le n 30 ≡ true) (sym e) refl
    below from (inr e) = subst (λ (n : ℕ). nat_le n 30 ≡ true) (sym e) refl

-- ---- requests

context_begins : (at : ℕ) (context rest : List ℕ) → IsOid context
    → context_name.begins at (written 161 (written 6 context) ++ rest)
    (taken context (at + length (written 161 (written 6 context))) rest)
unfolding context_name then_in named_in branch_in
context_begins at context rest named = (
  taken 0 at (written 161 (written 6 context) ++ rest),
  rising_stops 1 0 at _ (before_context at _),
  inl (
    refl,
    part-written 161 one_oid at context (written 6 context) rest
        (omega (arith, written-few 6 context (omega (arith, named.1)), named.1))
        (one_oid_spelled _ context named),
  ),
)

title_begins : (at : ℕ) (title : Option (List ℕ)) (rest : List ℕ) → IsKeptTitle title
    → calling_title.begins at (title_octets title ++ (190 ∷ rest))
    (taken (titled 2 (option_map Some title)) (at + length (title_octets title)) (190 ∷ rest))
unfolding calling_title then_in map_in perhaps_in maybe_in branch_in gives attempt
title_begins at None rest named = (
  taken 2 at (190 ∷ rest),
  rising_stops 6 2 at _ (no_title at rest),
  (
    taken None at (190 ∷ rest),
    inl (refl, inr (refl, refl)),
    ap (λ (n : ℕ). taken (titled 2 None) n (190 ∷ rest)) (let same : at + 0 ≡ at = omega arith in same),
  ),
)
title_begins at (Some title) rest named =
    let octets = written 166 (written 6 title) ++ (190 ∷ rest) in
    let next = at + length (written 166 (written 6 title)) in (
      taken 2 at octets,
      rising_stops 6 2 at octets (before_title at _),
      (
        taken (Some (Some title)) next (190 ∷ rest),
        inl (
          refl,
          inl (
            refl,
            (
              taken (Some title) next (190 ∷ rest),
              part-written 166 (attempt one_oid) at (Some title) (written 6 title) (190 ∷ rest)
                  (omega (arith, written-few 6 title (omega (arith, named.1)), named.1))
                  (inl (title, one_oid_spelled _ title named, refl)),
              refl,
            ),
          ),
        ),
        refl,
      ),
    )

title_same : (title : Option (List ℕ)) → (titled 2 (option_map Some title)).title ≡ title
title_same None = refl
title_same (Some title) = refl

title_least : (title : Option (List ℕ)) → ((titled 2 (option_map Some title)).least ≡ 2)
    ⊎ ((titled 2 (option_map Some title)).least ≡ 7)
title_least None = inl refl
title_least (Some title) = inr refl

request_spelled : (e : Expected) (context : List ℕ) (title : Option (List ℕ)) (id : ℕ)
    (body : List ℕ) (at : ℕ) (front last whole : List ℕ) → IsOid context → IsKeptTitle title → id < 2 ^ 32
    → length body ≤ MOST_BODY → is_wanted e.request_id id ≡ true
    → front ≡ written 161 (written 6 context) → last ≡ user_information_octets id body
    → whole ≡ front ++ (title_octets title ++ last)
    → (request e).spells at (record {
      context = context;
      title = title;
      user = external_of id (last_span (at + length whole) body);
    }) whole
unfolding request all_in then_in map_in
request_spelled e context title id body at front last whole named titled_is small few wanted fronts lasts wholes =
    let next = at + length front in
    let then_at = next + length (title_octets title) in
    let end = then_at + length last in
    let t = titled 2 (option_map Some title) in
    let ends : end ≡ at + length whole = omega (
      arith,
      ap length wholes,
      length-append front (title_octets title ++ last),
      length-append (title_octets title) last,
    ) in
    let made : AssociateRequest = aarq_of context t (external_of id (last_span end body)) in (
      taken made end [],
      (
        taken context next (title_octets title ++ last),
        subst (λ (os : List ℕ). context_name.begins at os (taken context next (title_octets title ++ last)))
            (sym wholes) (context_at fronts),
        (
          taken t then_at last,
          title_at lasts,
          (
            taken (external_of id (last_span end body)) end [],
            last_at lasts,
            refl,
          ),
        ),
      ),
      (
        refl,
        ap (λ (n : ℕ). record {
          context = context;
          title = title;
          user = external_of id (last_span n body);
        }) (sym ends)
            ∙ ap (λ (o : Option (List ℕ)). record {
              context = context;
              title = o;
              user = external_of id (last_span end body);
            }) (sym (title_same title)),
      ),
    )
  where
    context_at : front ≡ written 161 (written 6 context)
        → context_name.begins at (front ++ (title_octets title ++ last))
        (taken context (at + length front) (title_octets title ++ last))
    context_at f = subst (λ (os : List ℕ). context_name.begins at (os ++ (title_octets title ++ last))
        (taken context (at + length os) (title_octets title ++ last))) (sym f)
        (context_begins at context (title_octets title ++ last) named)

    title_at : last ≡ user_information_octets id body
        → calling_title.begins (at + length front) (title_octets title ++ last)
        (taken (titled 2 (option_map Some title)) (at + length front + length (title_octets title)) last)
    title_at l = subst (λ (os : List ℕ). calling_title.begins (at + length front) (title_octets title ++ os)
        (taken (titled 2 (option_map Some title)) (at + length front + length (title_octets title)) os))
        (sym l) (title_begins (at + length front) title _ titled_is)

    last_at : last ≡ user_information_octets id body
        → (user_last e (titled 2 (option_map Some title)).least).begins
        (at + length front + length (title_octets title)) last
        (taken (external_of id (last_span (at + length front + length (title_octets title) + length last) body))
        (at + length front + length (title_octets title) + length last) [])
    last_at l = subst (λ (os : List ℕ). (user_last e (titled 2 (option_map Some title)).least).begins
        (at + length front + length (title_octets title)) os
        (taken (external_of id (last_span (at + length front + length (title_octets title) + length os) body))
        (at + length front + length (title_octets title) + length os) [])) (sym l)
        (user_last_begins e _ id body (at + length front + length (title_octets title)) (title_least title)
        small few wanted)

-- ---- responses

context_passes : (at : ℕ) (rest : List ℕ)
    → context_passed.begins at (written 161 (written 6 mms_context) ++ rest)
    (taken 2 (at + length (written 161 (written 6 mms_context))) rest)
unfolding context_passed then_in map_in perhaps_in maybe_in branch_in
context_passes at rest =
    let octets = written 161 (written 6 mms_context) ++ rest in
    let next = at + length (written 161 (written 6 mms_context)) in (
      taken 0 at octets,
      rising_stops 1 0 at octets (before_context at _),
      (
        taken (Some mms_context) next rest,
        inl (
          refl,
          inl (
            refl,
            (
              taken mms_context next rest,
              part-written 161 one_oid at mms_context (written 6 mms_context) rest
                  (omega (arith, written-few 6 mms_context (omega arith)))
                  (one_oid_spelled _ mms_context (omega arith, omega arith)),
              refl,
            ),
          ),
        ),
        refl,
      ),
    )

before_result : (at : ℕ) (rest : List ℕ)
    → (rising_in 2 2).reading at (162 ∷ rest) ≡ Ok (taken 2 at (162 ∷ rest))
unfolding rising_in rising_within by_length by_tag branch_in gives tag_in
before_result at rest = refl

one_result_spelled : (e : Expected) (at result : ℕ) → result < 256 → result ≤ largest_result e
    → (result_number e).spells at result (written 2 (integer_octets (pos result)))
unfolding result_number all_in unsigned_within contents_where
one_result_spelled e at result small most =
    let octets = integer_octets (pos result) in (
      taken result (at + length (written 2 octets)) [],
      last-written 2 (unsigned_within 0 (largest_result e)) at result octets
          (omega (arith, integer-few result (omega (arith, small)))) (
            result,
            unsigned_spelled _ result (omega (arith, small)),
            (
              rw (le-leb 0 result (omega arith), le-leb result (largest_result e) most) refl,
              refl,
            ),
          ),
      (refl, refl),
    )

result_begins : (e : Expected) (at result : ℕ) (rest : List ℕ) → result < 256
    → result ≤ largest_result e → (result_next e 2).begins at (aare_result_octets result ++ rest)
    (taken result (at + length (aare_result_octets result)) rest)
unfolding result_next then_in named_in branch_in
result_begins e at result rest small most =
    let octets = integer_octets (pos result) in
    let size : length octets ≤ 8 = integer-few result (omega (arith, small)) in (
      taken 2 at (aare_result_octets result ++ rest),
      rising_stops 2 2 at _ (before_result at _),
      inl (
        refl,
        part-written 162 (result_number e) at result (written 2 octets) rest
            (omega (arith, size, written-few 2 octets (omega (arith, size))))
            (one_result_spelled e _ result small most),
      ),
    )

-- ---- the diagnostic is passed over

some_first : (number least room at : ℕ) (rest : List ℕ)
    → (rising_within 30 (suc room) 4).reading at (190 ∷ rest) ≡ Ok (taken 4 at (190 ∷ rest))
unfolding rising_within by_tag branch_in gives tag_in
some_first number least room at rest = refl

none_first : (room at : ℕ) → (rising_within 30 (suc room) 4).reading at [] ≡ Ok (taken 4 at [])
unfolding rising_within branch_in gives
none_first room at = refl

after_diagnostic : (room at : ℕ) (user : Option External) (body : List ℕ)
    → (rising_within 30 (suc room) 4).begins at (some_user_octets user body)
    (taken 4 at (some_user_octets user body))
after_diagnostic room at None body = (rising_within_reads 30 (suc room) 4 at []).found _ (none_first room at)
after_diagnostic room at (Some user) body = (rising_within_reads 30 (suc room) 4 at (user_information_octets user.id body)).found _ (some_first 30 4 room at _)

diagnostic_is : (result : ℕ) → diagnostic result ≡ written 163 (161 ∷ 3 ∷ 2 ∷ 1 ∷ diagnosed result ∷ [])
unfolding length_octets
diagnostic_is result = refl

diagnostic_tag : (at : ℕ) (rest : List ℕ)
    → tag_in at (163 ∷ rest) ≡ Ok (taken (tag_with 163 3 false) (at + 1) rest)
unfolding tag_in
diagnostic_tag at rest = refl

diagnostic_passes : (at result : ℕ) (user : Option External) (body : List ℕ)
    → (rising_in 30 3).begins at (diagnostic result ++ some_user_octets user body)
    (taken 4 (at + length (diagnostic result)) (some_user_octets user body))
unfolding rising_in by_length rising_within by_tag branch_in then_in
diagnostic_passes at result user body =
    let contents = 161 ∷ 3 ∷ 2 ∷ 1 ∷ diagnosed result ∷ [] in
    let rest = some_user_octets user body in
    let octets = diagnostic result ++ rest in
    let next = at + length (diagnostic result) in
    inl (
      refl,
      (
        taken (tag_with 163 3 false) (at + 1) _,
        (tag_reads at octets).found _ (diagnostic_tag at _),
        inl (
          refl,
          (
            taken tt next rest,
            subst (λ (os : List ℕ). skip.begins at (os ++ rest) (taken tt (at + length os) rest))
                (sym (diagnostic_is result)) (skip-written 163 at contents rest (omega arith) (λ e. omega (arith, e))),
            after_diagnostic (length (contents ++ rest)) next user body,
          ),
        ),
      ),
    )

-- the user information that goes with a result
user_of_result_begins : (e : Expected) (result : ℕ) (user : Option External) (body : List ℕ)
    (at : ℕ) → HasUser result user → IsSmall user → length body ≤ MOST_BODY → IsOfId e.response_id user
    → (user_of_result e result 4).begins at (some_user_octets user body)
    (taken (some_moved (last_span (at + length (some_user_octets user body)) body) user)
    (at + length (some_user_octets user body)) [])
unfolding user_of_result perhaps_in maybe_in map_in branch_in gives
user_of_result_begins e result None body at has small few wanted =
    inr (
      ne_eqb result 0 has,
      inl (
        refl,
        inr (
          refl,
          ap (λ (n : ℕ). taken None n []) (let same : at + 0 ≡ at = omega arith in same),
        ),
      ),
    )
user_of_result_begins e result (Some user) body at has small few wanted =
    let end = at + length (user_information_octets user.id body) in
    let moved_user = external_of user.id (last_span end body) in
    let part = user_part_begins e.response_id user.id body at small few wanted in
    elim (cases_Bool (eqb result 0)) [
      | inl is ↦ inl (
        is,
        (
          taken moved_user end [],
          user_begins e.response_id 4 user.id body at refl small few wanted,
          refl,
        ),
      )
      | inr other ↦ inr (other, inl (refl, inl (refl, (taken moved_user end [], part, refl))))
    ]

-- what is left after the result
some_user_last_begins : (e : Expected) (result : ℕ) (user : Option External) (body : List ℕ)
    (at : ℕ) → HasUser result user → IsSmall user → length body ≤ MOST_BODY → IsOfId e.response_id user
    → (some_user_last e result).begins at (diagnostic result ++ some_user_octets user body)
    (taken (some_moved (last_span (at + length (diagnostic result)
    + length (some_user_octets user body)) body) user)
    (at + length (diagnostic result) + length (some_user_octets user body)) [])
unfolding some_user_last then_in map_in
some_user_last_begins e result user body at has small few wanted =
    let next = at + length (diagnostic result) in
    let end = next + length (some_user_octets user body) in
    let found = some_moved (last_span end body) user in (
      taken 4 next (some_user_octets user body),
      diagnostic_passes at result user body,
      (
        taken found end [],
        user_of_result_begins e result user body next has small few wanted,
        (taken (least_after 30 4 found) end [], rising_stops _ _ end [] (at_end _ _ end), refl),
      ),
    )

response_spelled : (e : Expected) (result : ℕ) (user : Option External) (body : List ℕ) (at : ℕ)
    → result < 256 → result ≤ largest_result e → HasUser result user → IsSmall user
    → length body ≤ MOST_BODY → IsOfId e.response_id user
    → (response e).spells at (aare_of result (some_moved (last_span
    (at + length (aare_contents (aare_of result user) body)) body) user))
    (aare_contents (aare_of result user) body)
unfolding response all_in then_in map_in
response_spelled e result user body at byte most has small few wanted =
    let context = written 161 (written 6 mms_context) in
    let answer = aare_result_octets result in
    let last = diagnostic result ++ some_user_octets user body in
    let next = at + length context in
    let then_at = next + length answer in
    let end = then_at + length (diagnostic result) + length (some_user_octets user body) in
    let whole = context ++ (answer ++ last) in
    let ends : end ≡ at + length whole = omega (
      arith,
      length-append context (answer ++ last),
      length-append answer last,
      length-append (diagnostic result) (some_user_octets user body),
    ) in
    let found = some_moved (last_span end body) user in (
      taken (aare_of result found) end [],
      (
        taken 2 next (answer ++ last),
        context_passes at (answer ++ last),
        (
          taken result then_at last,
          result_begins e next result last byte most,
          (
            taken found end [],
            some_user_last_begins e result user body then_at has small few wanted,
            refl,
          ),
        ),
      ),
      (
        refl,
        ap (λ (n : ℕ). aare_of result (some_moved (last_span n body) user)) (sym ends),
      ),
    )

-- ---- APDUs

user_few : (id : ℕ) (body : List ℕ) → id < 2 ^ 32 → length body ≤ MOST_BODY
    → length (user_information_octets id body) ≤ length body + 32
user_few id body small few =
    let first = external_few id body small few in
    let second = written-few 40 (external_octets id body) (omega (arith, first, few)) in
    omega (
      arith,
      first,
      second,
      few,
      written-few 190 (written 40 (external_octets id body)) (omega (arith, first, second, few)),
    )

title_few : (title : Option (List ℕ)) → IsKeptTitle title → length (title_octets title) ≤ 44
title_few None named = omega arith
title_few (Some title) named =
    let first = written-few 6 title (omega (arith, named.1)) in
    omega (
      arith,
      named.1,
      first,
      written-few 166 (written 6 title) (omega (arith, named.1, first)),
    )

request_few : (r : AssociateRequest) (body : List ℕ) → IsOid r.context → IsKeptTitle r.title
    → r.user.id < 2 ^ 32 → length body ≤ MOST_BODY
    → length (aarq_contents r body) ≤ length body + 200
request_few r body named titled_is small few =
    let first = written-few 6 r.context (omega (arith, named.1)) in
    let second = written-few 161 (written 6 r.context) (omega (arith, named.1, first)) in
    omega (
      arith,
      named.1,
      first,
      second,
      title_few r.title titled_is,
      user_few r.user.id body small few,
      length-append (written 161 (written 6 r.context))
          (title_octets r.title ++ user_information_octets r.user.id body),
      length-append (title_octets r.title) (user_information_octets r.user.id body),
    )

some_user_few : (user : Option External) (body : List ℕ) → IsSmall user → length body ≤ MOST_BODY
    → length (some_user_octets user body) ≤ length body + 32
some_user_few None body small few = omega arith
some_user_few (Some user) body small few = user_few user.id body small few

response_few : (result : ℕ) (user : Option External) (body : List ℕ) → result < 256 → IsSmall user
    → length body ≤ MOST_BODY
    → length (aare_contents (aare_of result user) body) ≤ length body + 100
response_few result user body byte small few =
    let size = integer-few result (omega (arith, byte)) in
    let first = written-few 2 (integer_octets (pos result)) (omega (arith, size)) in
    let second = written-few 162 (written 2 (integer_octets (pos result)))
    (omega (arith, size, first)) in
    let last = diagnostic result ++ some_user_octets user body in
    omega (
      arith,
      context_len,
      size,
      first,
      second,
      some_user_few user body small few,
      length-append (written 161 (written 6 mms_context)) (aare_result_octets result ++ last),
      length-append (aare_result_octets result) last,
      length-append (diagnostic result) (some_user_octets user body),
    )

-- an element at the end is the whole
whole_begins : (e : Expected) (at : ℕ) (v : Apdu) (octets : List ℕ) (end : ℕ)
    → (one_apdu e).begins at (octets ++ []) (taken v end [])
    → (apdu e).begins at octets (taken v end [])
unfolding apdu whole_in
whole_begins e at v octets end begins = (
  taken v end [],
  subst (λ (os : List ℕ). (one_apdu e).begins at os (taken v end [])) (append-nil octets) begins,
  (refl, refl),
)

request_begins : (e : Expected) (r : AssociateRequest) (body : List ℕ) (at : ℕ) → IsKeptApdu (Aarq r)
    → is_wanted e.request_id r.user.id ≡ true → length body ≤ MOST_BODY
    → (one_apdu e).begins at (aarq_octets r body ++ [])
    (taken (apdu_as_written at (Aarq r) body) (at + length (aarq_octets r body)) [])
unfolding one_apdu contents_as
request_begins e r body at held wanted few =
    let contents = aarq_contents r body in
    let from = at + 1 + length (length_octets (length contents)) in
    let ends : from + length contents ≡ at + length (aarq_octets r body) =
    omega (arith, length-append (length_octets (length contents)) contents) in
    choose-written 96 _ _ at _ contents []
    (omega (arith, request_few r body held.0 held.1.0 held.1.1 few, few)) (
      record {
        context = r.context;
        title = r.title;
        user = external_of r.user.id (last_span (from + length contents) body);
      },
      request_spelled e r.context r.title r.user.id body from _ _ contents held.0 held.1.0 held.1.1
          few wanted refl refl refl,
      ap (λ (n : ℕ). Aarq (record {
        context = r.context;
        title = r.title;
        user = external_of r.user.id (last_span n body);
      })) (sym ends),
    )

response_begins : (e : Expected) (r : AssociateResponse) (body : List ℕ) (at : ℕ)
    → HasUser r.result r.user → IsKeptApdu (Aare r) → r.result ≤ largest_result e
    → IsOfId e.response_id r.user → length body ≤ MOST_BODY
    → (one_apdu e).begins at (aare_octets r body ++ [])
    (taken (apdu_as_written at (Aare r) body) (at + length (aare_octets r body)) [])
unfolding one_apdu contents_as
response_begins e r body at has held most wanted few =
    let contents = aare_contents r body in
    let from = at + 1 + length (length_octets (length contents)) in
    let ends : from + length contents ≡ at + length (aare_octets r body) =
    omega (arith, length-append (length_octets (length contents)) contents) in
    choose-other 96 _ _ at _ _ refl (choose-written 97 _ _ at _ contents []
    (omega (arith, response_few r.result r.user body held.0 held.1 few, few)) (
      aare_of r.result (some_moved (last_span (from + length contents) body) r.user),
      response_spelled e r.result r.user body from held.0 most has held.1 few wanted,
      ap (λ (n : ℕ). Aare (aare_of r.result (some_moved (last_span n body) r.user)))
          (sym ends),
    ))

short_few : length {A = ℕ} (128 ∷ 1 ∷ 0 ∷ []) < 2 ^ 32
short_few = omega arith

release_begins : (e : Expected) (at : ℕ)
    → (one_apdu e).begins at (short_octets 98 ++ []) (taken Rlrq (at + 5) [])
unfolding one_apdu contents_as raw length_octets
release_begins e at =
    choose-other 96 _ _ at _ _ refl (choose-other 97 _ _ at _ _ refl
    (choose-written 98 _ _ at Rlrq (128 ∷ 1 ∷ 0 ∷ []) [] short_few (_, refl, refl)))

released_begins : (e : Expected) (at : ℕ)
    → (one_apdu e).begins at (short_octets 99 ++ []) (taken Rlre (at + 5) [])
unfolding one_apdu contents_as raw length_octets
released_begins e at =
    choose-other 96 _ _ at _ _ refl (choose-other 97 _ _ at _ _ refl
    (choose-other 98 _ _ at _ _ refl
    (choose-written 99 _ _ at Rlre (128 ∷ 1 ∷ 0 ∷ []) [] short_few (_, refl, refl))))

abort_begins : (e : Expected) (at : ℕ)
    → (one_apdu e).begins at (short_octets 100 ++ []) (taken Abrt (at + 5) [])
unfolding one_apdu contents_as raw length_octets
abort_begins e at =
    choose-other 96 _ _ at _ _ refl (choose-other 97 _ _ at _ _ refl
    (choose-other 98 _ _ at _ _ refl (choose-other 99 _ _ at _ _ refl
    (part-written 100 _ at Abrt (128 ∷ 1 ∷ 0 ∷ []) [] short_few (_, refl, refl)))))

-- what is written for an APDU begins with it
pub apdu_begins : (e : Expected) (v : Apdu) (body : List ℕ) → IsWritableApdu v → IsKeptApdu v
    → IsExpectedApdu e v → length body ≤ MOST_BODY → (at : ℕ)
    → (apdu e).begins at (apdu_octets v body)
    (taken (apdu_as_written at v body) (at + length (apdu_octets v body)) [])
apdu_begins e (Aarq r) body writable held expected few at =
    whole_begins e at _ _ _ (request_begins e r body at held expected few)
apdu_begins e (Aare r) body writable held expected few at = whole_begins e at _ _ _
    (response_begins e r body at writable held expected.0 expected.1 few)
apdu_begins e Rlrq body writable held expected few at =
    whole_begins e at _ _ _ (release_begins e at)
apdu_begins e Rlre body writable held expected few at =
    whole_begins e at _ _ _ (released_begins e at)
apdu_begins e Abrt body writable held expected few at =
    whole_begins e at _ _ _ (abort_begins e at)
