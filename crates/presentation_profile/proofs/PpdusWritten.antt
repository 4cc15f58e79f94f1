-- What is written for a PPDU is read back as the same PPDU, with its body where that was written.
use Rattle.std.proofs.Common.{◌≡◌, ℕ, ◌+◌, ◌-◌, ◌≤◌, ◌<◌, ◌^◌, ◌%◌, ◌≢◌, true, false, Option, Some, None, List, [], ◌∷◌, ◌++◌, length, refl, sym, ap, subst, ◌∙◌, inl, inr, arith}
use Rattle.std.specs.List.{All}
use Rattle.std.proofs.lemmas.List.{length-append}
use Rattle.std.proofs.lemmas.Bool.{eq-eqb, false≢true}
use Rattle.ber_values.specs.Oid.{IsOid}
use Rattle.ber_values.specs.Writing.{written, length_octets, last_span}
use Rattle.ber_values.specs.Grammars.{taken, gives, then_in, map_in, branch_in, has_tag}
use Rattle.ber_values.specs.Passing.{skip, pass_in, is_other}
use Rattle.ber_values.specs.Parts.{part_in, choose_in}
use Rattle.ber_values.specs.Leaves.{selector, fixed}
use Rattle.ber_values.specs.Readers.{taken_whole}
use Rattle.ber_values.proofs.Capped.{short-sized, length-written, part_size-most}
use Rattle.ber_values.proofs.Passed.{PassedSoFar, passed-begin, passed-ends}
use Rattle.ber_values.proofs.WrittenParts.{Writes, Ends, ends_of, then-ends, map-ends, part-writes, all-spelled, whole-begins, none_passed, passed-written}
use Rattle.tpkt_cotp.specs.Selectors.{IsSelector, HasSelector}
use Rattle.ber_values.specs.declared.lengths.TheConstants.{MOST_BODY}
use Rattle.ber_values.specs.declared.external.External.{External}
use Rattle.ber_values.specs.Externals.{external_of, is_wanted}
use Rattle.presentation_profile.specs.declared.expected.Expected.{Expected}
use Rattle.presentation_profile.specs.Expecting.{connect_id, accept_id, carry_id, are_judged}
use Rattle.presentation_profile.specs.declared.offers.Offered.{Offered}
use Rattle.presentation_profile.specs.declared.offers.TheConstants.{MOST_OFFERS}
use Rattle.presentation_profile.specs.declared.ppdu.Ppdu.{Ppdu}
use Rattle.presentation_profile.specs.declared.ppdu.Ppdu.TheVariants.{Connect, Accept, Carry}
use Rattle.presentation_profile.specs.Offers.{offers}
use Rattle.presentation_profile.specs.Others.{others, after_others, before_others, selector_element}
use Rattle.presentation_profile.specs.UserData.{user_data}
use Rattle.presentation_profile.specs.Results.{results}
use Rattle.presentation_profile.specs.Ppdus.{connect_named, connect_selectors, connect, accept_named, accept, come_to_results, has_results, accept_or_connect, parameters, mode, set_up_contents, set_up, carry_of, ppdu}
use Rattle.presentation_profile.specs.Written.{offers_octets, user_octets, results_octets, selector_element_octets, calling_octets, connect_ppdu_octets, accept_ppdu_octets, mode_octets, set_up_octets, ppdu_octets, AreOffers, IsWritablePpdu, IsKeptPpdu, IsExpectedPpdu, AreAccepting, ppdu_as_written}
use Rattle.presentation_profile.proofs.PpdusRead.{results-decided}
use Rattle.presentation_profile.proofs.OffersWritten.{offers-writes, offers-few}
use Rattle.presentation_profile.proofs.Sizes.{calling-sized, mode-sized, connect-sized, accept-sized}
use Rattle.presentation_profile.proofs.UserWritten.{user-writes, results-write, results-few, user-few}

-- ---- selectors

none_other : (named : List ℕ) (at tag : ℕ) (octets : List ℕ) → is_other 128 191 named tag ≡ false → (others named).begins at (tag ∷ octets) (taken tt at (tag ∷ octets))
unfolding others
none_other named at tag octets e = none_passed (is_other 128 191 named) at (tag ∷ octets) e

none_last : (named : List ℕ) (at : ℕ) → (others named).begins at [] (taken tt at [])
unfolding others
none_last named at = none_passed (is_other 128 191 named) at [] refl

selector-spelled : (at : ℕ) (octets : List ℕ) → IsSelector octets → selector.spells at (Some octets) octets
unfolding selector
selector-spelled at [] is = absurd (omega (arith, is.0))
selector-spelled at (first ∷ octets) is = ((omega arith, is.1), refl)

selector-writes : (tag at : ℕ) (octets : List ℕ) → IsSelector octets → Writes (selector_element tag) at (Some octets) (written tag octets)
unfolding selector_element choose_in branch_in
selector-writes tag at octets is rest = inl (eq-eqb tag tag refl, part-writes tag selector at (Some octets) octets (omega (arith, is.1)) (selector-spelled _ octets is) rest)

no_selector : (tag at first : ℕ) (rest : List ℕ) → has_tag tag (first ∷ rest) ≡ false → (selector_element tag).begins at (first ∷ rest) (taken None at (first ∷ rest))
unfolding selector_element choose_in branch_in gives
no_selector tag at first rest e = inr (e, refl)

-- ---- a connect

calling-writes : (at : ℕ) → Writes (selector_element 129) at (Some (0 ∷ 0 ∷ 0 ∷ 1 ∷ [])) calling_octets
unfolding calling_octets
calling-writes at = selector-writes 129 at (0 ∷ 0 ∷ 0 ∷ 1 ∷ []) (omega arith, omega arith)

-- the called selector, where offers follow
called-begins : (called : Option (List ℕ)) (at : ℕ) (after : List ℕ) → HasSelector called → (after_others connect_named (selector_element 130)).begins at (selector_element_octets 130 called ++ (164 ∷ after)) (taken called (at + length (selector_element_octets 130 called)) (164 ∷ after))
unfolding after_others then_in
called-begins None at after held = (taken tt at (164 ∷ after), none_other connect_named at 164 after refl, subst (λ (k : ℕ). (selector_element 130).begins at (164 ∷ after) (taken None k (164 ∷ after))) (let none : at ≡ at + 0 = omega arith in none) (no_selector 130 at 164 after refl))
called-begins (Some octets) at after held = (taken tt at (written 130 octets ++ (164 ∷ after)), none_other connect_named at 130 _ refl, selector-writes 130 at octets held (164 ∷ after))

selectors-begin : (called : Option (List ℕ)) (at : ℕ) (after : List ℕ) → HasSelector called → connect_selectors.begins at (calling_octets ++ (selector_element_octets 130 called ++ (164 ∷ after))) (taken called (at + length calling_octets + length (selector_element_octets 130 called)) (164 ∷ after))
unfolding connect_selectors after_others then_in calling_octets
selectors-begin called at after held =
    let rest = selector_element_octets 130 called ++ (164 ∷ after) in (
      taken tt at (calling_octets ++ rest),
      none_other connect_named at 129 _ refl,
      (
        taken (Some (0 ∷ 0 ∷ 0 ∷ 1 ∷ [])) (at + length calling_octets) rest,
        calling-writes at rest,
        called-begins called (at + length calling_octets) after held,
      ),
    )

-- user data with a tag of its own end
last-begins : (wanted : Option ℕ) (named : List ℕ) (at id : ℕ) (body : List ℕ) → is_other 128 191 named 97 ≡ false → id < 2 ^ 32 → length body ≤ MOST_BODY → is_wanted wanted id ≡ true → Ends (after_others named (before_others named (user_data wanted))) at (external_of id (last_span (at + length (user_octets id body)) body)) (user_octets id body)
unfolding after_others before_others then_in map_in user_octets
last-begins wanted named at id body other few size right =
    let user = external_of id (last_span (at + length (user_octets id body)) body) in
    let end = at + length (user_octets id body) in (
      taken tt at (user_octets id body),
      none_other named at 97 _ other,
      (
        taken user end [],
        ends_of (user_data wanted) at user (user_octets id body) (user-writes wanted at id body few size right),
        (taken tt end [], none_last named end, refl),
      ),
    )

connect-begins : (e : Expected) (called : Option (List ℕ)) (contexts : List Offered) (at id : ℕ) (body : List ℕ) → HasSelector called → AreOffers contexts → All (λ o. IsOid o.abstract_name) contexts → id < 2 ^ 32 → length body ≤ MOST_BODY → is_wanted (connect_id e contexts) id ≡ true
    → (place : ℕ) → place ≡ at + length calling_octets + length (selector_element_octets 130 called) + length (offers_octets contexts)
    → (connect e).begins at (connect_ppdu_octets called contexts id body) (taken (Connect called contexts id (last_span (place + length (user_octets id body)) body)) (place + length (user_octets id body)) [])
unfolding connect connect_ppdu_octets then_in map_in after_others offers_octets
connect-begins e called contexts at id body held are named few size right place is =
    let user = user_octets id body in
    let second = at + length calling_octets + length (selector_element_octets 130 called) in
    let value : External = external_of id (last_span (place + length user) body) in (
      taken called second (offers_octets contexts ++ user),
      selectors-begin called at _ held,
      (
        taken contexts place user,
        (taken tt second (offers_octets contexts ++ user), none_other connect_named second 164 _ refl, subst (λ (k : ℕ). offers.begins second (offers_octets contexts ++ user) (taken contexts k user)) (sym is) (offers-writes second contexts are named user)),
        (taken value (place + length user) [], last-begins (connect_id e contexts) connect_named place id body refl few size right, refl),
      ),
    )

connect-ends : (e : Expected) (called : Option (List ℕ)) (contexts : List Offered) (at id : ℕ) (body : List ℕ) → HasSelector called → AreOffers contexts → All (λ o. IsOid o.abstract_name) contexts → id < 2 ^ 32 → length body ≤ MOST_BODY → is_wanted (connect_id e contexts) id ≡ true
    → Ends (connect e) at (Connect called contexts id (last_span (at + length (connect_ppdu_octets called contexts id body)) body)) (connect_ppdu_octets called contexts id body)
connect-ends e called contexts at id body held are named few size right =
    let user = user_octets id body in
    let whole = connect_ppdu_octets called contexts id body in
    let place = at + length calling_octets + length (selector_element_octets 130 called) + length (offers_octets contexts) in
    let ends : place + length user ≡ at + length whole = omega (arith, connect-sized called contexts id (length (selector_element_octets 130 called)) (length (offers_octets contexts)) (length user) body refl refl refl, calling-sized) in
    subst (λ (k : ℕ). (connect e).begins at whole (taken (Connect called contexts id (last_span k body)) k [])) ends
    (connect-begins e called contexts at id body held are named few size right place refl)

-- ---- an accept

responding-begins : (called : Option (List ℕ)) (at : ℕ) (after : List ℕ) → HasSelector called → (after_others accept_named (selector_element 131)).begins at (selector_element_octets 131 called ++ (165 ∷ after)) (taken called (at + length (selector_element_octets 131 called)) (165 ∷ after))
unfolding after_others then_in
responding-begins None at after held = (taken tt at (165 ∷ after), none_other accept_named at 165 after refl, subst (λ (k : ℕ). (selector_element 131).begins at (165 ∷ after) (taken None k (165 ∷ after))) (let none : at ≡ at + 0 = omega arith in none) (no_selector 131 at 165 after refl))
responding-begins (Some octets) at after held = (taken tt at (written 131 octets ++ (165 ∷ after)), none_other accept_named at 131 _ refl, selector-writes 131 at octets held (165 ∷ after))

accept-begins : (e : Expected) (called : Option (List ℕ)) (found : List ℕ) (at id : ℕ) (body : List ℕ) → HasSelector called → length found ≤ MOST_OFFERS → id < 2 ^ 32 → length body ≤ MOST_BODY → is_wanted (accept_id e) id ≡ true → (are_judged e ≡ true → AreAccepting found)
    → (place : ℕ) → place ≡ at + length (selector_element_octets 131 called) + length (results_octets found)
    → (accept e).begins at (accept_ppdu_octets called found id body) (taken (Accept called found id (last_span (place + length (user_octets id body)) body)) (place + length (user_octets id body)) [])
unfolding accept accept_ppdu_octets then_in map_in after_others results_octets
accept-begins e called found at id body held most few size right ok place is =
    let user = user_octets id body in
    let second = at + length (selector_element_octets 131 called) in
    let value : External = external_of id (last_span (place + length user) body) in (
      taken called second (results_octets found ++ user),
      responding-begins called at _ held,
      (
        taken found place user,
        (taken tt second (results_octets found ++ user), none_other accept_named second 165 _ refl, subst (λ (k : ℕ). (results (are_judged e)).begins second (results_octets found ++ user) (taken found k user)) (sym is) (results-write (are_judged e) second found most ok user)),
        (taken value (place + length user) [], last-begins (accept_id e) accept_named place id body refl few size right, refl),
      ),
    )

accept-ends : (e : Expected) (called : Option (List ℕ)) (found : List ℕ) (at id : ℕ) (body : List ℕ) → HasSelector called → length found ≤ MOST_OFFERS → id < 2 ^ 32 → length body ≤ MOST_BODY → is_wanted (accept_id e) id ≡ true → (are_judged e ≡ true → AreAccepting found)
    → Ends (accept e) at (Accept called found id (last_span (at + length (accept_ppdu_octets called found id body)) body)) (accept_ppdu_octets called found id body)
accept-ends e called found at id body held most few size right ok =
    let user = user_octets id body in
    let whole = accept_ppdu_octets called found id body in
    let place = at + length (selector_element_octets 131 called) + length (results_octets found) in
    let ends : place + length user ≡ at + length whole = omega (arith, accept-sized called found id (length (selector_element_octets 131 called)) (length (results_octets found)) (length user) body refl refl refl) in
    subst (λ (k : ℕ). (accept e).begins at whole (taken (Accept called found id (last_span k body)) k [])) ends
    (accept-begins e called found at id body held most few size right ok place refl)

-- ---- which of the two

ahead : (whole : List ℕ) (at first : ℕ) (after : List ℕ) → is_other 128 191 (164 ∷ 165 ∷ []) first ≡ false → PassedSoFar skip (is_other 128 191 (164 ∷ 165 ∷ [])) 0 whole at (first ∷ after) → has_results whole ≡ has_tag 165 (first ∷ after)
unfolding others pass_in
ahead whole at first after other s =
    ap come_to_results (passed-ends skip (is_other 128 191 (164 ∷ 165 ∷ [])) 0 whole at (first ∷ after) other s)
    ∙ ap (λ (os : List ℕ). has_tag 165 os) (sym s.left)

-- a selector is passed over
passed-selector : (whole : List ℕ) (tag at : ℕ) (called : Option (List ℕ)) (after : List ℕ) → HasSelector called → tag % 32 ≢ 31 → is_other 128 191 (164 ∷ 165 ∷ []) tag ≡ true → PassedSoFar skip (is_other 128 191 (164 ∷ 165 ∷ [])) 0 whole at (selector_element_octets tag called ++ after) → (next : ℕ) × PassedSoFar skip (is_other 128 191 (164 ∷ 165 ∷ [])) 0 whole next after
passed-selector whole tag at None after held single other s = (at, s)
passed-selector whole tag at (Some octets) after held single other s = (at + length (written tag octets), passed-written (is_other 128 191 (164 ∷ 165 ∷ [])) 0 whole tag at octets after (omega (arith, held.1)) single other s)

connect-first : (called : Option (List ℕ)) (contexts : List Offered) (id : ℕ) (body : List ℕ) → HasSelector called → length (connect_ppdu_octets called contexts id body) < 2 ^ 32 → has_results (connect_ppdu_octets called contexts id body) ≡ false
unfolding connect_ppdu_octets calling_octets offers_octets
connect-first called contexts id body held few =
    let whole = connect_ppdu_octets called contexts id body in
    let rest = offers_octets contexts ++ user_octets id body in
    let test = is_other 128 191 (164 ∷ 165 ∷ []) in
    let one = passed-written test 0 whole 129 0 (0 ∷ 0 ∷ 0 ∷ 1 ∷ []) (selector_element_octets 130 called ++ rest) (omega arith) (omega arith) refl (passed-begin skip test 0 whole (omega (arith, few))) in
    let two = passed-selector whole 130 _ called rest held (omega arith) refl one in
    ahead whole two.0 164 _ refl two.1

accept-first : (called : Option (List ℕ)) (found : List ℕ) (id : ℕ) (body : List ℕ) → HasSelector called → length (accept_ppdu_octets called found id body) < 2 ^ 32 → has_results (accept_ppdu_octets called found id body) ≡ true
unfolding accept_ppdu_octets results_octets
accept-first called found id body held few =
    let whole = accept_ppdu_octets called found id body in
    let rest = results_octets found ++ user_octets id body in
    let two = passed-selector whole 131 0 called rest held (omega arith) refl (passed-begin skip (is_other 128 191 (164 ∷ 165 ∷ [])) 0 whole (omega (arith, few))) in
    ahead whole two.0 165 _ refl two.1

-- ---- the whole

one-spelled : (at : ℕ) → (fixed (1 ∷ [])).spells at tt (1 ∷ [])
unfolding fixed
one-spelled at = refl

mode-writes : (at : ℕ) → Writes mode at tt mode_octets
unfolding mode mode_octets
mode-writes at =
    part-writes 160 _ at tt (written 128 (1 ∷ [])) (omega (arith, short-sized 128 (1 ∷ []) (omega arith)))
    (all-spelled (part_in 128 (fixed (1 ∷ []))) _ tt (written 128 (1 ∷ []))
    (ends_of (part_in 128 (fixed (1 ∷ []))) _ tt (written 128 (1 ∷ []))
    (part-writes 128 (fixed (1 ∷ [])) _ tt (1 ∷ []) (omega arith) (one-spelled _))))

-- where parameters begin behind the mode
parameters_place : ℕ → List ℕ → ℕ
parameters_place at contents =
    let last = written 162 contents in
    at + 1 + length (length_octets (length (mode_octets ++ last))) + length mode_octets + 1 + length (length_octets (length contents))

parameters_last : (at : ℕ) (contents : List ℕ) → parameters_place at contents + length contents ≡ at + length (set_up_octets contents)
unfolding parameters_place set_up_octets
parameters_last at contents =
    let last = written 162 contents in
    omega (arith, length-append (length_octets (length (mode_octets ++ last))) (mode_octets ++ last), length-append mode_octets last, length-append (length_octets (length contents)) contents)

set_up-writes : (e : Expected) (at : ℕ) (contents : List ℕ) (p : Ppdu) → length contents < 2 ^ 31 → Ends (accept_or_connect e) (parameters_place at contents) p contents → Writes (set_up e) at p (set_up_octets contents)
unfolding set_up set_up_octets set_up_contents parameters branch_in parameters_place mode_octets
set_up-writes e at contents p few done =
    let last = written 162 contents in
    let place = at + 1 + length (length_octets (length (mode_octets ++ last))) in
    part-writes 49 _ at p (mode_octets ++ last) (omega (arith, few, length-append mode_octets last, length-written 162 contents, part_size-most (length contents), mode-sized))
    (all-spelled _ place p (mode_octets ++ last)
    (inl (
      refl,
      then-ends mode (λ u. parameters e) place tt mode_octets p last (mode-writes place)
          (ends_of (parameters e) (place + length mode_octets) p last
          (part-writes 162 _ (place + length mode_octets) p contents (omega (arith, few)) (all-spelled (accept_or_connect e) _ p contents done))),
    )))

set_up-ends : (e : Expected) (at : ℕ) (contents : List ℕ) (p : Ppdu) → Writes (set_up e) at p (set_up_octets contents) → Ends (ppdu e) at p (set_up_octets contents)
unfolding ppdu branch_in set_up_octets
set_up-ends e at contents p w = whole-begins _ at p (set_up_octets contents) (inr (refl, ends_of (set_up e) at p (set_up_octets contents) w))

is_connect : (e : Expected) (at : ℕ) (contents : List ℕ) (p : Ppdu) → has_results contents ≡ false → Ends (connect e) at p contents → Ends (accept_or_connect e) at p contents
is_connect e at contents p first done = inr (λ h. false≢true (sym first ∙ (results-decided contents).1 h), done)

is_accept : (e : Expected) (at : ℕ) (contents : List ℕ) (p : Ppdu) → has_results contents ≡ true → Ends (accept e) at p contents → Ends (accept_or_connect e) at p contents
is_accept e at contents p first done = inl ((results-decided contents).0 first, done)

selector-few : (tag : ℕ) (called : Option (List ℕ)) → HasSelector called → length (selector_element_octets tag called) ≤ 34
selector-few tag None held = omega arith
selector-few tag (Some octets) held = omega (arith, held.1, short-sized tag octets (omega (arith, held.1)))

connect-whole : (e : Expected) (called : Option (List ℕ)) (contexts : List Offered) (at id : ℕ) (body : List ℕ) → HasSelector called → AreOffers contexts → All (λ o. IsOid o.abstract_name) contexts → id < 2 ^ 32 → length body ≤ MOST_BODY → is_wanted (connect_id e contexts) id ≡ true
    → Ends (ppdu e) at (Connect called contexts id (last_span (at + length (set_up_octets (connect_ppdu_octets called contexts id body))) body)) (set_up_octets (connect_ppdu_octets called contexts id body))
connect-whole e called contexts at id body held are named few size right =
    let contents = connect_ppdu_octets called contexts id body in
    let place = parameters_place at contents in
    let sized = connect-sized called contexts id (length (selector_element_octets 130 called)) (length (offers_octets contexts)) (length (user_octets id body)) body refl refl refl in
    let small : length contents < 2 ^ 31 = omega (arith, sized, selector-few 130 called held, offers-few contexts are named, user-few id body few size, size) in
    let first = connect-first called contexts id body held (omega (arith, small)) in
    set_up-ends e at contents (Connect called contexts id (last_span (at + length (set_up_octets contents)) body))
    (subst (λ (k : ℕ). Writes (set_up e) at (Connect called contexts id (last_span k body)) (set_up_octets contents)) (parameters_last at contents)
    (set_up-writes e at contents (Connect called contexts id (last_span (place + length contents) body)) small
    (is_connect e place contents (Connect called contexts id (last_span (place + length contents) body)) first (connect-ends e called contexts place id body held are named few size right))))

accept-whole : (e : Expected) (called : Option (List ℕ)) (found : List ℕ) (at id : ℕ) (body : List ℕ) → HasSelector called → length found ≤ MOST_OFFERS → id < 2 ^ 32 → length body ≤ MOST_BODY → is_wanted (accept_id e) id ≡ true → (are_judged e ≡ true → AreAccepting found)
    → Ends (ppdu e) at (Accept called found id (last_span (at + length (set_up_octets (accept_ppdu_octets called found id body))) body)) (set_up_octets (accept_ppdu_octets called found id body))
accept-whole e called found at id body held most few size right ok =
    let contents = accept_ppdu_octets called found id body in
    let place = parameters_place at contents in
    let sized = accept-sized called found id (length (selector_element_octets 131 called)) (length (results_octets found)) (length (user_octets id body)) body refl refl refl in
    let small : length contents < 2 ^ 31 = omega (arith, sized, selector-few 131 called held, results-few found most, user-few id body few size, size) in
    let first = accept-first called found id body held (omega (arith, small)) in
    set_up-ends e at contents (Accept called found id (last_span (at + length (set_up_octets contents)) body))
    (subst (λ (k : ℕ). Writes (set_up e) at (Accept called found id (last_span k body)) (set_up_octets contents)) (parameters_last at contents)
    (set_up-writes e at contents (Accept called found id (last_span (place + length contents) body)) small
    (is_accept e place contents (Accept called found id (last_span (place + length contents) body)) first (accept-ends e called found place id body held most few size right ok))))

carry-whole : (e : Expected) (at id : ℕ) (body : List ℕ) → id < 2 ^ 32 → length body ≤ MOST_BODY → is_wanted (carry_id e) id ≡ true → Ends (ppdu e) at (Carry id (last_span (at + length (user_octets id body)) body)) (user_octets id body)
unfolding ppdu branch_in user_octets
carry-whole e at id body few size right =
    let user = external_of id (last_span (at + length (user_octets id body)) body) in
    whole-begins _ at (Carry id (last_span (at + length (user_octets id body)) body)) (user_octets id body)
    (inl (refl, map-ends carry_of (user_data (carry_id e)) at user (user_octets id body) (ends_of (user_data (carry_id e)) at user (user_octets id body) (user-writes (carry_id e) at id body few size right))))

-- what is written for a PPDU is one, with the body at its end
pub ppdu-begins : (e : Expected) (p : Ppdu) (body : List ℕ) (at : ℕ) → IsWritablePpdu p → IsKeptPpdu p → IsExpectedPpdu e p → length body ≤ MOST_BODY → (ppdu e).begins at (ppdu_octets p body) (taken_whole at (ppdu_octets p body) (ppdu_as_written at p body))
ppdu-begins e (Connect called contexts id old) body at are held right size = connect-whole e called contexts at id body held.0 are held.1.0 held.1.1 size right
ppdu-begins e (Accept called found id old) body at most held right size = accept-whole e called found at id body held.0 most held.1 size right.0 right.1
ppdu-begins e (Carry id old) body at any held right size = carry-whole e at id body held size right
