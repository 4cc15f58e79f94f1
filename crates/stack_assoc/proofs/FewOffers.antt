-- A PPDU that was read offers at most sixteen contexts, with ids of 16 bits.
use Rattle.std.proofs.Common.{ℕ, ◌≤◌, Bool, List, [], length, Option}
use Rattle.std.proofs.Common.{leb, sym, subst, inl, inr}
use Rattle.std.specs.List.{All}
use Rattle.std.proofs.lemmas.Bool.{leb-true, and_parts}
use Rattle.ber_values.specs.Reading.{Taken}
use Rattle.ber_values.specs.Grammars.{Grammar, then_in, map_in, branch_in}
use Rattle.ber_values.specs.Parts.{part_in, whole_in, contents_where}
use Rattle.ber_values.specs.Lists.{count_in}
use Rattle.ber_values.specs.Leaves.{unsigned_within, oid}
use Rattle.ber_values.specs.Grammars.{has_tag}
use Rattle.ber_values.specs.Parts.{all_in}
use Rattle.ber_values.specs.declared.external.External.{External}
use Rattle.ber_values.proofs.Holding.{part-holds, map-holds, all-holds, list-holds}
use Rattle.presentation_profile.specs.declared.expected.Expected.{Expected}
use Rattle.presentation_profile.specs.declared.offers.Offered.{Offered}
use Rattle.presentation_profile.specs.declared.offers.TheConstants.{MOST_OFFERS, LARGEST_ID}
use Rattle.presentation_profile.specs.declared.ppdu.Ppdu.{Ppdu}
use Rattle.presentation_profile.specs.declared.ppdu.Ppdu.TheVariants as ppdus
use Rattle.presentation_profile.specs.Offers.{offered, offer_contents, offer, offers, transfers}
use Rattle.presentation_profile.specs.Others.{after_others, before_others, others, selector_element}
use Rattle.presentation_profile.specs.Results.{results}
use Rattle.presentation_profile.specs.UserData.{user_data}
use Rattle.presentation_profile.specs.Expecting.{connect_id, accept_id, carry_id, are_judged}
use Rattle.presentation_profile.specs.Ppdus.{connect, connect_of, accept, accept_of, parameters}
use Rattle.presentation_profile.specs.Ppdus.{set_up, set_up_contents, carry_of, ppdu, mode}
use Rattle.presentation_profile.specs.Ppdus.{accept_or_connect}
use Rattle.presentation_profile.specs.Ppdus.{connect_selectors, connect_named, accept_named}

pub then-holds : {X Y : Type 0} (P : Y → Type 0) (g : Grammar X) (next : X → Grammar Y) (at : ℕ)
    (os : List ℕ) (u : Taken Y)
    → ((t : Taken X) (v : Taken Y) → g.begins at os t → (next t.value).begins t.next t.rest v
    → P v.value) → (then_in g next).begins at os u → P u.value
unfolding then_in
then-holds P g next at os u each h = each h.0 u h.1 h.2

pub branch-holds : {X : Type 0} (P : X → Type 0) (test : List ℕ → Bool) (one other : Grammar X)
    (at : ℕ) (os : List ℕ) (t : Taken X) → (one.begins at os t → P t.value)
    → (other.begins at os t → P t.value) → (branch_in test one other).begins at os t → P t.value
unfolding branch_in
branch-holds P test one other at os t first second (inl h) = first h.1
branch-holds P test one other at os t first second (inr h) = second h.1

pub after-holds : {X : Type 0} (P : X → Type 0) (named : List ℕ) (g : Grammar X) (at : ℕ)
    (os : List ℕ) (t : Taken X) → ((at : ℕ) (os : List ℕ) (t : Taken X) → g.begins at os t → P t.value)
    → (after_others named g).begins at os t → P t.value
unfolding after_others
after-holds P named g at os t each h =
    then-holds P (others named) (λ u. g) at os t (λ u v first second. each u.next u.rest v second) h

-- ---- an offer

abbrev pub IsFew : ℕ → Type 0
IsFew n = n ≤ 65535

id_few : (place n : ℕ) (inner : List ℕ) → (unsigned_within 1 LARGEST_ID).spells place n inner
    → IsFew n
unfolding unsigned_within contents_where
id_few place n inner h =
    subst IsFew (sym h.2.1) (leb-true h.0 65535 (and_parts (leb 1 h.0) (leb h.0 65535) h.2.0).1)

abbrev pub HasFewId : Offered → Type 0
HasFewId o = IsFew o.id

offered_few : (id : Taken ℕ) → IsFew id.value → (at : ℕ) (os : List ℕ) (v : Taken Offered)
    → (then_in (part_in 6 oid) (λ name. map_in (offered id.value name) (part_in 48 transfers))).begins
    at os v → HasFewId v.value
offered_few id few at os v h = then-holds HasFewId (part_in 6 oid)
    (λ name. map_in (offered id.value name) (part_in 48 transfers)) at os v
    (λ name w first last. map-holds HasFewId (offered id.value name.value) (part_in 48 transfers)
    name.next name.rest w (λ ber third. few) last) h

offer_few : (at : ℕ) (os : List ℕ) (t : Taken Offered) → offer.begins at os t → HasFewId t.value
unfolding offer offer_contents
offer_few at os t h = part-holds HasFewId 48 offer_contents at os t contents h
  where
    inside : (at : ℕ) (os : List ℕ) (t : Taken Offered)
        → (then_in (part_in 2 (unsigned_within 1 LARGEST_ID)) (λ id.
        then_in (part_in 6 oid) (λ name. map_in (offered id name) (part_in 48 transfers)))).begins
        at os t → HasFewId t.value
    inside at os t b = then-holds HasFewId (part_in 2 (unsigned_within 1 LARGEST_ID))
        (λ id. then_in (part_in 6 oid) (λ name. map_in (offered id name) (part_in 48 transfers)))
        at os t (λ id v first rest. offered_few id
        (part-holds IsFew 2 (unsigned_within 1 LARGEST_ID) at os id id_few first)
        id.next id.rest v rest) b

    contents : (place : ℕ) (o : Offered) (inner : List ℕ) → offer_contents.spells place o inner
        → HasFewId o
    contents place o inner s = all-holds HasFewId
        (then_in (part_in 2 (unsigned_within 1 LARGEST_ID)) (λ id.
        then_in (part_in 6 oid) (λ name. map_in (offered id name) (part_in 48 transfers))))
        inside place o inner s

-- ---- offers

pub record AreFew (os : List Offered) : Type 0 where
  pub few : length os ≤ MOST_OFFERS
  pub ids : All HasFewId os

offers_few : (at : ℕ) (os : List ℕ) (t : Taken (List Offered)) → offers.begins at os t
    → AreFew t.value
unfolding offers count_in
offers_few at os t h = part-holds AreFew 164 (count_in 1 MOST_OFFERS offer) at os t counted h
  where
    counted : (place : ℕ) (xs : List Offered) (inner : List ℕ)
        → (count_in 1 MOST_OFFERS offer).spells place xs inner → AreFew xs
    counted place xs inner s = record {
      few = s.few;
      ids = list-holds HasFewId offer offer_few xs place inner s.end [] s.spelled;
    }

-- ---- a PPDU

abbrev pub IsFewPpdu : Ppdu → Type 0
IsFewPpdu (ppdus.Connect called contexts id body) = AreFew contexts
IsFewPpdu (ppdus.Accept called found id body) = Unit {0}
IsFewPpdu (ppdus.Carry id body) = Unit {0}

connect_few : (e : Expected) (at : ℕ) (os : List ℕ) (t : Taken Ppdu) → (connect e).begins at os t
    → IsFewPpdu t.value
unfolding connect
connect_few e at os t h = then-holds IsFewPpdu connect_selectors (behind e) at os t
    (λ called v first rest. then-holds IsFewPpdu (after_others connect_named offers)
    (last e called.value) called.next called.rest v (λ contexts w second third.
    map-holds IsFewPpdu (connect_of called.value contexts.value) (user e contexts.value)
    contexts.next contexts.rest w (λ user fourth. after-holds AreFew connect_named offers called.next
    called.rest contexts offers_few second) third) rest) h
  where
    user : (e : Expected) → List Offered → Grammar External
    user e contexts = after_others connect_named (before_others connect_named
        (user_data (connect_id e contexts)))

    last : (e : Expected) → Option (List ℕ) → List Offered → Grammar Ppdu
    last e called contexts = map_in (connect_of called contexts) (user e contexts)

    behind : (e : Expected) → Option (List ℕ) → Grammar Ppdu
    behind e called = then_in (after_others connect_named offers) (last e called)

accept_few : (e : Expected) (at : ℕ) (os : List ℕ) (t : Taken Ppdu) → (accept e).begins at os t
    → IsFewPpdu t.value
unfolding accept
accept_few e at os t h = then-holds IsFewPpdu (after_others accept_named (selector_element 131)) (behind e)
    at os t (λ called v first rest. then-holds IsFewPpdu (after_others accept_named
    (results (are_judged e))) (last e called.value) called.next called.rest v
    (λ found w second third. map-holds IsFewPpdu (accept_of called.value found.value) (user e)
    found.next found.rest w (λ user fourth. tt) third) rest) h
  where
    user : (e : Expected) → Grammar External
    user e = after_others accept_named (before_others accept_named (user_data (accept_id e)))

    last : (e : Expected) → Option (List ℕ) → List ℕ → Grammar Ppdu
    last e called found = map_in (accept_of called found) (user e)

    behind : (e : Expected) → Option (List ℕ) → Grammar Ppdu
    behind e called = then_in (after_others accept_named (results (are_judged e))) (last e called)

parameters_few : (e : Expected) (at : ℕ) (os : List ℕ) (t : Taken Ppdu)
    → (parameters e).begins at os t → IsFewPpdu t.value
unfolding parameters
parameters_few e at os t h = part-holds IsFewPpdu 162
    (all_in (accept_or_connect e)) at os t
    (λ place x inner s. all-holds IsFewPpdu (accept_or_connect e)
    (λ at os t b. elim b [ inl a ↦ accept_few e at os t a.1 | inr c ↦ connect_few e at os t c.1 ])
    place x inner s) h

set_up_few : (e : Expected) (at : ℕ) (os : List ℕ) (t : Taken Ppdu) → (set_up e).begins at os t
    → IsFewPpdu t.value
unfolding set_up set_up_contents
set_up_few e at os t h = part-holds IsFewPpdu 49 (set_up_contents e) at os t
    (λ place x inner s. all-holds IsFewPpdu (branch_in (has_tag 160) first second) each place x inner s) h
  where
    first : Grammar Ppdu
    first = then_in mode (λ u. parameters e)

    second : Grammar Ppdu
    second = then_in (parameters e) (λ p. map_in (λ u. p) mode)

    each : (at : ℕ) (os : List ℕ) (t : Taken Ppdu)
        → (branch_in (has_tag 160) first second).begins at os t → IsFewPpdu t.value
    each at os t b = branch-holds IsFewPpdu (has_tag 160) first second at os t
        (λ f. then-holds IsFewPpdu mode (λ u. parameters e) at os t
        (λ u v one two. parameters_few e u.next u.rest v two) f)
        (λ f. then-holds IsFewPpdu (parameters e) (λ p. map_in (λ u. p) mode) at os t
        (λ p v one two. map-holds IsFewPpdu (λ u. p.value) mode p.next p.rest v
        (λ m three. parameters_few e at os p one) two) f) b

pub ppdu_few : (e : Expected) (at : ℕ) (os : List ℕ) (t : Taken Ppdu) → (ppdu e).begins at os t
    → IsFewPpdu t.value
unfolding ppdu whole_in
ppdu_few e at os t h = subst (λ (u : Taken Ppdu). IsFewPpdu u.value) (sym h.2.1)
    (branch-holds IsFewPpdu (has_tag 97) (map_in carry_of (user_data (carry_id e))) (set_up e) at os
    h.0 (λ f. map-holds IsFewPpdu carry_of (user_data (carry_id e)) at os h.0 (λ user one. tt) f)
    (set_up_few e at os h.0) h.1)
