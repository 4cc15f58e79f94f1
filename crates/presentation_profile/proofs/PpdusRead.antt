-- Reading PPDUs is exact.
use Rattle.std.proofs.Common.{◌≡◌, ◌+◌, ◌↔◌, ℕ, Bool, true, false, Option, List, [], ◌∷◌, length}
use Rattle.std.proofs.Common.{Result, Ok, Err, refl, sym, ap, subst, ◌∙◌, inl, inr}
use Rattle.std.proofs.lemmas.Bool.{false≢true, eqb-true, cases_Bool}
use Rattle.ber_values.specs.declared.fault.BerFault.{BerFault}
use Rattle.ber_values.specs.Reading.{Taken, IsReading}
use Rattle.ber_values.specs.Runs.{BeginsPassed, TakesRun, BreaksRun, elements_octets}
use Rattle.ber_values.proofs.Runs.{pass-reads_run}
use Rattle.ber_values.specs.Parts.{Contents, IsContentsGrammar}
use Rattle.ber_values.specs.Grammars.{Grammar, IsGrammar, taken, branch_in, has_tag}
use Rattle.ber_values.specs.Passing.{is_other}
use Rattle.ber_values.proofs.Reading.{IsReading-then, IsReading-as}
use Rattle.ber_values.specs.Leaves.{selector, oid, octet}
use Rattle.ber_values.proofs.Grammars.{gives_reads, then_reads, map_reads, branch_reads, pass_reads, whole_reads, part_reads, choose_reads, maybe_reads, all_reads, where_reads, as_reads}
use Rattle.ber_values.proofs.Lists.{list_reads}
use Rattle.ber_values.proofs.Leaves.{selector_contents, oid_contents, octet_contents, fixed_contents}
use Rattle.presentation_profile.specs.Offers.{offers}
use Rattle.presentation_profile.specs.Others.{others, after_others, before_others, selector_element}
use Rattle.ber_values.specs.Externals.{external}
use Rattle.ber_values.proofs.Externals.{external_contents}
use Rattle.presentation_profile.specs.declared.expected.Expected.{Expected}
use Rattle.presentation_profile.specs.Expecting.{connect_id, accept_id, carry_id, are_judged}
use Rattle.presentation_profile.specs.UserData.{user_data}
use Rattle.presentation_profile.specs.Results.{result_contents, one_result, may_be, any_results, from_place, begin_then_in, accepting_results, results}
use Rattle.presentation_profile.specs.Ppdus.{connect_named, connect_of, connect_selectors, connect, accept_named, accept_of, accept, has_results, parameters, mode, set_up_contents, set_up, carry_of, ppdu}
use Rattle.presentation_profile.specs.Ppdus.{is_between, HasResultsFirst, come_to_results, case_in}
use Rattle.presentation_profile.proofs.OffersRead.{offers_read}

others_read : (named : List ℕ) → IsGrammar (others named)
unfolding others
others_read named = pass_reads (is_other 128 191 named)

after_read : {X : Type 0} (named : List ℕ) (g : Grammar X) → IsGrammar g → IsGrammar (after_others named g)
unfolding after_others
after_read named g one = then_reads _ _ (others_read named) (λ u. one)

before_read : {X : Type 0} (named : List ℕ) (g : Grammar X) → IsGrammar g → IsGrammar (before_others named g)
unfolding before_others
before_read named g one = then_reads _ _ one (λ x. map_reads _ _ (others_read named))

selector_reads : (tag : ℕ) → IsGrammar (selector_element tag)
unfolding selector_element
selector_reads tag = choose_reads tag selector _ selector_contents (gives_reads _)

pub user_data_reads : (wanted : Option ℕ) → IsGrammar (user_data wanted)
unfolding user_data
user_data_reads wanted =
    part_reads 97 _ (all_reads _ (part_reads 48 (external wanted) (external_contents wanted)))

result_reads : (accepting : Bool) → IsGrammar (one_result accepting)
unfolding one_result result_contents
result_reads accepting =
    part_reads 48 _ (all_reads _
    (then_reads _ _ (part_reads 128 _ (where_reads (may_be accepting) octet octet_contents)) (λ result.
    then_reads _ _ (maybe_reads 129 oid oid_contents) (λ name.
    map_reads (λ u. result) _ (pass_reads (is_other 0 255 []))))))

any_read : IsContentsGrammar any_results
any_read = list_reads 0 (one_result false) (result_reads false)

first_reads : {X Y : Type 0} (g : Grammar X) (next : X → Contents Y) → IsGrammar g → ((x : X) → IsContentsGrammar (next x)) → IsContentsGrammar (begin_then_in g next)
unfolding begin_then_in
first_reads {X} {Y} g next one two head octets =
    IsReading-then (Taken X) Y (g.begins head.body octets) (g.fault head.body octets) (g.reading head.body octets) (λ t y. (next t.value).spells t.next y t.rest) (λ t f. (next t.value).fault (from_place head t.next) t.rest f) (λ t. (next t.value).reading (from_place head t.next) t.rest)
    (one head.body octets) (λ t s. two t.value (from_place head t.next) t.rest)

accepting_read : IsContentsGrammar accepting_results
unfolding accepting_results
accepting_read =
    first_reads (one_result true) _ (result_reads true) (λ one.
    first_reads (one_result true) _ (result_reads true) (λ two.
    as_reads (λ others. one ∷ two ∷ others) any_results any_read))

pub results_read : (accepting : Bool) → IsGrammar (results accepting)
unfolding results
results_read accepting = branch_reads (λ octets. accepting) _ _ (part_reads 165 _ accepting_read) (part_reads 165 _ any_read)

selectors_read : IsGrammar connect_selectors
unfolding connect_selectors
selectors_read =
    after_read connect_named _ (then_reads _ _ (selector_reads 129) (λ calling.
    after_read connect_named _ (selector_reads 130)))

connect_reads : (e : Expected) → IsGrammar (connect e)
unfolding connect
connect_reads e =
    then_reads _ _ selectors_read (λ called.
    then_reads _ _ (after_read connect_named offers offers_read) (λ contexts.
    map_reads (connect_of called contexts) _
    (after_read connect_named _ (before_read connect_named (user_data (connect_id e contexts)) (user_data_reads (connect_id e contexts))))))

accept_reads : (e : Expected) → IsGrammar (accept e)
unfolding accept
accept_reads e =
    then_reads _ _ (after_read accept_named _ (selector_reads 131)) (λ called.
    then_reads _ _ (after_read accept_named _ (results_read (are_judged e))) (λ found.
    map_reads (accept_of called found) _
    (after_read accept_named _ (before_read accept_named (user_data (accept_id e)) (user_data_reads (accept_id e))))))

-- the test tells what it says of the octets, whichever way they are passed over
test_from : (octets : List ℕ) (read : Result (Taken (Unit {0})) BerFault)
    → IsReading (Taken (Unit {0})) (TakesRun is_between 0 octets) (BreaksRun is_between 0 octets)
    read
    → come_to_results read ≡ true → HasResultsFirst octets
test_from octets (Err f) one e = absurd (false≢true e)
test_from octets (Ok t) one e =
    let run = one.found t refl in
    let tagged = tag_first t.rest e in
    (run.0, tagged.0, subst (BeginsPassed is_between octets run.0) tagged.1 run.1.0)
  where
    tag_first : (rest : List ℕ) → has_tag 165 rest ≡ true
        → (after : List ℕ) × (rest ≡ 165 ∷ after)
    tag_first [] e = absurd (false≢true e)
    tag_first (first ∷ after) e = (after, ap (λ (x : ℕ). x ∷ after) (eqb-true first 165 e))

-- the test tells whether there are results
pub results-decided : (octets : List ℕ) → (has_results octets ≡ true) ↔ HasResultsFirst octets
unfolding others
results-decided octets = (
  test_from octets ((others (164 ∷ 165 ∷ [])).reading 0 octets)
      (pass-reads_run is_between 0 octets),
  λ h. ap come_to_results ((pass-reads_run is_between 0 octets).only
      (taken tt (0 + length (elements_octets h.0)) (165 ∷ h.1)) (h.0, (h.2, refl), refl)),
)

case_reads : {X : Type 0} (Holds : List ℕ → Type 0) (test : List ℕ → Bool) (one other : Grammar X)
    → ((octets : List ℕ) → (test octets ≡ true) ↔ Holds octets) → IsGrammar one → IsGrammar other
    → IsGrammar (case_in Holds test one other)
unfolding branch_in
case_reads {X} Holds test one other decides a b at octets =
    let d = decides octets in
    let fails : (Holds octets → ⊥) → test octets ≡ false =
    λ n. elim (cases_Bool (test octets)) [ inl t ↦ absurd (n (d.0 t)) | inr f ↦ f ] in
    let refutes : test octets ≡ false → Holds octets → ⊥ = λ f h. false≢true (sym f ∙ d.1 h) in
    IsReading-as (Taken X) ((branch_in test one other).begins at octets)
    ((case_in Holds test one other).begins at octets)
    ((branch_in test one other).fault at octets) ((case_in Holds test one other).fault at octets)
    ((case_in Holds test one other).reading at octets)
    (λ t h. elim h [ inl x ↦ inl (d.0 x.0, x.1) | inr y ↦ inr (refutes y.0, y.1) ])
    (λ t h. elim h [ inl x ↦ inl (d.1 x.0, x.1) | inr y ↦ inr (fails y.0, y.1) ])
    (λ f h. elim h [ inl x ↦ inl (d.0 x.0, x.1) | inr y ↦ inr (refutes y.0, y.1) ])
    (λ f h. elim h [ inl x ↦ inl (d.1 x.0, x.1) | inr y ↦ inr (fails y.0, y.1) ])
    (branch_reads test one other a b at octets)

parameters_read : (e : Expected) → IsGrammar (parameters e)
unfolding parameters
parameters_read e = part_reads 162 _ (all_reads _
    (case_reads HasResultsFirst has_results (accept e) (connect e) results-decided (accept_reads e)
    (connect_reads e)))

mode_reads : IsGrammar mode
unfolding mode
mode_reads = part_reads 160 _ (all_reads _ (part_reads 128 _ (fixed_contents (1 ∷ []))))

set_up_reads : (e : Expected) → IsGrammar (set_up e)
unfolding set_up set_up_contents
set_up_reads e =
    part_reads 49 _ (all_reads _ (branch_reads (has_tag 160) _ _
    (then_reads _ _ mode_reads (λ u. parameters_read e))
    (then_reads _ _ (parameters_read e) (λ p. map_reads (λ u. p) _ mode_reads))))

pub ppdu_reads : (e : Expected) → IsGrammar (ppdu e)
unfolding ppdu
ppdu_reads e = whole_reads _ (branch_reads (has_tag 97) _ (set_up e) (map_reads carry_of (user_data (carry_id e)) (user_data_reads (carry_id e))) (set_up_reads e))
