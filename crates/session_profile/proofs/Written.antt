-- What is written is spelled.
use Rattle.std.proofs.Common.{◌≡◌, ℕ, ◌+◌, ◌-◌, ◌/◌, ◌%◌, ◌^◌, ◌<◌, ◌≤◌, true, false, ltb, List, [], ◌∷◌, ◌++◌, length, Option, Some, None, Result, Ok, refl, ap, subst, ◌∙◌, arith, append_assoc, append-nil}
use Rattle.std.proofs.lemmas.Bool.{cond_both, ltb-true, le-leb}
use Rattle.std.proofs.lemmas.List.{length-append}
use Rattle.ber_values.specs.declared.fault.BerFault.{BerFault}
use Rattle.ber_values.specs.Faults.{◌>>=◌}
use Rattle.ber_values.specs.declared.lengths.TheConstants.{MOST_BODY}
use Rattle.ber_values.specs.declared.fault.Span.{Span}
use Rattle.ber_values.specs.Grammars.{taken}
use Rattle.ber_values.specs.Leaves.{selector_of}
use Rattle.ber_values.specs.Reading.{Taken}
use Rattle.session_profile.specs.declared.spdu.Spdu.{Spdu}
use Rattle.session_profile.specs.declared.spdu.Spdu.TheVariants.{Connect, Accept, Refuse, Carry, Finish, Disconnect, Abort, AbortAccept}
use Rattle.session_profile.specs.Lengths.{SpellsSessionLength, session_length_in}
use Rattle.session_profile.specs.Parameters.{Parameter, BeginsParameter, parameter_in}
use Rattle.session_profile.specs.Rules.{SpellsAll, next_in, rest_in, all_parameters_in}
use Rattle.session_profile.specs.Connections.{Connection, Seen, called_of, may_follow, judged, with_one, item, connection}
use Rattle.session_profile.specs.Spdus.{IsWhole, IsCoded, SpellsSpdu}
use Rattle.session_profile.specs.Writing.{session_length_octets, element, front, calling, called_octets, user_data_octets, written_form, spdu_as_written, IsWritableSpdu}
use Rattle.ber_values.specs.Writing.{last_span}
use Rattle.tpkt_cotp.specs.Selectors.{HasSelector}
use Rattle.session_profile.proofs.Parameters.{parameter_reads}
use Rattle.session_profile.proofs.Rules.{all_reads, rest_step}
use Rattle.session_profile.proofs.Connections.{connection_rules}

-- the shortest length is a length
length_spelled : (n : ℕ) → n < 2 ^ 16 → SpellsSessionLength n (session_length_octets n)
unfolding session_length_octets
length_spelled n lt =
    cond_both (ltb n 255) (n ∷ []) (255 ∷ n / 256 ∷ n % 256 ∷ []) (SpellsSessionLength n)
    (λ e. let below : n < 255 = ltb-true n 255 e in (λ is. omega (arith, below, is), refl))
    (λ e. (refl, omega arith))

-- how many octets a length has
pub length_size : (n : ℕ) → length (session_length_octets n) ≤ 3
unfolding session_length_octets
length_size n = cond_both (ltb n 255) (n ∷ []) (255 ∷ n / 256 ∷ n % 256 ∷ []) (λ os. length os ≤ 3) (λ e. omega arith) (λ e. omega arith)

pub element_size : (identifier : ℕ) (contents : List ℕ) → length (element identifier contents) ≡ 1 + length (session_length_octets (length contents)) + length contents
element_size identifier contents = omega (arith, length-append (session_length_octets (length contents)) contents)

-- a written element, at a place
abbrev parameter_at : ℕ → ℕ → List ℕ → Parameter
parameter_at at identifier contents = record { identifier = identifier; place = at; body = at + 1 + length (session_length_octets (length contents)); contents = contents }

abbrev taken_at : ℕ → ℕ → List ℕ → List ℕ → Taken Parameter
taken_at at identifier contents rest = taken (parameter_at at identifier contents) (at + 1 + length (session_length_octets (length contents)) + length contents) rest

element_begins : (at identifier : ℕ) (contents rest : List ℕ) → length contents < 2 ^ 16 → BeginsParameter at (element identifier contents ++ rest) (taken_at at identifier contents rest)
element_begins at identifier contents rest lt = record {
  size = session_length_octets (length contents);
  spelled = length_spelled (length contents) lt;
  parts = ap (λ (os : List ℕ). identifier ∷ os) (append_assoc (session_length_octets (length contents)) contents rest);
  place = refl;
  body = refl;
  next = refl;
}

-- the last element, with nothing after it
last_begins : (at identifier : ℕ) (contents : List ℕ) → length contents < 2 ^ 16 → BeginsParameter at (element identifier contents) (taken_at at identifier contents [])
last_begins at identifier contents lt =
    subst (λ (os : List ℕ). BeginsParameter at os (taken_at at identifier contents [])) (append-nil (element identifier contents)) (element_begins at identifier contents [] lt)

whole_written : (spdu : Spdu) (code : ℕ) (contents : List ℕ) → length contents < 2 ^ 16 → IsCoded spdu (parameter_at 0 code contents) → IsWhole spdu (element code contents)
whole_written spdu code contents lt coded = record { taken = taken_at 0 code contents []; spelled = last_begins 0 code contents lt; coded = coded; ends = refl }

-- ---- the parameters of connect and accept

-- one written parameter is read
step : (s : Seen) (at identifier : ℕ) (contents rest : List ℕ) → length contents < 2 ^ 16 → may_follow s identifier ≡ true → judged (parameter_at at identifier contents) ≡ Ok tt
    → rest_in connection s at (element identifier contents ++ rest) ≡ rest_in connection (with_one s (parameter_at at identifier contents)) (at + 1 + length (session_length_octets (length contents)) + length contents) rest
unfolding connection
step s at identifier contents rest lt may sound =
    let t : Taken Parameter = taken_at at identifier contents rest in
    let octets : List ℕ = element identifier contents ++ rest in
    let read : parameter_in at octets ≡ Ok t = (parameter_reads at octets).only t (element_begins at identifier contents rest lt) in
    let next : next_in connection s at octets ≡ Ok t =
    rw may (ap (λ (r : Result (Taken Parameter) BerFault). r >>= λ u. judged u.value >>= λ x. Ok u) read ∙ ap (λ (r : Result (Unit {0}) BerFault). r >>= λ x. Ok t) sound) in
    rest_step connection s at octets t (omega arith) next

-- the last octets before a place
abbrev span_to : ℕ → List ℕ → Span
span_to end body = record { from = end - length body; to = end }

abbrev made : Option (List ℕ) → ℕ → List ℕ → Connection
made called end body = record { called = called; body = span_to end body }

abbrev state : Option (List ℕ) → Seen
state called = record { item = true; requirements = true; called = called; user_data = None }

-- the user data, and nothing after them
data_last : (called : Option (List ℕ)) (at : ℕ) (body : List ℕ) → length body < 2 ^ 16 → rest_in connection (state called) at (user_data_octets body) ≡ Ok (made (called_of called) (at + length (user_data_octets body)) body)
unfolding connection rest_in
data_last called at body lt =
    let one = step (state called) at 193 body [] lt refl refl in
    let place : ℕ = at + 1 + length (session_length_octets (length body)) in
    let size = element_size 193 body in
    let from : place ≡ at + length (user_data_octets body) - length body = omega (arith, size) in
    let to : place + length body ≡ at + length (user_data_octets body) = omega (arith, size) in
    subst (λ (os : List ℕ). rest_in connection (state called) at os ≡ Ok (made (called_of called) (at + length (user_data_octets body)) body)) (append-nil (user_data_octets body))
    (one ∙ ap (λ (n : ℕ). Ok (record { called = called_of called; body = record { from = n; to = place + length body } })) from ∙ ap (λ (n : ℕ). Ok (record { called = called_of called; body = record { from = at + length (user_data_octets body) - length body; to = n } })) to)

some_selector : (selector : List ℕ) → 0 < length selector → selector_of selector ≡ Some selector
some_selector [] lt = absurd (omega (arith, lt))
some_selector (first ∷ octets) lt = refl

called_judged : (at : ℕ) (selector : List ℕ) → length selector ≤ 32 → judged (parameter_at at 52 selector) ≡ Ok tt
called_judged at selector le = rw (le-leb (length selector) 32 le) refl

moved : (called : Option (List ℕ)) (a b : ℕ) (body : List ℕ) (read : Result Connection BerFault) → a ≡ b → read ≡ Ok (made called a body) → read ≡ Ok (made called b body)
moved called a b body read e h = subst (λ (n : ℕ). read ≡ Ok (made called n body)) e h

called_then : (called : Option (List ℕ)) (at : ℕ) (body : List ℕ) → HasSelector called → length body < 2 ^ 16 → rest_in connection (state None) at (called_octets called ++ user_data_octets body) ≡ Ok (made called (at + length (called_octets called ++ user_data_octets body)) body)
called_then None at body is lt = data_last None at body lt
called_then (Some selector) at body is lt =
    let small : length selector < 2 ^ 16 = omega (arith, is.1) in
    let one = step (state None) at 52 selector (user_data_octets body) small refl (called_judged at selector is.1) in
    let place : ℕ = at + 1 + length (session_length_octets (length selector)) + length selector in
    let two = data_last (Some selector) place body lt in
    let sum = length-append (element 52 selector) (user_data_octets body) in
    let size = element_size 52 selector in
    one ∙ moved (Some selector) (place + length (user_data_octets body)) (at + length (element 52 selector ++ user_data_octets body)) body _ (omega (arith, sum, size))
    (two ∙ ap (λ (c : Option (List ℕ)). Ok (made c (place + length (user_data_octets body)) body)) (some_selector selector is.0))

item_judged : (body : ℕ) → all_parameters_in item body (19 ∷ 1 ∷ 0 ∷ 22 ∷ 1 ∷ 2 ∷ []) ≡ Ok tt
unfolding all_parameters_in rest_in item parameter_in session_length_in
item_judged body = refl

-- the item and the user requirements
front_then : (at : ℕ) (rest : List ℕ) → all_parameters_in connection at (front ++ rest) ≡ rest_in connection (state None) (at + 1 + 1 + 6 + 1 + 1 + 2) rest
unfolding all_parameters_in connection session_length_octets
front_then at rest =
    step (record { item = false; requirements = false; called = None; user_data = None }) at 5 (19 ∷ 1 ∷ 0 ∷ 22 ∷ 1 ∷ 2 ∷ []) (element 20 (0 ∷ 2 ∷ []) ++ rest) (omega arith) refl (item_judged (at + 1 + 1))
    ∙ step (record { item = true; requirements = false; called = None; user_data = None }) (at + 1 + 1 + 6) 20 (0 ∷ 2 ∷ []) rest (omega arith) refl refl

calling_then : (at : ℕ) (rest : List ℕ) → rest_in connection (state None) at (calling ++ rest) ≡ rest_in connection (state None) (at + 1 + 1 + 2) rest
unfolding connection session_length_octets
calling_then at rest = step (state None) at 51 (0 ∷ 1 ∷ []) rest (omega arith) refl refl

accept_read : (at : ℕ) (called : Option (List ℕ)) (body : List ℕ) → HasSelector called → length body < 2 ^ 16 → all_parameters_in connection at (front ++ (called_octets called ++ user_data_octets body)) ≡ Ok (made called (at + length (front ++ (called_octets called ++ user_data_octets body))) body)
accept_read at called body is lt =
    let rest : List ℕ = called_octets called ++ user_data_octets body in
    let place : ℕ = at + 1 + 1 + 6 + 1 + 1 + 2 in
    front_then at rest ∙ moved called (place + length rest) (at + length (front ++ rest)) body _ (omega (arith, length-append front rest)) (called_then called place body is lt)

connect_read : (at : ℕ) (called : Option (List ℕ)) (body : List ℕ) → HasSelector called → length body < 2 ^ 16 → all_parameters_in connection at (front ++ (calling ++ (called_octets called ++ user_data_octets body))) ≡ Ok (made called (at + length (front ++ (calling ++ (called_octets called ++ user_data_octets body)))) body)
connect_read at called body is lt =
    let rest : List ℕ = called_octets called ++ user_data_octets body in
    let place : ℕ = at + 1 + 1 + 6 + 1 + 1 + 2 in
    front_then at (calling ++ rest) ∙ calling_then place rest
    ∙ moved called (place + 1 + 1 + 2 + length rest) (at + length (front ++ (calling ++ rest))) body _ (omega (arith, length-append front (calling ++ rest), length-append calling rest)) (called_then called (place + 1 + 1 + 2) body is lt)

-- ---- sizes

user_data_size : (body : List ℕ) → length (user_data_octets body) ≤ 4 + length body
user_data_size body = omega (arith, element_size 193 body, length_size (length body))

called_size : (called : Option (List ℕ)) → HasSelector called → length (called_octets called) ≤ 36
called_size None is = omega arith
called_size (Some selector) is = omega (arith, element_size 52 selector, length_size (length selector), is.1)

accept_size : (called : Option (List ℕ)) (body : List ℕ) → HasSelector called → length (front ++ (called_octets called ++ user_data_octets body)) ≤ 52 + length body
accept_size called body is = omega (arith, length-append front (called_octets called ++ user_data_octets body), length-append (called_octets called) (user_data_octets body), called_size called is, user_data_size body)

connect_size : (called : Option (List ℕ)) (body : List ℕ) → HasSelector called → length (front ++ (calling ++ (called_octets called ++ user_data_octets body))) ≤ 56 + length body
connect_size called body is = omega (arith, length-append front (calling ++ (called_octets called ++ user_data_octets body)), length-append calling (called_octets called ++ user_data_octets body), length-append (called_octets called) (user_data_octets body), called_size called is, user_data_size body)

-- ---- SPDUs

-- the contents of an SPDU stand up to its end
ends_at : (code : ℕ) (contents : List ℕ) → 0 + 1 + length (session_length_octets (length contents)) + length contents ≡ length (element code contents)
ends_at code contents = omega (arith, element_size code contents)

connection_coded : (code : ℕ) (called : Option (List ℕ)) (contents body : List ℕ) → ((at : ℕ) → all_parameters_in connection at contents ≡ Ok (made called (at + length contents) body))
    → SpellsAll connection (0 + 1 + length (session_length_octets (length contents))) (record { called = called; body = last_span (length (element code contents)) body }) contents
connection_coded code called contents body read =
    let at : ℕ = 0 + 1 + length (session_length_octets (length contents)) in
    (all_reads connection connection_rules at contents).found (made called (length (element code contents)) body) (moved called (at + length contents) (length (element code contents)) body _ (ends_at code contents) (read at))

same_span : (a b c d : ℕ) → a ≡ c → b ≡ d → ◌≡◌ {A = Span} (record { from = a; to = b }) (record { from = c; to = d })
same_span a b c d e f = rw (e, f) refl

pub written_spelled : (spdu : Spdu) (body : List ℕ) → IsWritableSpdu spdu → length body ≤ MOST_BODY → SpellsSpdu (spdu_as_written spdu body) (written_form spdu body)
written_spelled (Connect called _) body is le =
    let contents : List ℕ = front ++ (calling ++ (called_octets called ++ user_data_octets body)) in
    let lt : length body < 2 ^ 16 = omega (arith, le) in
    whole_written (Connect called (last_span (length (element 13 contents)) body)) 13 contents (omega (arith, connect_size called body is, le)) (refl, connection_coded 13 called contents body (λ at. connect_read at called body is lt))
written_spelled (Accept called _) body is le =
    let contents : List ℕ = front ++ (called_octets called ++ user_data_octets body) in
    let lt : length body < 2 ^ 16 = omega (arith, le) in
    whole_written (Accept called (last_span (length (element 14 contents)) body)) 14 contents (omega (arith, accept_size called body is, le)) (refl, connection_coded 14 called contents body (λ at. accept_read at called body is lt))
written_spelled Refuse body is le = whole_written Refuse 12 (element 50 (2 ∷ body)) (omega (arith, element_size 50 (2 ∷ body), length_size (length (2 ∷ body)), le)) refl
written_spelled (Carry _) body is le =
    (body, refl, same_span (length (1 ∷ 0 ∷ 1 ∷ 0 ∷ body) - length body) (length (1 ∷ 0 ∷ 1 ∷ 0 ∷ body)) 4 (4 + length body) (omega arith) (omega arith))
written_spelled Finish body is le = whole_written Finish 9 (user_data_octets body) (omega (arith, user_data_size body, le)) refl
written_spelled Disconnect body is le = whole_written Disconnect 10 (user_data_octets body) (omega (arith, user_data_size body, le)) refl
written_spelled Abort body is le = whole_written Abort 25 (17 ∷ 1 ∷ 11 ∷ user_data_octets body) (omega (arith, user_data_size body, le)) refl
written_spelled AbortAccept body is le = absurd is
