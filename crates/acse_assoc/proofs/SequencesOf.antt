-- The contents of an AARQ and of an AARE are elements as they have them.
use Rattle.std.proofs.Common.{◌≡◌, ◌≢◌, ℕ, ◌+◌, ◌<◌, ◌≤◌, false, List}
use Rattle.std.proofs.Common.{[], ◌∷◌, ◌++◌, length, Option, Some, None, refl, sym, ap, subst}
use Rattle.std.proofs.Common.{◌∙◌, inl, inr, ◌⊎◌, append_assoc, append-nil, arith}
use Rattle.std.specs.Prelude.{nat_le}
use Rattle.std.proofs.lemmas.Bool.{leb-true, eqb-false}
use Rattle.std.proofs.lemmas.List.{length-append}
use Rattle.std.proofs.lemmas.List.Concat.{flat_map-append}
use Rattle.std.proofs.lemmas.List.Elements.{All-nil, All-cons, All-append}
use Rattle.ber_values.specs.declared.head.Head.{Head}
use Rattle.ber_values.specs.Octets.{IsOctets}
use Rattle.ber_values.specs.declared.external.External.{External}
use Rattle.ber_values.specs.Reading.{Taken}
use Rattle.ber_values.specs.Grammars.{taken, gives, then_in, map_in, branch_in, refused}
use Rattle.ber_values.specs.Grammars.{has_tag}
use Rattle.ber_values.specs.Parts.{Contents, part_in, maybe_in, all_in}
use Rattle.ber_values.specs.Runs.{AnyElement, element_octets, elements_octets}
use Rattle.ber_values.proofs.Reading.{Ok_is}
use Rattle.ber_values.proofs.Runs.{part-element}
use Rattle.acse_assoc.specs.declared.expected.Expected.{Expected}
use Rattle.acse_assoc.specs.declared.request.AssociateRequest.{AssociateRequest}
use Rattle.acse_assoc.specs.declared.response.AssociateResponse.{AssociateResponse}
use Rattle.acse_assoc.specs.Rising.{rising_in, named_in, perhaps_in, least_after, attempt}
use Rattle.acse_assoc.specs.Users.{user_information}
use Rattle.acse_assoc.specs.Requests.{Titled, one_oid, context_name, titled, title_of}
use Rattle.acse_assoc.specs.Requests.{calling_title, user_last, aarq_of, request}
use Rattle.acse_assoc.specs.Responses.{context_passed, result_number, result_next, user_of_result}
use Rattle.acse_assoc.specs.Responses.{some_user_last, aare_of, response}
use Rattle.acse_assoc.specs.Writing.{HasUser}
use Rattle.acse_assoc.specs.Sequences.{HasElement, LacksElement, MayHaveElement, HasTitle, IsAarq}
use Rattle.acse_assoc.specs.Sequences.{IsAare}
use Rattle.acse_assoc.proofs.ApdusRead.{request_contents}
use Rattle.acse_assoc.proofs.Sequences.{rises-sequence, RisesFrom, LacksTag, has-weaker, has-before}
use Rattle.acse_assoc.proofs.Sequences.{has-front, tagged-named, tagged-context}
use Rattle.acse_assoc.proofs.Sequences.{after_run, passes-rises, passes-lacks}
use Rattle.acse_assoc.proofs.SequencesRead.{StopsRising, TakesRising, rising-takes, absent}
use Rattle.acse_assoc.proofs.SequencesBack.{attempted_some, request_back}

-- ---- what was taken from the front

-- these elements were, behind which others may stand whose numbers are not below the last
pub record TookFront (n from after at : ℕ) (octets : List ℕ) (next : ℕ)
    (rest : List ℕ) : Type 0 where
  pub here : List AnyElement
  pub parts : octets ≡ elements_octets here ++ rest
  pub place : next ≡ at + length (elements_octets here)
  pub rises : (es : List AnyElement) → RisesFrom after es → RisesFrom from (here ++ es)
  pub lacks : (m : ℕ) → n < m → m < 31 → LacksElement (160 + m) here

-- octets are elements whose numbers rise
abbrev pub Are : ℕ → List ℕ → List AnyElement → Type 0
Are from octets es = (octets ≡ elements_octets es) × RisesFrom from es

before : (n from after at next : ℕ) (octets rest : List ℕ)
    (t : TookFront n from after at octets next rest) (es : List AnyElement) → Are after rest es
    → Are from octets (t.here ++ es)
before n from after at next octets rest t es a = (
  t.parts ∙ ap (λ os. elements_octets t.here ++ os) a.0
      ∙ sym (flat_map-append element_octets t.here es),
  t.rises es a.1,
)

has_behind : {X : Type 0} (n from after at next : ℕ) (octets rest : List ℕ)
    (t : TookFront n from after at octets next rest) (tag : ℕ) (c : Contents X)
    (es : List AnyElement) (x : X) → HasElement tag c next es x
    → HasElement tag c at (t.here ++ es) x
has_behind n from after at next octets rest t tag c es x h = has-before tag c at t.here es x
    (subst (λ (k : ℕ). HasElement tag c k es x) t.place h)

may_behind : {X : Type 0} (n from after at next : ℕ) (octets rest : List ℕ)
    (t : TookFront n from after at octets next rest) (m : ℕ) (c : Contents X) (es : List AnyElement)
    (o : Option X) → n < m → m < 31 → MayHaveElement (160 + m) c next es o
    → MayHaveElement (160 + m) c at (t.here ++ es) o
may_behind n from after at next octets rest t m c es None lt small h = All-append
    (LacksTag (160 + m)) t.here es (t.lacks m lt small) h
may_behind n from after at next octets rest t m c es (Some x) lt small h =
    has_behind n from after at next octets rest t (160 + m) c es x h

-- elements that were passed over, alone
took_run : (n from at : ℕ) (octets : List ℕ) (t : Taken ℕ) → TakesRising n from at octets t
    → TookFront n from t.value at octets t.next t.rest
took_run n from at octets t r =
    record {
      here = r.run;
      parts = r.parts;
      place = r.place;
      rises = λ es h. passes-rises n from r.run es r.passes
          (subst (λ (k : ℕ). RisesFrom k es) r.after h);
      lacks = λ m lt small. passes-lacks n m from r.run (omega (arith, lt)) small r.passes;
    }

-- and then an element of a number
pub record TookNamed {X : Type 0} (n : ℕ) (c : Contents X) (from at : ℕ) (octets : List ℕ)
    (next : ℕ) (rest : List ℕ) (x : X) : Type 0 where
  pub took : TookFront n from (n + 1) at octets next rest
  pub has : HasElement (160 + n) c at took.here x

took_part : {X : Type 0} (n : ℕ) (c : Contents X) (from at : ℕ) (octets : List ℕ) (t : Taken ℕ)
    (u : Taken X) → n < 31 → TakesRising n from at octets t → t.value ≤ n
    → (part_in (160 + n) c).begins t.next t.rest u
    → TookNamed n c from at octets u.next u.rest u.value
took_part {X} n c from at octets t u small r le b =
    let p = part-element (160 + n) c t.next t.rest u (omega (arith, small)) b in
    let e = p.0 in
    let number = (tagged-named n e small p.1 p.4).0 in
    let ends : elements_octets (r.run ++ e ∷ []) ≡ elements_octets r.run ++ element_octets e =
    flat_map-append element_octets r.run (e ∷ [])
    ∙ ap (λ os. elements_octets r.run ++ os) (append-nil (element_octets e)) in
    let least : after_run from r.run ≤ e.tag.number = omega (arith, le, number, r.after) in
    let spelled : HasElement (160 + n) c t.next (e ∷ []) u.value = inl (p.4, p.5) in
    record {
      took = record {
        here = r.run ++ e ∷ [];
        parts = r.parts ∙ ap (λ os. elements_octets r.run ++ os) p.2
            ∙ sym (append_assoc (elements_octets r.run) (element_octets e) u.rest)
            ∙ ap (λ os. os ++ u.rest) (sym ends);
        place = omega (
          arith,
          p.3,
          r.place,
          ap length ends,
          length-append (elements_octets r.run) (element_octets e),
        );
        rises = λ es h. subst (RisesFrom from) (sym (append_assoc r.run (e ∷ []) es))
            (passes-rises n from r.run (e ∷ es) r.passes (
              p.1,
              tagged-context n e small p.1 p.4,
              least,
              subst (λ (k : ℕ). RisesFrom (k + 1) es) (sym number) h,
            ));
        lacks = λ m lt less. All-append (LacksTag (160 + m)) r.run (e ∷ [])
            (passes-lacks n m from r.run (omega (arith, lt)) less r.passes)
            (All-cons (LacksTag (160 + m)) e []
            (λ is. let other = (tagged-named m e less p.1 is).0 in omega
            (arith, number, other, lt)) (All-nil (LacksTag (160 + m))));
      };
      has = has-before (160 + n) c at r.run (e ∷ []) u.value
          (subst (λ (k : ℕ). HasElement (160 + n) c k (e ∷ []) u.value) r.place spelled);
    }

took_named : {X : Type 0} (n : ℕ) (c : Contents X) (from at : ℕ) (octets : List ℕ) (t : Taken ℕ)
    (u : Taken X) → n < 31 → (rising_in n from).begins at octets t
    → (named_in n c t.value).begins t.next t.rest u
    → TookNamed n c from at octets u.next u.rest u.value
unfolding named_in branch_in refused
took_named n c from at octets t u small passed (inr late) = absurd late.1
took_named n c from at octets t u small passed (inl b) = took_part n c from at octets t u small
    (rising-takes n from at octets t passed) (leb-true t.value n b.0) b.1

-- or perhaps an element of a number
pub record TookPerhaps {X : Type 0} (n : ℕ) (c : Contents X) (from after at : ℕ) (octets : List ℕ)
    (next : ℕ) (rest : List ℕ) (o : Option X) : Type 0 where
  pub took : TookFront n from after at octets next rest
  pub has : (es : List AnyElement) → Are after rest es
      → MayHaveElement (160 + n) c at (took.here ++ es) o

took_none : {X : Type 0} (n : ℕ) (c : Contents X) (from at : ℕ) (octets : List ℕ) (t : Taken ℕ)
    → n < 31 → TakesRising n from at octets t → (nat_le t.value n ≡ false)
    ⊎ (has_tag (160 + n) t.rest ≡ false) → TookPerhaps n c from t.value at octets t.next t.rest None
unfolding took_run
took_none n c from at octets t small r none = record {
  took = took_run n from at octets t r;
  has = λ es a. All-append (LacksTag (160 + n)) r.run es
      (passes-lacks n n from r.run (omega arith) small r.passes)
      (absent n t.value t.next es small a.1
      (subst (λ (os : List ℕ). StopsRising n (taken t.value t.next os)) a.0 r.stops)
      (subst (λ (os : List ℕ). (nat_le t.value n ≡ false)
      ⊎ (has_tag (160 + n) os ≡ false)) a.0 none));
}

took_some : {X : Type 0} (n : ℕ) (c : Contents X) (from at next : ℕ) (octets rest : List ℕ) (x : X)
    → TookNamed n c from at octets next rest x
    → TookPerhaps n c from (n + 1) at octets next rest (Some x)
took_some n c from at next octets rest x k =
    record { took = k.took; has = λ es a. has-front (160 + n) c at k.took.here es x k.has }

took_perhaps : {X : Type 0} (n : ℕ) (c : Contents X) (from at : ℕ) (octets : List ℕ) (t : Taken ℕ)
    (u : Taken (Option X)) → n < 31 → (rising_in n from).begins at octets t
    → (perhaps_in n c t.value).begins t.next t.rest u
    → TookPerhaps n c from (least_after n t.value u.value) at octets u.next u.rest u.value
unfolding perhaps_in maybe_in map_in branch_in gives
took_perhaps {X} n c from at octets t u small passed (inr (late, is)) =
    subst (λ (v : Taken (Option X)). TookPerhaps n c from
    (least_after n t.value v.value) at octets v.next v.rest v.value) (sym is)
    (took_none n c from at octets t small (rising-takes n from at octets t passed) (inl late))
took_perhaps {X} n c from at octets t u small passed (inl (le, inr (other, is))) =
    subst (λ (v : Taken (Option X)). TookPerhaps n c from
    (least_after n t.value v.value) at octets v.next v.rest v.value) (sym is)
    (took_none n c from at octets t small (rising-takes n from at octets t passed) (inr other))
took_perhaps {X} n c from at octets t u small passed (inl (le, inl (first, (p, b, is)))) =
    subst (λ (v : Taken (Option X)). TookPerhaps n c from
    (least_after n t.value v.value) at octets v.next v.rest v.value) (sym is)
    (took_some n c from at p.next octets p.rest p.value
    (took_part n c from at octets t p small (rising-takes n from at octets t passed)
    (leb-true t.value n le) b))

-- the last elements
took_last : (from at : ℕ) (octets : List ℕ) (t : Taken ℕ)
    → (rising_in 16383 from).begins at octets t → t.rest ≡ [] → (es : List AnyElement)
    × Are from octets es
unfolding took_run
took_last from at octets t passed ended =
    let r = rising-takes 16383 from at octets t passed in
    let a = before 16383 from t.value at t.next octets t.rest (took_run 16383 from at octets t r) []
    (ended, tt) in
    (r.run ++ [], a)

-- ---- an AARQ

title_of_read : (at : ℕ) (es : List AnyElement) (title : Option (List ℕ))
    (o : Option (Option (List ℕ))) → title ≡ title_of o
    → MayHaveElement 166 (attempt one_oid) at es o → (title ≡ None → HasTitle at es None)
    → HasTitle at es title
unfolding attempt
title_of_read at es None o is h none = none refl
title_of_read at es (Some name) None is h none = absurd cc
title_of_read at es (Some name) (Some None) is h none = absurd cc
title_of_read at es (Some name) (Some (Some other)) is h none =
    has-weaker 166 (attempt one_oid) one_oid (Some other) name (λ place os s. elim s [
      | inl a ↦ subst (λ (n : List ℕ). one_oid.spells place n os)
          (some_is a.0 other (sym a.2) ∙ some_is other name (sym is)) a.1
      | inr b ↦ absurd (let e = b.1 in cc)
    ]) at es h
  where
    some_is : (a b : List ℕ) → Some a ≡ Some b → a ≡ b
    some_is a b e = cc

head_at : ℕ → Head
head_at at = record {
  class = 0;
  constructed = false;
  number = 0;
  long_form = false;
  length_at = 0;
  body = at;
  end = 0;
  next = 0;
}

request_one : (e : Expected) (at : ℕ) (octets : List ℕ) (r other : AssociateRequest)
    → (request e).spells at r octets → (request e).spells at other octets → r ≡ other
unfolding head_at
request_one e at octets r other a b =
    let one = request_contents e (head_at at) octets in
    Ok_is r other (sym (one.only r a) ∙ one.only other b)

aarq_from : (e : Expected) (at : ℕ) (octets : List ℕ) (es : List AnyElement) (context : List ℕ)
    (least : ℕ) (o : Option (Option (List ℕ))) (user : External) → IsOctets octets → Are 0 octets es
    → HasElement 161 one_oid at es context → MayHaveElement 166 (attempt one_oid) at es o
    → HasElement 190 (user_information e.request_id) at es user
    → (request e).spells at (aarq_of context (titled least o) user) octets
    → IsAarq e at octets es (aarq_of context (titled least o) user)
aarq_from e at octets es context least o user os are has_context has_title has_user spelled =
    record {
      sequence = rises-sequence octets es are.0 are.1;
      context = has_context;
      title = title_of_read at es (title_of o) o refl has_title (λ none name has.
          let other : AssociateRequest =
          record { context = context; title = Some name; user = user } in
          let again = request_back e at es other (Some (Some name))
          (subst IsOctets are.0 os) are.1 has_context
          (has-weaker 166 one_oid (attempt one_oid) name (Some name)
          (λ place xs s. attempted_some place xs name s) at es has) refl has_user in
          let one = request_one e at octets (aarq_of context (titled least o) user) other spelled
          (subst (λ (xs : List ℕ). (request e).spells at other xs) (sym are.0) again) in
          no_title name (sym none ∙ ap (λ (r : AssociateRequest). r.title) one));
      user = has_user;
    }
  where
    no_title : (name : List ℕ) → None ≡ Some name → ⊥
    no_title name e = cc

-- the parts of an AARQ, as the grammar reads them
pub spelled-aarq : (e : Expected) (at : ℕ) (octets : List ℕ) (r : AssociateRequest)
    → IsOctets octets → (request e).spells at r octets → (es : List AnyElement)
    × IsAarq e at octets es r
unfolding request all_in then_in map_in context_name calling_title user_last
spelled-aarq e at octets r os whole =
    let t = whole.0 in
    let c = whole.1.0 in
    let c1 = whole.1.1.0 in
    let ti = whole.1.2.0 in
    let t1 = whole.1.2.1.0 in
    let o = whole.1.2.1.2.0 in
    let is_title : ti ≡ taken (titled t1.value o.value) o.next o.rest = whole.1.2.1.2.2 in
    let u = whole.1.2.2.0 in
    let least = least_after 6 t1.value o.value in
    let user : (user_last e least).begins o.next o.rest u = subst
    (λ (v : Taken Titled).
    (user_last e v.value.least).begins v.next v.rest u) is_title whole.1.2.2.1 in
    let u1 = user.0 in
    let v = user.2.0 in
    let l = user.2.2.0 in
    let is_user : u ≡ taken v.value l.next l.rest = user.2.2.2 in
    let is_whole : t ≡ taken (aarq_of c.value ti.value u.value) u.next u.rest = whole.1.2.2.2 in
    let ended : l.rest ≡ [] = sym (ap (λ (x : Taken External). x.rest) is_user)
    ∙ sym (ap (λ (x : Taken AssociateRequest). x.rest) is_whole) ∙ whole.2.0 in
    let value : r ≡ aarq_of c.value (titled t1.value o.value) v.value = whole.2.1
    ∙ ap (λ (x : Taken AssociateRequest). x.value) is_whole
    ∙ ap (λ (x : Taken Titled). aarq_of c.value x.value u.value) is_title
    ∙ ap (λ (x : Taken External). aarq_of c.value
    (titled t1.value o.value) x.value) is_user in
    let one = took_named 1 one_oid 0 at octets c1 c (omega arith) whole.1.1.1 whole.1.1.2 in
    let two = took_perhaps 6 (attempt one_oid) 2 c.next c.rest t1 o
    (omega arith) whole.1.2.1.1 whole.1.2.1.2.1 in
    let three = took_named 30 (user_information e.request_id) least o.next o.rest u1 v
    (omega arith) user.1 user.2.1 in
    let four = took_last 31 v.next v.rest l user.2.2.1 ended in
    let third = before 30 least 31 o.next v.next o.rest v.rest three.took four.0 four.1 in
    let es3 = three.took.here ++ four.0 in
    let second = before 6 2 least c.next o.next c.rest o.rest two.took es3 third in
    let es2 = two.took.here ++ es3 in
    let first = before 1 0 2 at c.next octets c.rest one.took es2 second in
    let es = one.took.here ++ es2 in (
      es,
      subst (IsAarq e at octets es) (sym value)
          (aarq_from e at octets es c.value t1.value o.value v.value os first
          (has-front 161 one_oid at one.took.here es2 c.value one.has)
          (may_behind 1 0 2 at c.next octets c.rest one.took 6 (attempt one_oid) es2 o.value
          (omega arith) (omega arith) (two.has es3 third))
          (has_behind 1 0 2 at c.next octets c.rest one.took 190
          (user_information e.request_id) es2 v.value
          (has_behind 6 2 least c.next o.next c.rest o.rest two.took 190
          (user_information e.request_id) es3 v.value
          (has-front 190 (user_information e.request_id) o.next three.took.here four.0 v.value
          three.has)))
          (subst (λ (x : AssociateRequest). (request e).spells at x octets) value whole)),
    )

-- ---- an AARE

took_user : (e : Expected) (result at : ℕ) (octets : List ℕ) (t : Taken ℕ)
    (u : Taken (Option External)) → (rising_in 30 3).begins at octets t
    → (user_of_result e result t.value).begins t.next t.rest u
    → TookPerhaps 30 (user_information e.response_id) 3
    (least_after 30 t.value u.value) at octets u.next u.rest u.value × HasUser result u.value
unfolding user_of_result map_in branch_in
took_user e result at octets t u passed (inr (other, b)) = (
  took_perhaps 30 (user_information e.response_id) 3 at octets t u (omega arith) passed b,
  refused_user result u.value (eqb-false result 0 other),
)
  where
    refused_user : (result : ℕ) (o : Option External) → result ≢ 0 → HasUser result o
    refused_user result None other = other
    refused_user result (Some user) other = tt
took_user e result at octets t u passed (inl (is_zero, (p, b, is))) =
    subst (λ (v : Taken (Option External)). TookPerhaps 30 (user_information e.response_id) 3
    (least_after 30 t.value v.value) at octets v.next v.rest v.value × HasUser result v.value)
    (sym is) (
      took_some 30 (user_information e.response_id) 3 at p.next octets p.rest p.value
          (took_named 30 (user_information e.response_id) 3 at octets t p (omega arith) passed b),
      tt,
    )

pub spelled-aare : (e : Expected) (at : ℕ) (octets : List ℕ) (r : AssociateResponse)
    → (response e).spells at r octets → (es : List AnyElement) × IsAare e at octets es r
unfolding response all_in then_in map_in context_passed result_next some_user_last
spelled-aare e at octets r whole =
    let t = whole.0 in
    let c = whole.1.0 in
    let c1 = whole.1.1.0 in
    let o = whole.1.1.2.0 in
    let is_context : c ≡ taken (least_after 1 c1.value o.value) o.next o.rest = whole.1.1.2.2 in
    let least = least_after 1 c1.value o.value in
    let q = whole.1.2.0 in
    let result : (result_next e least).begins o.next o.rest q = subst
    (λ (v : Taken ℕ). (result_next e v.value).begins v.next v.rest q) is_context whole.1.2.1 in
    let q1 = result.0 in
    let u = whole.1.2.2.0 in
    let user = whole.1.2.2.1 in
    let u1 = user.0 in
    let v = user.2.0 in
    let l = user.2.2.0 in
    let is_user : u ≡ taken v.value l.next l.rest = user.2.2.2 in
    let is_whole : t ≡ taken (aare_of q.value u.value) u.next u.rest = whole.1.2.2.2 in
    let ended : l.rest ≡ [] = sym (ap (λ (x : Taken (Option External)). x.rest) is_user)
    ∙ sym (ap (λ (x : Taken AssociateResponse). x.rest) is_whole) ∙ whole.2.0 in
    let value : r ≡ aare_of q.value v.value = whole.2.1
    ∙ ap (λ (x : Taken AssociateResponse). x.value) is_whole
    ∙ ap (λ (x : Taken (Option External)). aare_of q.value x.value) is_user in
    let one = took_perhaps 1 one_oid 0 at octets c1 o (omega arith) whole.1.1.1 whole.1.1.2.1 in
    let two = took_named 2 (result_number e) least o.next o.rest q1 q
    (omega arith) result.1 result.2 in
    let three = took_user e q.value q.next q.rest u1 v user.1 user.2.1 in
    let after = least_after 30 u1.value v.value in
    let four = took_last after v.next v.rest l user.2.2.1 ended in
    let third = before 30 3 after q.next v.next q.rest v.rest three.0.took four.0 four.1 in
    let es3 = three.0.took.here ++ four.0 in
    let second = before 2 least 3 o.next q.next o.rest q.rest two.took es3 third in
    let es2 = two.took.here ++ es3 in
    let first = before 1 0 least at o.next octets o.rest one.took es2 second in
    let es = one.took.here ++ es2 in (
      es,
      subst (IsAare e at octets es) (sym value) (record {
        sequence = rises-sequence octets es first.0 first.1;
        name = o.value;
        context = one.has es2 second;
        result = has_behind 1 0 least at o.next octets o.rest one.took 162
            (result_number e) es2 q.value
            (has-front 162 (result_number e) o.next two.took.here es3 q.value two.has);
        user = may_behind 1 0 least at o.next octets o.rest one.took 30
            (user_information e.response_id) es2 v.value (omega arith) (omega arith)
            (may_behind 2 least 3 o.next q.next o.rest q.rest two.took 30
            (user_information e.response_id) es3 v.value (omega arith) (omega arith)
            (three.0.has four.0 four.1));
        accepted = three.1;
      }),
    )
