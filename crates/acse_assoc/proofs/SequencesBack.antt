-- Elements as an AARQ and an AARE have them are the contents of one.
use Rattle.std.proofs.Common.{◌≡◌, ◌≢◌, ℕ, ◌+◌, ◌<◌, ◌≤◌, ◌%◌, true, false}
use Rattle.std.proofs.Common.{eqb, List, [], ◌∷◌, ◌++◌, length, get_or, Option, Some, None}
use Rattle.std.proofs.Common.{refl, sym, ap, subst, ◌∙◌, inl, inr, ◌⊎◌, append_assoc}
use Rattle.std.proofs.Common.{arith}
use Rattle.std.specs.Prelude.{nat_le}
use Rattle.std.proofs.lemmas.Bool.{ne_eqb, eqb-true, eqb-false, le-leb}
use Rattle.std.proofs.lemmas.Bool.{cases_Bool}
use Rattle.std.proofs.lemmas.List.{drop_at}
use Rattle.std.proofs.lemmas.List.Concat.{flat_map-append}
use Rattle.std.proofs.lemmas.List.Elements.{All-nil, All-cons, All-head}
use Rattle.ber_values.specs.declared.tag.Tag.{Tag}
use Rattle.ber_values.specs.Octets.{IsOctets}
use Rattle.ber_values.proofs.Octets.{IsOctets-drop}
use Rattle.ber_values.specs.declared.external.External.{External}
use Rattle.ber_values.specs.Reading.{Taken}
use Rattle.ber_values.specs.Tags.{SpellsTag}
use Rattle.ber_values.specs.Grammars.{Grammar, taken, gives, then_in, map_in, branch_in, has_tag}
use Rattle.ber_values.specs.Parts.{Contents, part_in, maybe_in, all_in}
use Rattle.ber_values.specs.Runs.{AnyElement, IsSoundElement, element_octets, elements_octets}
use Rattle.ber_values.proofs.Runs.{after_tag, element-parts, element-part}
use Rattle.acse_assoc.specs.declared.expected.Expected.{Expected}
use Rattle.acse_assoc.specs.declared.request.AssociateRequest.{AssociateRequest}
use Rattle.acse_assoc.specs.declared.response.AssociateResponse.{AssociateResponse}
use Rattle.acse_assoc.specs.Rising.{rising_within, rising_in, named_in, perhaps_in, least_after}
use Rattle.acse_assoc.specs.Rising.{attempt}
use Rattle.acse_assoc.specs.Users.{user_information}
use Rattle.acse_assoc.specs.Requests.{one_oid, context_name, titled, title_of, calling_title}
use Rattle.acse_assoc.specs.Requests.{user_last, aarq_of, request}
use Rattle.acse_assoc.specs.Responses.{context_passed, result_number, result_next, user_of_result}
use Rattle.acse_assoc.specs.Responses.{some_user_last, aare_of, response}
use Rattle.acse_assoc.specs.Writing.{HasUser}
use Rattle.acse_assoc.specs.Sequences.{HasElement, LacksElement, MayHaveElement}
use Rattle.acse_assoc.specs.Sequences.{HasTitle, IsAarq, IsAare}
use Rattle.acse_assoc.proofs.Sequences.{sequence-rises, RisesFrom, LacksTag, lacks-has, has-weaker}
use Rattle.acse_assoc.proofs.Sequences.{has-behind, lacks-behind, above-lacks, tagged-named}
use Rattle.acse_assoc.proofs.Sequences.{PassRising, after_run, passes-lacks}
use Rattle.acse_assoc.proofs.SequencesRead.{BeginsBeyond, rising-splits, splits-rising}
use Rattle.acse_assoc.proofs.SequencesRead.{tagged-first}

-- ---- the next element that counts

-- among elements that begin beyond those that are passed over, the one of the number is the first
pub record FoundFirst {X : Type 0} (n : ℕ) (c : Contents X) (least at : ℕ) (es : List AnyElement)
    (x : X) : Type 0 where
  pub element : AnyElement
  pub rest : List AnyElement
  pub whole : es ≡ element ∷ rest
  pub sound : IsSoundElement element
  pub tagged : element.tagged ≡ (160 + n) ∷ []
  pub spelled : c.spells (at + length element.tagged + length element.sized) x element.contents
  pub enough : least ≤ n
  pub rises : RisesFrom (n + 1) rest

found : {X : Type 0} (n : ℕ) (c : Contents X) (least at : ℕ) (es : List AnyElement) (x : X) → n < 31
    → RisesFrom least es → BeginsBeyond n es → HasElement (160 + n) c at es x
    → FoundFirst n c least at es x
found n c least at [] x small r beyond h = absurd h
found n c least at (e ∷ es) x small r beyond (inl a) =
    let k = (tagged-named n e small r.0 a.0).0 in
    record {
      element = e;
      rest = es;
      whole = refl;
      sound = r.0;
      tagged = a.0;
      spelled = a.1;
      enough = omega (arith, k, r.2);
      rises = subst (λ (m : ℕ). RisesFrom (m + 1) es) k r.3;
    }
found n c least at (e ∷ es) x small r beyond (inr b) =
    absurd (lacks-has (160 + n) c (at + length (element_octets e)) es x
    (above-lacks n (e.tag.number + 1) es small (later beyond) r.3) b)
  where
    later : BeginsBeyond n (e ∷ es) → n < e.tag.number + 1
    later (inl above) = omega (arith, above)
    later (inr is) = let k = (tagged-named n e small r.0 is).0 in omega (arith, k)

not_first : (n : ℕ) (es : List AnyElement) (least : ℕ) → n < 31 → RisesFrom least es
    → LacksElement (160 + n) es → has_tag (160 + n) (elements_octets es) ≡ false
not_first n [] least small r lacks = refl
not_first n (e ∷ es) least small r lacks = ap (has_tag (160 + n))
    (element-parts e (elements_octets es))
    ∙ other e.tag e.tagged r.0.tag (All-head (LacksTag (160 + n)) e es lacks)
  where
    single : (tag : Tag) (tagged : List ℕ) → SpellsTag tag ((160 + n) ∷ tagged) → (tagged ≡ [])
    single tag [] s = refl
    single tag (low ∷ []) s = absurd (omega (arith, s.0, small))
    single tag (high ∷ low ∷ []) s = absurd (omega (arith, s.0, small))
    single tag (a ∷ b ∷ c ∷ more) s = elim s [ ]

    other : (tag : Tag) (tagged : List ℕ) → SpellsTag tag tagged → tagged ≢ (160 + n) ∷ []
        → has_tag (160 + n) (tagged ++ after_tag e (elements_octets es)) ≡ false
    other tag [] s differs = elim s [ ]
    other tag (first ∷ tagged) s differs = ne_eqb first (160 + n)
        (λ is. differs (ap (λ (k : ℕ). k ∷ tagged) is
        ∙ ap (λ (os : List ℕ). (160 + n) ∷ os)
        (single tag tagged (subst (λ (k : ℕ). SpellsTag tag (k ∷ tagged)) is s))))

-- elements of larger numbers, behind those that were read
abbrev pub Carries : ℕ → ℕ → List AnyElement → ℕ → List AnyElement → Type 1
Carries n at es next rest = (m : ℕ) → n < m → m < 31 → (Y : Type 0) (d : Contents Y) (y : Y)
    → HasElement (160 + m) d at es y → HasElement (160 + m) d next rest y

-- elements are read: those that are passed over, then what g reads, and then there are the rest
pub record ReadsNext {X : Type 0} (n from at : ℕ) (es : List AnyElement) (g : ℕ → Grammar X) (x : X)
    (after : ℕ → ℕ) : Type 1 where
  pub least : ℕ
  pub place : ℕ
  pub middle : List ℕ
  pub passed : (rising_in n from).begins at (elements_octets es) (taken least place middle)
  pub next : ℕ
  pub rest : List AnyElement
  pub reads : (g least).begins place middle (taken x next (elements_octets rest))
  pub rises : RisesFrom (after least) rest
  pub carries : Carries n at es next rest
  pub front : List AnyElement
  pub whole : es ≡ front ++ rest

carried : (n at next : ℕ) (es run rest : List AnyElement) (least : ℕ) → es ≡ run ++ rest
    → PassRising n least run → next ≡ at + length (elements_octets run) → Carries n at es next rest
carried n at next es run rest least whole p place m lt small Y d y h =
    subst (λ (k : ℕ). HasElement (160 + m) d k rest y) (sym place)
    (has-behind (160 + m) d at run rest y (passes-lacks n m least run (omega (arith, lt)) small p)
    (subst (λ (xs : List AnyElement). HasElement (160 + m) d at xs y) whole h))

carried_on : (n place : ℕ) (e : AnyElement) (rest : List AnyElement) → n < 31 → IsSoundElement e
    → e.tagged ≡ (160 + n) ∷ []
    → Carries n place (e ∷ rest) (place + length (element_octets e)) rest
carried_on n place e rest less s tagged m lt small Y d y (inl a) =
    let one = (tagged-named n e less s tagged).0 in
    let other = (tagged-named m e small s a.0).0 in
    absurd (omega (arith, one, other, lt))
carried_on n place e rest less s tagged m lt small Y d y (inr b) = b

-- the element of a number is read, as g does where it may follow
present : {X Y : Type 0} (n : ℕ) (c : Contents X) (from at : ℕ) (es : List AnyElement) (x : X)
    (g : ℕ → Grammar Y) (y : Y) → n < 31 → RisesFrom from es → HasElement (160 + n) c at es x
    → ((least at : ℕ) (octets : List ℕ) (next : ℕ) (rest : List ℕ) → least ≤ n
    → has_tag (160 + n) octets ≡ true
    → (part_in (160 + n) c).begins at octets (taken x next rest)
    → (g least).begins at octets (taken y next rest))
    → ReadsNext n from at es g y (λ l. n + 1)
present {X} {Y} n c from at es x g y small r h each =
    let s = rising-splits n from at es r in
    let place = at + length (elements_octets s.run) in
    let carries = carried n at place es s.run s.rest from s.whole s.passes refl in
    let behind : HasElement (160 + n) c place s.rest x = has-behind (160 + n) c at s.run s.rest x
    (passes-lacks n n from s.run (omega arith) small s.passes)
    (subst (λ (xs : List AnyElement). HasElement (160 + n) c at xs x) s.whole h) in
    let f = found n c (after_run from s.run) place s.rest x small s.rises s.beyond behind in
    let e = f.element in
    let octets = element_octets e ++ elements_octets f.rest in
    let first : has_tag (160 + n) octets ≡ true = tagged-first (160 + n) e
    (elements_octets f.rest) f.tagged in
    record {
      least = after_run from s.run;
      place = place;
      middle = octets;
      passed = splits-rising n from at es (taken (after_run from s.run) place octets)
          (subst (λ (xs : List AnyElement).
          (rising_within n (length (elements_octets es)) from).begins at (elements_octets es)
          (taken (after_run from s.run) place (elements_octets xs))) f.whole s.begins);
      next = place + length (element_octets e);
      rest = f.rest;
      reads = each (after_run from s.run) place octets (place + length (element_octets e))
          (elements_octets f.rest) f.enough first
          (element-part (160 + n) c place e (elements_octets f.rest) x f.sound f.tagged f.spelled);
      rises = f.rises;
      carries = λ m lt less Z d z k. carried_on n place e f.rest small f.sound f.tagged m lt less Z
          d z (subst (λ (xs : List AnyElement). HasElement (160 + m) d place xs z) f.whole
          (carries m lt less Z d z k));
      front = s.run ++ e ∷ [];
      whole = s.whole ∙ ap (λ (xs : List AnyElement). s.run ++ xs) f.whole
          ∙ sym (append_assoc s.run (e ∷ []) f.rest);
    }

pub named : {X : Type 0} (n : ℕ) (c : Contents X) (from at : ℕ) (es : List AnyElement) (x : X)
    → n < 31 → RisesFrom from es → HasElement (160 + n) c at es x
    → ReadsNext n from at es (named_in n c) x (λ l. n + 1)
unfolding named_in branch_in
named n c from at es x small r h = present n c from at es x (named_in n c) x small r h
    (λ least at octets next rest enough first b. inl (le-leb least n enough, b))

-- or it is absent
missing : {X : Type 0} (n : ℕ) (c : Contents X) (from at : ℕ) (es : List AnyElement) → n < 31
    → RisesFrom from es → LacksElement (160 + n) es
    → ReadsNext n from at es (perhaps_in n c) None (λ l. l)
unfolding perhaps_in maybe_in branch_in gives
missing {X} n c from at es small r lacks =
    let s = rising-splits n from at es r in
    let least = after_run from s.run in
    let place = at + length (elements_octets s.run) in
    let octets = elements_octets s.rest in
    let other = not_first n s.rest least small s.rises
    (lacks-behind (160 + n) s.run s.rest (subst (LacksElement (160 + n)) s.whole lacks)) in
    record {
      least = least;
      place = place;
      middle = octets;
      passed = splits-rising n from at es (taken least place octets) s.begins;
      next = place;
      rest = s.rest;
      reads = elim (cases_Bool (nat_le least n)) [
        | inl le ↦ inl
            (le, inr (other, refl))
        | inr late ↦ inr (late, refl)
      ];
      rises = s.rises;
      carries = carried n at place es s.run s.rest from s.whole s.passes refl;
      front = s.run;
      whole = s.whole;
    }

pub perhaps : {X : Type 0} (n : ℕ) (c : Contents X) (from at : ℕ) (es : List AnyElement)
    (o : Option X) → n < 31 → RisesFrom from es → MayHaveElement (160 + n) c at es o
    → ReadsNext n from at es (perhaps_in n c) o (λ l. least_after n l o)
unfolding perhaps_in maybe_in map_in branch_in
perhaps n c from at es None small r h = missing n c from at es small r h
perhaps n c from at es (Some x) small r h = present n c from at es x (perhaps_in n c)
    (Some x) small r h (λ least at octets next rest enough first b. inl
    (le-leb least n enough, inl (first, (taken x next rest, b, refl))))

-- ---- the last elements

heads : (x y : ℕ) (xs ys : List ℕ) → (x ∷ xs) ≡ (y ∷ ys) → x ≡ y
heads x y xs ys e = ap (λ (zs : List ℕ). get_or zs 0 0) e

number_most : (tag : Tag) (tagged more : List ℕ) → SpellsTag tag tagged → IsOctets (tagged ++ more)
    → (tag.number ≤ 16383) × (tagged ≢ 16543 ∷ [])
number_most tag [] more s os = elim s [ ]
number_most tag (first ∷ []) more s os =
    let number : tag.number ≡ first % 32 = ap (λ (t : Tag). t.number) s.1 in (
      omega (arith, number),
      λ is. let one = ap (λ (xs : List ℕ). length xs) is in let bound = os 0 in omega
          (arith, bound, heads first 16543 [] [] is),
    )
number_most tag (first ∷ low ∷ []) more s os =
    let number : tag.number ≡ low = ap (λ (t : Tag). t.number) s.2 in (
      omega (arith, number, s.1),
      λ is. let one = ap (λ (xs : List ℕ). length xs) is in omega (arith, one),
    )
number_most tag (first ∷ high ∷ low ∷ []) more s os =
    let number = ap (λ (t : Tag). t.number) s.3 in
    let bound = os 1 in (
      omega (arith, number, s.2, bound),
      λ is. let one = ap (λ (xs : List ℕ). length xs) is in omega (arith, one),
    )
number_most tag (a ∷ b ∷ c ∷ d ∷ more') more s os = elim s [ ]

pub octets_behind : (xs ys : List ℕ) → IsOctets (xs ++ ys) → IsOctets ys
octets_behind xs ys os = subst IsOctets (drop_at xs ys (length xs) refl)
    (IsOctets-drop (length xs) (xs ++ ys) os)

-- these elements, the last ones, are passed over
abbrev pub EndsRising : ℕ → ℕ → List AnyElement → Type 0
EndsRising from at es = (t : Taken ℕ) × (rising_in 16383 from).begins at (elements_octets es) t
    × (t.rest ≡ [])

-- all elements that are left are
pub last : (from at : ℕ) (es : List AnyElement) → RisesFrom from es → IsOctets (elements_octets es)
    → EndsRising from at es
last from at es r os =
    let s = rising-splits 16383 from at es r in
    let t : Taken ℕ = taken (after_run from s.run) (at + length (elements_octets s.run))
    (elements_octets s.rest) in
    let behind : IsOctets (elements_octets s.rest) = octets_behind (elements_octets s.run)
    (elements_octets s.rest)
    (subst IsOctets (ap elements_octets s.whole
    ∙ flat_map-append element_octets s.run s.rest) os) in (
      t,
      splits-rising 16383 from at es t s.begins,
      none s.rest (after_run from s.run) s.rises s.beyond behind,
    )
  where
    none : (rest : List AnyElement) (least : ℕ) → RisesFrom least rest → BeginsBeyond 16383 rest
        → IsOctets (elements_octets rest) → elements_octets rest ≡ []
    none [] least r beyond os = refl
    none (e ∷ rest) least r beyond os =
        let most = number_most e.tag e.tagged (after_tag e (elements_octets rest)) r.0.tag
        (subst IsOctets (element-parts e (elements_octets rest)) os) in
        absurd (elim beyond [ inl above ↦ omega (arith, above, most.0) | inr is ↦ most.1 is ])

octets_left : (es front rest : List AnyElement) → es ≡ front ++ rest → IsOctets (elements_octets es)
    → IsOctets (elements_octets rest)
octets_left es front rest whole os = octets_behind (elements_octets front) (elements_octets rest)
    (subst IsOctets (ap elements_octets whole ∙ flat_map-append element_octets front rest) os)

may_carry : {X Y : Type 0} {g : ℕ → Grammar X} {x : X} {after : ℕ → ℕ} (n from at : ℕ)
    (es : List AnyElement) (p : ReadsNext n from at es g x after) (m : ℕ) (d : Contents Y)
    (o : Option Y) → n < m → m < 31 → MayHaveElement (160 + m) d at es o
    → MayHaveElement (160 + m) d p.next p.rest o
may_carry n from at es p m d None lt small h = lacks-behind (160 + m) p.front p.rest
    (subst (LacksElement (160 + m)) p.whole h)
may_carry n from at es p m d (Some y) lt small h = p.carries m lt small _ d y h

reads_as : {X Y : Type 0} (n from at : ℕ) (es : List AnyElement) (g : ℕ → Grammar X) (x : X)
    (h : ℕ → Grammar Y) (y : Y) (after : ℕ → ℕ) → ReadsNext n from at es g x after
    → ((least place next : ℕ) (middle rest : List ℕ)
    → (g least).begins place middle (taken x next rest)
    → (h least).begins place middle (taken y next rest)) → ReadsNext n from at es h y after
reads_as n from at es g x h y after p each = record {
  least = p.least;
  place = p.place;
  middle = p.middle;
  passed = p.passed;
  next = p.next;
  rest = p.rest;
  reads = each p.least p.place p.next p.middle (elements_octets p.rest) p.reads;
  rises = p.rises;
  carries = p.carries;
  front = p.front;
  whole = p.whole;
}

-- ---- an AARQ

pub attempted_some : (place : ℕ) (os name : List ℕ) → one_oid.spells place name os
    → (attempt one_oid).spells place (Some name) os
unfolding attempt
attempted_some place os name s = inl (name, s, refl)

attempted_none : (place : ℕ) (os : List ℕ) → ((name : List ℕ) → one_oid.spells place name os → ⊥)
    → (attempt one_oid).spells place None os
unfolding attempt
attempted_none place os none = inr (none, refl)

-- an element of the title's tag is absent, or it holds no name
untitled : (at : ℕ) (es : List AnyElement) → HasTitle at es None → LacksElement 166 es
    ⊎ HasElement 166 (attempt one_oid) at es None
untitled at [] none = inl (All-nil (LacksTag 166))
untitled at (e ∷ es) none = by (is_title e.tagged)
    (untitled (at + length (element_octets e)) es (λ name h. none name (inr h)))
  where
    is_title : (tagged : List ℕ) → (tagged ≡ 166 ∷ []) ⊎ (tagged ≢ 166 ∷ [])
    is_title [] = inr (λ is. let one = ap (λ (xs : List ℕ). length xs) is in omega (arith, one))
    is_title (first ∷ []) = elim
        (cases_Bool (eqb first 166)) [
          | inl same ↦ inl
              (ap (λ (k : ℕ). k ∷ []) (eqb-true first 166 same))
          | inr other ↦ inr
              (λ is. eqb-false first 166 other (heads first 166 [] [] is))
        ]
    is_title (first ∷ next ∷ more) = inr
        (λ is. let one = ap (λ (xs : List ℕ). length xs) is in omega (arith, one))

    by : (e.tagged ≡ 166 ∷ []) ⊎ (e.tagged ≢ 166 ∷ []) → LacksElement 166 es
        ⊎ HasElement 166 (attempt one_oid) (at + length (element_octets e)) es None
        → LacksElement 166 (e ∷ es) ⊎ HasElement 166 (attempt one_oid) at (e ∷ es) None
    by (inl is) rest = inr
        (inl (
          is,
          attempted_none (at + length e.tagged + length e.sized) e.contents
              (λ name s. none name (inl (is, s))),
        ))
    by (inr other) (inl lacks) = inl (All-cons (LacksTag 166) e es other lacks)
    by (inr other) (inr has) = inr (inr has)

title_read : (at : ℕ) (es : List AnyElement) (title : Option (List ℕ)) → HasTitle at es title
    → (o : Option (Option (List ℕ))) × MayHaveElement 166 (attempt one_oid) at es o
    × (title ≡ title_of o)
title_read at es None h = elim
    (untitled at es h) [ inl lacks ↦ (None, lacks, refl) | inr has ↦ (Some None, has, refl) ]
title_read at es (Some name) h = (
  Some (Some name),
  has-weaker 166 one_oid (attempt one_oid) name (Some name)
      (λ place os s. attempted_some place os name s) at es h,
  refl,
)

request_in_turn : (e : Expected) (at : ℕ) (es : List AnyElement) (r : AssociateRequest)
    (o : Option (Option (List ℕ))) → r.title ≡ title_of o
    → (one : ReadsNext 1 0 at es (named_in 1 one_oid) r.context (λ l. 2))
    (two : ReadsNext 6 2 one.next one.rest (perhaps_in 6 (attempt one_oid)) o
    (λ l. least_after 6 l o))
    (three : ReadsNext 30 (least_after 6 two.least o) two.next two.rest
    (named_in 30 (user_information e.request_id)) r.user (λ l. 31))
    → EndsRising 31 three.next three.rest → (request e).spells at r (elements_octets es)
unfolding request all_in then_in map_in context_name calling_title user_last
request_in_turn e at es r o is one two three four = (
  taken (aarq_of r.context (titled two.least o) r.user) four.0.next four.0.rest,
  (
    taken r.context one.next (elements_octets one.rest),
    (taken one.least one.place one.middle, one.passed, one.reads),
    (
      taken (titled two.least o) two.next (elements_octets two.rest),
      (
        taken two.least two.place two.middle,
        two.passed,
        (taken o two.next (elements_octets two.rest), two.reads, refl),
      ),
      (
        taken r.user four.0.next four.0.rest,
        (
          taken three.least three.place three.middle,
          three.passed,
          (
            taken r.user three.next (elements_octets three.rest),
            three.reads,
            (four.0, four.1, refl),
          ),
        ),
        refl,
      ),
    ),
  ),
  (
    four.2,
    ap (λ (t : Option (List ℕ)). aarq_of r.context
        (record { title = t; least = least_after 6 two.least o }) r.user) is,
  ),
)

pub request_back : (e : Expected) (at : ℕ) (es : List AnyElement) (r : AssociateRequest)
    (o : Option (Option (List ℕ))) → IsOctets (elements_octets es) → RisesFrom 0 es
    → HasElement 161 one_oid at es r.context → MayHaveElement 166 (attempt one_oid) at es o
    → r.title ≡ title_of o → HasElement 190 (user_information e.request_id) at es r.user
    → (request e).spells at r (elements_octets es)
request_back e at es r o os rises context title is user =
    let one = named 1 one_oid 0 at es r.context (omega arith) rises context in
    let two = perhaps 6 (attempt one_oid) 2 one.next one.rest o (omega arith) one.rises
    (may_carry 1 0 at es one 6 (attempt one_oid) o (omega arith) (omega arith) title) in
    let second = one.carries 30 (omega arith) (omega arith) External
    (user_information e.request_id) r.user user in
    let third = two.carries 30 (omega arith) (omega arith) External
    (user_information e.request_id) r.user second in
    let three = named 30 (user_information e.request_id)
    (least_after 6 two.least o) two.next two.rest r.user (omega arith) two.rises third in
    let left = octets_left two.rest three.front three.rest three.whole
    (octets_left one.rest two.front two.rest two.whole
    (octets_left es one.front one.rest one.whole os)) in
    request_in_turn e at es r o is one two three (last 31 three.next three.rest three.rises left)

pub aarq-spelled : (e : Expected) (at : ℕ) (octets : List ℕ) (es : List AnyElement)
    (r : AssociateRequest) → IsOctets octets → IsAarq e at octets es r
    → (request e).spells at r octets
aarq-spelled e at octets es r os s =
    let t = title_read at es r.title s.title in
    subst (λ (xs : List ℕ). (request e).spells at r xs) (sym s.sequence.parts)
    (request_back e at es r t.0 (subst IsOctets s.sequence.parts os)
    (sequence-rises octets es s.sequence) s.context t.1 t.2 s.user)

-- ---- an AARE

user_reads : (e : Expected) (at : ℕ) (es : List AnyElement) (result : ℕ) (user : Option External)
    → RisesFrom 3 es → MayHaveElement 190 (user_information e.response_id) at es user
    → HasUser result user
    → ReadsNext 30 3 at es (user_of_result e result) user (λ l. least_after 30 l user)
unfolding user_of_result map_in branch_in
user_reads e at es result user rises h accepted = elim (cases_Bool (eqb result 0)) [
  | inr other ↦ reads_as 30 3 at es (perhaps_in 30 (user_information e.response_id)) user
      (user_of_result e result) user (λ l. least_after 30 l user)
      (perhaps 30 (user_information e.response_id) 3 at es user (omega arith) rises h)
      (λ least place next middle rest b. inr (other, b))
  | inl zero_result ↦ accepting zero_result user h accepted
]
  where
    accepting : eqb result 0 ≡ true → (user : Option External)
        → MayHaveElement 190 (user_information e.response_id) at es user → HasUser result user
        → ReadsNext 30 3 at es (user_of_result e result) user (λ l. least_after 30 l user)
    accepting is None h accepted = absurd (accepted (eqb-true result 0 is))
    accepting is (Some user) h accepted = reads_as 30 3 at es
        (named_in 30 (user_information e.response_id)) user (user_of_result e result) (Some user)
        (λ l. 31) (named 30 (user_information e.response_id) 3 at es user (omega arith) rises h)
        (λ least place next middle rest b. inl (is, (taken user next rest, b, refl)))

response_in_turn : (e : Expected) (at : ℕ) (es : List AnyElement) (name : Option (List ℕ))
    (r : AssociateResponse)
    (one : ReadsNext 1 0 at es (perhaps_in 1 one_oid) name (λ l. least_after 1 l name))
    (two : ReadsNext 2 (least_after 1 one.least name) one.next one.rest
    (named_in 2 (result_number e)) r.result (λ l. 3))
    (three : ReadsNext 30 3 two.next two.rest (user_of_result e r.result) r.user
    (λ l. least_after 30 l r.user))
    → EndsRising (least_after 30 three.least r.user) three.next three.rest
    → (response e).spells at r (elements_octets es)
unfolding response all_in then_in map_in context_passed result_next some_user_last
response_in_turn e at es name r one two three four = (
  taken (aare_of r.result r.user) four.0.next four.0.rest,
  (
    taken (least_after 1 one.least name) one.next (elements_octets one.rest),
    (
      taken one.least one.place one.middle,
      one.passed,
      (taken name one.next (elements_octets one.rest), one.reads, refl),
    ),
    (
      taken r.result two.next (elements_octets two.rest),
      (taken two.least two.place two.middle, two.passed, two.reads),
      (
        taken r.user four.0.next four.0.rest,
        (
          taken three.least three.place three.middle,
          three.passed,
          (
            taken r.user three.next (elements_octets three.rest),
            three.reads,
            (four.0, four.1, refl),
          ),
        ),
        refl,
      ),
    ),
  ),
  (four.2, refl),
)

response_back : (e : Expected) (at : ℕ) (es : List AnyElement) (name : Option (List ℕ))
    (r : AssociateResponse) → IsOctets (elements_octets es) → RisesFrom 0 es
    → MayHaveElement 161 one_oid at es name → HasElement 162 (result_number e) at es r.result
    → MayHaveElement 190 (user_information e.response_id) at es r.user → HasUser r.result r.user
    → (response e).spells at r (elements_octets es)
response_back e at es name r os rises context result user accepted =
    let one = perhaps 1 one_oid 0 at es name (omega arith) rises context in
    let from = least_after 1 one.least name in
    let two = named 2 (result_number e) from one.next one.rest r.result (omega arith) one.rises
    (one.carries 2 (omega arith) (omega arith) ℕ (result_number e) r.result result) in
    let second = may_carry 1 0 at es one 30 (user_information e.response_id) r.user (omega arith)
    (omega arith) user in
    let third = may_carry 2 from one.next one.rest two 30 (user_information e.response_id) r.user
    (omega arith) (omega arith) second in
    let three = user_reads e two.next two.rest r.result r.user two.rises third accepted in
    let left = octets_left two.rest three.front three.rest three.whole
    (octets_left one.rest two.front two.rest two.whole
    (octets_left es one.front one.rest one.whole os)) in
    response_in_turn e at es name r one two three
    (last (least_after 30 three.least r.user) three.next three.rest three.rises left)

pub aare-spelled : (e : Expected) (at : ℕ) (octets : List ℕ) (es : List AnyElement)
    (r : AssociateResponse) → IsOctets octets → IsAare e at octets es r
    → (response e).spells at r octets
aare-spelled e at octets es r os s =
    subst (λ (xs : List ℕ). (response e).spells at r xs) (sym s.sequence.parts)
    (response_back e at es s.name r (subst IsOctets s.sequence.parts os)
    (sequence-rises octets es s.sequence) s.context s.result s.user s.accepted)
