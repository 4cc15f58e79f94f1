-- The pages of names of a node that answers by the table, one after another.
use Rattle.std.proofs.Common.{◌≡◌, ℕ, zero, suc, ◌+◌, ◌-◌, ◌<◌, ◌≤◌, Bool, true, false, not, ◌⊎◌}
use Rattle.std.proofs.Common.{inl, inr, List, [], ◌∷◌, ◌++◌, length, take, drop, map, Option, Some, None}
use Rattle.std.proofs.Common.{refl, sym, ap, ◌∙◌, subst, arith, ⊎_elim, append_assoc, append-nil, take_all}
use Rattle.std.specs.Prelude.{if◌then◌else◌, filter, nat_lt, slice_get, option_and_then, option_map}
use Rattle.std.proofs.lemmas.Bool.{false≢true, cases_lt, ltb-true, ltb-false, le-ltb}
use Rattle.std.proofs.lemmas.List.{length-append, length-drop, length-map, map-append, take-append-drop}
use Rattle.mms_data.specs.declared.object_name.Scope.{Scope}
use Rattle.mms_data.specs.declared.object_name.Scope.TheVariants.{Domain}
use Rattle.mms_data.specs.ObjectName.{ObjectName, same_scope}
use Rattle.tase_views.specs.declared.call.CallKind.{CallKind}
use Rattle.tase_views.specs.declared.call.CallKind.TheVariants as calls
use Rattle.tase_views.specs.declared.call.TheConstants.{NAMED_VARIABLES}
use Rattle.tase_views.specs.declared.reply.ReplyKind.{ReplyKind}
use Rattle.tase_views.specs.declared.reply.ReplyKind.TheVariants.{NamesAre, Error}
use Rattle.tase_views.specs.declared.reply.TheConstants.{ACCESS_ERRORS, NON_EXISTENT}
use Rattle.tase_views.specs.OwnTables.{OwnTable, OwnTables}
use Rattle.tase_views.specs.Objects.{objects}
use Rattle.tase_views.specs.NameLists.{variables_in, in_order, is_after, is_below, first_of, is_foreign}
use Rattle.tase_views.specs.NameLists.{names_listed}
use Rattle.tase_views.specs.View.{View, held}
use Rattle.tase_views.specs.Answers.{reply_to, set_names}
use Rattle.tase_discover.specs.declared.end.Stage.{Stage}
use Rattle.tase_discover.specs.declared.end.ListingEnd.TheVariants as endings
use Rattle.tase_discover.specs.declared.end.TheConstants.{MOST_NAMES}
use Rattle.asking_end.specs.declared.next.Next.TheVariants as nexts
use Rattle.tase_discover.specs.Listings.{ListingSeen, Heeded, heeded, listing_call}
use Rattle.tase_discover.specs.Listings.{reply_heeded, reply_shown, page_heeded, page_judged}
use Rattle.tase_discover.specs.Listings.{page_ordered, first_fallen, last_item, item_in, named_in}
use Rattle.tase_discover.specs.Listings.{names_with, scope_of, scope_ended, is_empty, closing_at}
use Rattle.tase_discover.specs.Listings.{type_shown}
use Rattle.tase_discover.specs.SelfListings.{Differ, heard_after, next_at, AreReplies}
use Rattle.tase_discover.proofs.Rising.{Rises, Under, Rises-in_order, filter-in_order, behind}
use Rattle.tase_discover.proofs.Rising.{all_after, Rises-behind, Under-behind, Under-take, Rises-take}

-- ---- the last of names

pub there : {A : Type 0} (some : List A) (x : A) (more : List A)
    → slice_get (some ++ (x ∷ more)) (length some) ≡ Some x
there [] x more = refl
there (s ∷ some) x more = there some x more

pub last_of : {A : Type 0} (some : List A) (x : A)
    → slice_get (some ++ (x ∷ [])) (length (some ++ (x ∷ [])) - 1) ≡ Some x
last_of {A = A} some x =
    let e : length (some ++ (x ∷ [])) - 1 ≡ length some =
    omega (arith, length-append some (x ∷ [])) in
    ap (slice_get (some ++ (x ∷ []))) e ∙ there some x []

pub record Ending (xs : List (List ℕ)) : Type 0 where
  pub front : List (List ℕ)
  pub last : List ℕ
  pub is : xs ≡ front ++ (last ∷ [])

pub ending : (x : List ℕ) (xs : List (List ℕ)) → Ending (x ∷ xs)
ending x [] = record { front = []; last = x; is = refl }
ending x (y ∷ ys) =
    let e = ending y ys in record {
      front = x ∷ e.front;
      last = e.last;
      is = ap (λ (ns : List (List ℕ)). x ∷ ns) e.is;
    }

pub last_named : (scope : Scope) → same_scope scope scope ≡ true → (others : List ObjectName)
    (front : List (List ℕ)) (last : List ℕ)
    → last_item scope (others ++ map (named_in scope) (front ++ (last ∷ []))) ≡ Some last
last_named scope self others front last =
    let all : others ++ map (named_in scope) (front ++ (last ∷ []))
    ≡ (others ++ map (named_in scope) front) ++ (named_in scope last ∷ []) =
    ap (λ (ns : List ObjectName). others ++ ns)
    (map-append (named_in scope) front (last ∷ []))
    ∙ sym (append_assoc others (map (named_in scope) front) (named_in scope last ∷ [])) in
    ap (last_item scope) all
    ∙ ap (option_and_then (item_in scope))
    (last_of (others ++ map (named_in scope) front) (named_in scope last))
    ∙ ap (λ (b : Bool). if b then Some last else None) self

-- ---- a page in order

abbrev AllAbove : Option (List ℕ) → List (List ℕ) → Type 0
AllAbove None items = Unit {0}
AllAbove (Some x) items = Under x items

above_here : (before : Option (List ℕ)) (item : List ℕ) (items : List (List ℕ))
    → AllAbove before (item ∷ items) → is_after before item ≡ true
above_here None item items a = refl
above_here (Some x) item items a = a.0

rising : (before : Option (List ℕ)) (items : List (List ℕ)) → AllAbove before items
    → Rises items → first_fallen before items ≡ None
rising before [] a r = refl
rising before (item ∷ items) a r =
    ap (λ (b : Bool). if b
    then option_map (λ (place : ℕ). place + 1) (first_fallen (Some item) items) else Some 0)
    (above_here before item items a)
    ∙ ap (option_map (λ (place : ℕ). place + 1)) (rising (Some item) items r.0 r.1)

above-take : (before : Option (List ℕ)) (n : ℕ) (items : List (List ℕ)) → AllAbove before items
    → AllAbove before (take n items)
above-take None n items a = tt
above-take (Some x) n items a = Under-take n x items a

-- ---- what a page comes to

fourth : {X : Type 0} (a b c d : X) (p q r : Bool) → p ≡ false → q ≡ false → r ≡ false
    → (if p then a else (if q then b else (if r then c else d))) ≡ d
fourth a b c d true q r e f g = absurd (false≢true (sym e))
fourth a b c d false true r e f g = absurd (false≢true (sym f))
fourth a b c d false false true e f g = absurd (false≢true (sym g))
fourth a b c d false false false e f g = refl

second : {X : Type 0} (a b c : X) (p q : Bool) → p ≡ false → q ≡ true
    → (if p then a else (if q then b else c)) ≡ b
second a b c true q e f = absurd (false≢true (sym e))
second a b c false false e f = absurd (false≢true f)
second a b c false true e f = refl

some_items : (n : ℕ) (items : List (List ℕ)) → n < length items
    → is_empty (take (suc n) items) ≡ false
some_items n [] few = absurd (omega (arith, few))
some_items n (item ∷ items) few = refl

false_of : (a b : ℕ) → b ≤ a → nat_lt a b ≡ false
false_of a b le = le-ltb a b le

module _ (domain : Scope) (s : ListingSeen) (items : List (List ℕ))
    (after : Option (List ℕ)) (last : last_item (scope_of domain s.stage) s.names ≡ after)
    (above : AllAbove after items) (rises : Rises items)
    (few : length s.names + length items ≤ MOST_NAMES) where
  in_place : (more : Bool) → page_heeded domain s items more ≡ page_ordered domain s items more
  in_place more =
      ap (page_judged domain s items more)
      (ap (λ (before : Option (List ℕ)). first_fallen before items) last
      ∙ rising after items above rises)

  not_many : nat_lt MOST_NAMES (length s.names + length items) ≡ false
  not_many = false_of MOST_NAMES (length s.names + length items) few

  goes_on : is_empty items ≡ false
      → page_heeded domain s items true ≡ heeded (names_with domain s items) nexts.Ask
  goes_on some =
      in_place true
      ∙ fourth (heeded (names_with domain s items) (nexts.End endings.TooMany))
      (scope_ended s.stage (names_with domain s items)) (heeded s (nexts.End endings.Other))
      (heeded (names_with domain s items) nexts.Ask)
      (nat_lt MOST_NAMES (length s.names + length items)) (not true) (is_empty items) not_many refl
      some

  ends : page_heeded domain s items false ≡ scope_ended s.stage (names_with domain s items)
  ends =
      in_place false
      ∙ second (heeded (names_with domain s items) (nexts.End endings.TooMany))
      (scope_ended s.stage (names_with domain s items))
      (if is_empty items then heeded s (nexts.End endings.Other)
      else heeded (names_with domain s items) nexts.Ask)
      (nat_lt MOST_NAMES (length s.names + length items)) (not false) not_many refl

-- ---- the node's page

-- the last of names, if there is one
abbrev LastIs : List (List ℕ) → Option (List ℕ) → Type 0
LastIs [] after = after ≡ None
LastIs (d ∷ done) after = after ≡ Some (ending d done).last

above_left : (done left : List (List ℕ)) → Rises (done ++ left) → (after : Option (List ℕ))
    → LastIs done after → AllAbove after left
above_left [] left r after is = subst (λ (a : Option (List ℕ)). AllAbove a left) (sym is) tt
above_left (d ∷ done) left r after is =
    let e = ending d done in
    let all : (d ∷ done) ++ left ≡ e.front ++ (e.last ∷ left) =
    ap (λ (ns : List (List ℕ)). ns ++ left) e.is ∙ append_assoc e.front (e.last ∷ []) left in
    subst (λ (a : Option (List ℕ)). AllAbove a left) (sym is)
    (Under-behind e.front e.last left (subst Rises all r))

reply_names : (tables : OwnTables) (view : View) (ordinal : ℕ) (table : OwnTable) (scope : Scope)
    (after : Option (List ℕ)) → held tables view ≡ table → is_foreign table scope ≡ false
    → Differ (variables_in table (objects table) scope)
    → reply_to tables view ordinal (calls.NameList NAMED_VARIABLES scope after)
    ≡ first_of (filter (is_after after) (in_order (variables_in table (objects table) scope)))
reply_names tables view ordinal table scope after same own differ =
    ap (λ (t : OwnTable). names_listed t (objects t) (set_names tables view) NAMED_VARIABLES scope
    after) same
    ∙ ap (λ (b : Bool). if b then Error ACCESS_ERRORS NON_EXISTENT
    else first_of (in_order (filter (is_after after)
    (variables_in table (objects table) scope)))) own
    ∙ ap first_of (filter-in_order (is_after after) (variables_in table (objects table) scope)
    differ)

-- what goes on behind the last of those that came is what is left
left_after : (done left : List (List ℕ)) → Rises (done ++ left) → (after : Option (List ℕ))
    → LastIs done after → filter (is_after after) (done ++ left) ≡ left
left_after [] left r after is =
    ap (λ (a : Option (List ℕ)). filter (is_after a) left) is ∙ all_after left
left_after (d ∷ done) left r after is =
    let e = ending d done in
    let all : (d ∷ done) ++ left ≡ e.front ++ (e.last ∷ left) =
    ap (λ (ns : List (List ℕ)). ns ++ left) e.is ∙ append_assoc e.front (e.last ∷ []) left in
    ap (λ (a : Option (List ℕ)). filter (is_after a) ((d ∷ done) ++ left)) is
    ∙ ap (filter (is_below e.last)) all
    ∙ behind e.front e.last left (subst Rises all r)

-- ---- one reply after another

before_or_now : (k n : ℕ) → k < suc n → (k < n) ⊎ (k ≡ n)
before_or_now k n lt =
    ⊎_elim (λ less. inl less) (λ more. inr (omega (arith, lt, more))) (cases_lt k n)

-- after so many replies a listing stands here, has shown this, and has asked on each time
pub record StandsAt (table : OwnTable) (replies : ℕ → ReplyKind) (n : ℕ) (s : ListingSeen)
    (shown : List ℕ) : Type 0 where
  pub seen : (heard_after table replies n).seen ≡ s
  pub told : (heard_after table replies n).shown ≡ shown
  pub asks : (k : ℕ) → k < n → next_at table replies k ≡ nexts.Ask

pub next_stands : (table : OwnTable) (replies : ℕ → ReplyKind) (n : ℕ) (s t : ListingSeen)
    (shown : List ℕ) → StandsAt table replies n s shown
    → reply_heeded table s (replies n) ≡ heeded t nexts.Ask
    → StandsAt table replies (suc n) t (shown ++ type_shown s (replies n))
next_stands table replies n s t shown st is =
    let here : reply_heeded table (heard_after table replies n).seen (replies n)
    ≡ heeded t nexts.Ask =
    ap (λ (x : ListingSeen). reply_heeded table x (replies n)) st.seen ∙ is in record {
      seen = ap (λ (h : Heeded). h.seen) here;
      told =
          ap (λ (x : ListingSeen). (heard_after table replies n).shown
          ++ reply_shown table x (replies n)) st.seen
          ∙ ap (λ (os : List ℕ). os ++ reply_shown table s (replies n)) st.told
          ∙ ap (λ (h : Heeded). shown ++ (type_shown s (replies n)
          ++ closing_at h.next table h.seen)) is
          ∙ ap (λ (os : List ℕ). shown ++ os) (append-nil (type_shown s (replies n)));
      asks = λ k lt. ⊎_elim (λ less. st.asks k less)
          (λ now. subst (λ (j : ℕ). next_at table replies j ≡ nexts.Ask) (sym now)
          (ap (λ (h : Heeded). h.next) here)) (before_or_now k n lt);
    }

abbrev pub so_far : Stage → List ObjectName → List Bool → ListingSeen
so_far stage names judged = record { stage = stage; names = names; judged = judged }

-- ---- all names of a scope

module _ (tables : OwnTables) (table : OwnTable) (ordinal : ℕ) (replies : ℕ → ReplyKind)
    (answered : AreReplies table replies tables ordinal) where
  -- the reply to a call that is asked
  pub replied : (n : ℕ) (s : ListingSeen) (shown : List ℕ) (call : CallKind)
      → StandsAt table replies n s shown → listing_call table s ≡ Some call
      → (view : View) × ((held tables view ≡ table)
      × (replies n ≡ reply_to tables view ordinal call))
  replied n s shown call st is =
      let a = answered n in (
        a.0,
        (a.1.0, a.1.1 call (ap (listing_call table) st.seen ∙ is)),
      )

  module _ (stage : Stage) (scope : Scope) (others : List ObjectName)
      (heeds : (names : List ObjectName) (items : List (List ℕ)) (more : Bool)
      → reply_heeded table (so_far stage names []) (NamesAre items more)
      ≡ page_heeded (Domain table.domain) (so_far stage names []) items more)
      (place : scope_of (Domain table.domain) stage ≡ scope)
      (asks : (names : List ObjectName) → listing_call table (so_far stage names [])
      ≡ Some (calls.NameList NAMED_VARIABLES scope (last_item scope names)))
      (none : last_item scope others ≡ None) (self : same_scope scope scope ≡ true)
      (own : is_foreign table scope ≡ false)
      (differ : Differ (variables_in table (objects table) scope))
      (few : length others + length (in_order (variables_in table (objects table) scope))
      ≤ MOST_NAMES) where
    abbrev names : List (List ℕ)
    names = in_order (variables_in table (objects table) scope)

    abbrev with_done : List (List ℕ) → List ObjectName
    with_done done = others ++ map (named_in scope) done

    last_done : (done : List (List ℕ)) → (after : Option (List ℕ))
        × ((last_item scope (with_done done) ≡ after) × LastIs done after)
    last_done [] = (None, (ap (last_item scope) (append-nil others) ∙ none, refl))
    last_done (d ∷ done) =
        let e = ending d done in (
          Some e.last,
          (
            ap (λ (ns : List (List ℕ)). last_item scope (with_done ns)) e.is
                ∙ last_named scope self others e.front e.last,
            refl,
          ),
        )

    more_done : (done items : List (List ℕ))
        → names_with (Domain table.domain) (so_far stage (with_done done) []) items
        ≡ so_far stage (with_done (done ++ items)) []
    more_done done items =
        ap (λ (s : Scope). so_far stage (with_done done ++ map (named_in s) items) []) place
        ∙ ap (λ (ns : List ObjectName). so_far stage ns [])
        (append_assoc others (map (named_in scope) done) (map (named_in scope) items)
        ∙ ap (λ (ns : List ObjectName). others ++ ns)
        (sym (map-append (named_in scope) done items)))

    pub record LastPage : Type 0 where
      pub count : ℕ
      pub seen : ListingSeen
      pub stands : StandsAt table replies count seen []
      pub heard : reply_heeded table seen (replies count)
          ≡ scope_ended stage (so_far stage (with_done names) [])
      pub quiet : type_shown seen (replies count) ≡ []

    counted : (done left : List (List ℕ)) → done ++ left ≡ names → (n : ℕ)
        → length (with_done done) + length (take n left) ≤ MOST_NAMES
    counted done left is n =
        omega (
          arith,
          few,
          ap length is,
          length-append done left,
          length-append others (map (named_in scope) done),
          length-map done (named_in scope),
          ap length (take-append-drop n left),
          length-append (take n left) (drop n left),
        )

    pages : (fuel : ℕ) (done left : List (List ℕ)) → length left ≤ fuel → done ++ left ≡ names
        → (n : ℕ) → StandsAt table replies n (so_far stage (with_done done) []) []
        → (b : Bool) → nat_lt 100 (length left) ≡ b → LastPage
    pages fuel done left within is n st false e =
        let s = so_far stage (with_done done) [] in
        let l = last_done done in
        let r : Rises (done ++ left) = subst Rises (sym is)
        (Rises-in_order (variables_in table (objects table) scope) differ) in
        let a = replied n s [] (calls.NameList NAMED_VARIABLES scope (last_item scope s.names)) st
        (asks (with_done done)) in
        let reply : replies n ≡ first_of left =
        a.1.1 ∙ ap (λ (after : Option (List ℕ)).
        reply_to tables a.0 ordinal (calls.NameList NAMED_VARIABLES scope after)) l.1.0
        ∙ reply_names tables a.0 ordinal table scope l.0 a.1.0 own differ
        ∙ ap (λ (ns : List (List ℕ)). first_of (filter (is_after l.0) ns)) (sym is)
        ∙ ap first_of (left_after done left r l.0 l.1.1) in
        let rest : take 100 left ≡ left = take_all 100 left (ltb-false 100 (length left) e) in
        let page : replies n ≡ NamesAre left false =
        reply ∙ ap (λ (b : Bool). NamesAre (take 100 left) b) e
        ∙ ap (λ (ns : List (List ℕ)). NamesAre ns false) rest in
        let total : length (with_done done) + length left ≤ MOST_NAMES =
        omega (arith, counted done left is 100, ap length rest) in
        record {
          count = n;
          seen = s;
          stands = st;
          heard =
              ap (reply_heeded table s) page ∙ heeds (with_done done) left false
              ∙ ends (Domain table.domain) s left l.0
              (ap (λ (x : Scope). last_item x (with_done done)) place ∙ l.1.0)
              (above_left done left r l.0 l.1.1) (Rises-behind done left r) total
              ∙ ap (scope_ended stage) (more_done done left)
              ∙ ap (λ (ns : List (List ℕ)). scope_ended stage (so_far stage (with_done ns) [])) is;
          quiet = ap (type_shown s) page;
        }
    pages zero done left within is n st true e =
        absurd (omega (arith, within, ltb-true 100 (length left) e))
    pages (suc fuel) done left within is n st true e =
        let s = so_far stage (with_done done) [] in
        let l = last_done done in
        let r : Rises (done ++ left) = subst Rises (sym is)
        (Rises-in_order (variables_in table (objects table) scope) differ) in
        let a = replied n s [] (calls.NameList NAMED_VARIABLES scope (last_item scope s.names)) st
        (asks (with_done done)) in
        let items = take 100 left in
        let reply : replies n ≡ first_of left =
        a.1.1 ∙ ap (λ (after : Option (List ℕ)).
        reply_to tables a.0 ordinal (calls.NameList NAMED_VARIABLES scope after)) l.1.0
        ∙ reply_names tables a.0 ordinal table scope l.0 a.1.0 own differ
        ∙ ap (λ (ns : List (List ℕ)). first_of (filter (is_after l.0) ns)) (sym is)
        ∙ ap first_of (left_after done left r l.0 l.1.1) in
        let page : replies n ≡ NamesAre items true =
        reply ∙ ap (λ (b : Bool). NamesAre items b) e in
        let many : 100 < length left = ltb-true 100 (length left) e in
        let heard : reply_heeded table s (replies n)
        ≡ heeded (so_far stage (with_done (done ++ items)) []) nexts.Ask =
        ap (reply_heeded table s) page ∙ heeds (with_done done) items true
        ∙ goes_on (Domain table.domain) s items l.0
        (ap (λ (x : Scope). last_item x (with_done done)) place ∙ l.1.0)
        (above-take l.0 100 left (above_left done left r l.0 l.1.1))
        (Rises-take 100 left (Rises-behind done left r)) (counted done left is 100)
        (some_items 99 left (omega (arith, many)))
        ∙ ap (λ (t : ListingSeen). heeded t nexts.Ask) (more_done done items) in
        let quiet : type_shown s (replies n) ≡ [] = ap (type_shown s) page in
        let stands : StandsAt table replies (suc n) (so_far stage (with_done (done ++ items)) []) [] =
        subst (λ (os : List ℕ). StandsAt table replies (suc n)
        (so_far stage (with_done (done ++ items)) []) os) quiet
        (next_stands table replies n s (so_far stage (with_done (done ++ items)) []) [] st heard) in
        pages fuel (done ++ items) (drop 100 left)
        (omega (arith, within, many, length-drop 100 left))
        (append_assoc done items (drop 100 left)
        ∙ ap (λ (ns : List (List ℕ)). done ++ ns) (take-append-drop 100 left) ∙ is)
        (suc n) stands (nat_lt 100 (length (drop 100 left))) refl

    pub all_pages : (n : ℕ) → StandsAt table replies n (so_far stage others []) [] → LastPage
    all_pages n st =
        pages (length names) [] names (omega arith) refl n
        (subst (λ (ns : List ObjectName). StandsAt table replies n (so_far stage ns []) [])
        (sym (append-nil others)) st) (nat_lt 100 (length names)) refl
