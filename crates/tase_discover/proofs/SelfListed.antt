-- A node that answers by the table against which it is held lists exactly that table.
use Rattle.std.proofs.Common.{◌≡◌, ℕ, suc, ◌+◌, ◌≤◌, Bool, true, false, not}
use Rattle.std.proofs.Common.{List, [], ◌∷◌, ◌++◌, length, map, Option, Some, None, is_some, flat_map}
use Rattle.std.proofs.Common.{refl, sym, ap, ◌∙◌, subst, arith, append_assoc, append-nil}
use Rattle.std.specs.Prelude.{if◌then◌else◌, slice_get, option_map, option_and_then}
use Rattle.std.specs.Option.{option_map_or}
use Rattle.std.proofs.lemmas.Bool.{false≢true, lt-ltb, le-ltb}
use Rattle.std.proofs.lemmas.List.{length-append, length-map, map-append}
use Rattle.std.proofs.lemmas.Grind.{flat_map-append}
use Rattle.mms_data.specs.declared.object_name.Scope.{Scope}
use Rattle.mms_data.specs.declared.object_name.Scope.TheVariants.{Vmd, Domain}
use Rattle.mms_data.specs.ObjectName.{ObjectName}
use Rattle.mms_data.specs.Types.SameShape.{same_shape, same_shape-Decides}
use Rattle.tase_views.specs.declared.call.CallKind.TheVariants as calls
use Rattle.tase_views.specs.declared.reply.ReplyKind.{ReplyKind}
use Rattle.tase_views.specs.declared.reply.ReplyKind.TheVariants.{TypeIs}
use Rattle.tase_views.specs.OwnTables.{OwnTable, OwnTables}
use Rattle.tase_views.specs.Objects.{Object, objects, object_named}
use Rattle.tase_views.specs.Shapes.{shape_of, type_replied}
use Rattle.tase_views.specs.NameLists.{variables_in, in_order, with_name, is_below}
use Rattle.tase_discover.specs.declared.end.Stage.TheVariants as stages
use Rattle.tase_discover.specs.declared.end.TheConstants.{MOST_NAMES}
use Rattle.asking_end.specs.declared.next.Next.TheVariants as nexts
use Rattle.tase_discover.specs.Listings.{ListingSeen, Heeded, heeded, listing_call}
use Rattle.tase_discover.specs.Listings.{named_in, reply_heeded, reply_shown, type_judged, next_type}
use Rattle.tase_discover.specs.Listings.{are_judged, is_type_of, name_asked, type_line, type_shown}
use Rattle.tase_discover.specs.Listings.{closing_at, items_in, is_same, is_empty}
use Rattle.tase_discover.specs.Listings.{listed_names, last_item, item_in}
use Rattle.tase_discover.specs.SelfListings.{heard_after, AreReplies, name_shown}
use Rattle.tase_discover.specs.SelfListings.{NamesDiffer, ListsItself}
use Rattle.tase_discover.proofs.Rising.{if_elim}
use Rattle.tase_discover.proofs.Paged.{there, so_far, StandsAt, next_stands, replied}
use Rattle.tase_discover.proofs.Paged.{all_pages, ending, last_of}
use Rattle.tase_discover.proofs.Typed.{Every, HasObject, alike, all_found, all_alike, nothing_shown}
use Rattle.tase_discover.proofs.Typed.{all_same, same_octets}

-- ---- the type of one name

pub record ObjectIs (o : Option Object) : Type 0 where
  pub object : Object
  pub is : o ≡ Some object

object_is : (o : Option Object) → is_some o ≡ true → ObjectIs o
object_is (Some object) e = record { object = object; is = refl }
object_is None e = absurd (false≢true e)

-- what a listing comes to, and shows, by the type of the name that it asks
pub record TypeTold (table : OwnTable) (s t : ListingSeen) (reply : ReplyKind)
    (name : ObjectName) : Type 0 where
  pub heard : reply_heeded table s reply ≡ heeded t (next_type t)
  pub shown : type_shown s reply ≡ name_shown table name

type_told : (table : OwnTable) (names done : List ObjectName) (name : ObjectName)
    (more : List ObjectName) (reply : ReplyKind) → names ≡ done ++ (name ∷ more)
    → ObjectIs (object_named table name) → reply ≡ type_replied (object_named table name)
    → TypeTold table (so_far stages.Types names (alike done))
    (so_far stages.Types names (alike (done ++ (name ∷ [])))) reply name
type_told table names done name more reply is o answered =
    let s = so_far stages.Types names (alike done) in
    let shape = shape_of o.object in
    let asked : name_asked s ≡ Some name =
    ap (λ (ns : List ObjectName). slice_get ns (length (alike done))) is
    ∙ ap (slice_get (done ++ (name ∷ more))) (length-map done (λ _. true))
    ∙ there done name more in
    let told : reply ≡ TypeIs shape = answered ∙ ap type_replied o.is in
    let judged : is_type_of table name shape ≡ true =
    ap (λ (x : Option Object). option_map_or (λ (y : Object). same_shape (shape_of y) shape) x
    false) o.is ∙ (same_shape-Decides shape shape).1 refl in
    let marks : alike done ++ (is_type_of table name shape ∷ []) ≡ alike (done ++ (name ∷ [])) =
    ap (λ (b : Bool). alike done ++ (b ∷ [])) judged
    ∙ sym (map-append (λ _. true) done (name ∷ [])) in record {
      heard =
          ap (reply_heeded table s) told
          ∙ ap (type_judged table s shape) asked
          ∙ ap (λ (bs : List Bool). heeded (so_far stages.Types names bs)
          (next_type (so_far stages.Types names bs))) marks;
      shown =
          ap (type_shown s) told
          ∙ ap (λ (n : Option ObjectName). option_map_or (λ (x : ObjectName). type_line x shape) n
          []) asked
          ∙ sym (ap (λ (x : Option Object). option_map_or
          (λ (y : Object). type_line name (shape_of y)) x []) o.is);
    }

next_true : (s : ListingSeen) → are_judged s ≡ true → next_type s ≡ nexts.Conclude
next_true s e = ap (λ (b : Bool). if b then nexts.Conclude else nexts.Ask) e

next_false : (s : ListingSeen) → are_judged s ≡ false → next_type s ≡ nexts.Ask
next_false s e = ap (λ (b : Bool). if b then nexts.Conclude else nexts.Ask) e

shown_more : (table : OwnTable) (done : List ObjectName) (name : ObjectName)
    → flat_map (name_shown table) done ++ name_shown table name
    ≡ flat_map (name_shown table) (done ++ (name ∷ []))
shown_more table done name =
    ap (λ (os : List ℕ). flat_map (name_shown table) done ++ os)
    (sym (append-nil (name_shown table name)))
    ∙ sym (flat_map-append (name_shown table) done (name ∷ []))

-- ---- all types

module _ (tables : OwnTables) (table : OwnTable) (ordinal : ℕ) (replies : ℕ → ReplyKind)
    (answered : AreReplies table replies tables ordinal) where
  type_replied_at : (n : ℕ) (s : ListingSeen) (shown : List ℕ) (name : ObjectName)
      → StandsAt table replies n s shown → listing_call table s ≡ Some (calls.TypeOf name)
      → replies n ≡ type_replied (object_named table name)
  type_replied_at n s shown name st is =
      let a = replied tables table ordinal replies answered n s shown (calls.TypeOf name) st is in
      a.1.1 ∙ ap (λ (t : OwnTable). type_replied (object_named t name)) a.1.0

  module _ (names : List ObjectName) (all : names ≡ listed_names table) where
    asked_type : (done : List ObjectName) (name : ObjectName) (more : List ObjectName)
        → names ≡ done ++ (name ∷ more)
        → listing_call table (so_far stages.Types names (alike done)) ≡ Some (calls.TypeOf name)
    asked_type done name more is =
        ap (λ (n : Option ObjectName). option_map (λ (x : ObjectName). calls.TypeOf x) n)
        (ap (λ (ns : List ObjectName). slice_get ns (length (alike done))) is
        ∙ ap (slice_get (done ++ (name ∷ more))) (length-map done (λ _. true))
        ∙ there done name more)

    judged_length : (done : List ObjectName) (name : ObjectName)
        → length (alike (done ++ (name ∷ []))) ≡ length done + 1
    judged_length done name =
        length-map (done ++ (name ∷ [])) (λ _. true) ∙ length-append done (name ∷ [])

    types : (done : List ObjectName) (name : ObjectName) (more : List ObjectName)
        → names ≡ done ++ (name ∷ more) → Every (HasObject table) (name ∷ more) → (n : ℕ)
        → StandsAt table replies n (so_far stages.Types names (alike done))
        (flat_map (name_shown table) done) → ListsItself table replies
    types done name [] is found n st =
        let s = so_far stages.Types names (alike done) in
        let t = so_far stages.Types names (alike (done ++ (name ∷ []))) in
        let told = type_told table names done name [] (replies n) is
        (object_is (object_named table name) found.0)
        (type_replied_at n s (flat_map (name_shown table) done) name st
        (asked_type done name [] is)) in
        let last : t ≡ all_alike table =
        ap (λ (ns : List ObjectName). so_far stages.Types names (alike ns)) (sym is)
        ∙ ap (λ (ns : List ObjectName). so_far stages.Types ns (alike ns)) all in
        let over : next_type t ≡ nexts.Conclude =
        next_true t (ap not (le-ltb (length (alike (done ++ (name ∷ [])))) (length names)
        (omega (arith, judged_length done name, ap length is, length-append done (name ∷ []))))) in
        let heard : reply_heeded table s (replies n) ≡ heeded (all_alike table) nexts.Conclude =
        told.heard ∙ ap (heeded t) over
        ∙ ap (λ (x : ListingSeen). heeded x nexts.Conclude) last in
        let here : reply_heeded table (heard_after table replies n).seen (replies n)
        ≡ heeded (all_alike table) nexts.Conclude =
        ap (λ (x : ListingSeen). reply_heeded table x (replies n)) st.seen ∙ heard in
        record {
          count = n;
          asks = st.asks;
          concludes = ap (λ (h : Heeded). h.next) here;
          shown =
              ap (λ (x : ListingSeen). (heard_after table replies n).shown
              ++ reply_shown table x (replies n)) st.seen
              ∙ ap (λ (os : List ℕ). os ++ reply_shown table s (replies n)) st.told
              ∙ ap (λ (h : Heeded). flat_map (name_shown table) done
              ++ (type_shown s (replies n) ++ closing_at h.next table h.seen)) heard
              ∙ ap (λ (os : List ℕ). flat_map (name_shown table) done
              ++ (type_shown s (replies n) ++ os)) (nothing_shown table)
              ∙ ap (λ (os : List ℕ). flat_map (name_shown table) done ++ os)
              (append-nil (type_shown s (replies n)) ∙ told.shown)
              ∙ shown_more table done name
              ∙ ap (flat_map (name_shown table)) (sym is ∙ all);
          same = ap (λ (h : Heeded). is_same table h.seen) here ∙ all_same table;
        }
    types done name (other ∷ more) is found n st =
        let s = so_far stages.Types names (alike done) in
        let t = so_far stages.Types names (alike (done ++ (name ∷ []))) in
        let told = type_told table names done name (other ∷ more) (replies n) is
        (object_is (object_named table name) found.0)
        (type_replied_at n s (flat_map (name_shown table) done) name st
        (asked_type done name (other ∷ more) is)) in
        let over : next_type t ≡ nexts.Ask =
        next_false t (ap not (lt-ltb (length (alike (done ++ (name ∷ [])))) (length names)
        (omega (
          arith,
          judged_length done name,
          ap length is,
          length-append done (name ∷ other ∷ more),
        )))) in
        let heard : reply_heeded table s (replies n) ≡ heeded t nexts.Ask =
        told.heard ∙ ap (heeded t) over in
        types (done ++ (name ∷ [])) other more
        (is ∙ sym (append_assoc done (name ∷ []) (other ∷ more))) found.1 (suc n)
        (subst (λ (os : List ℕ). StandsAt table replies (suc n) t os)
        (ap (λ (os : List ℕ). flat_map (name_shown table) done ++ os) told.shown
        ∙ shown_more table done name)
        (next_stands table replies n s t (flat_map (name_shown table) done) st heard))

-- ---- from the begin to the end

begun_stands : (table : OwnTable) (replies : ℕ → ReplyKind)
    → StandsAt table replies 0 (so_far stages.Device [] []) []
begun_stands table replies = record {
  seen = refl;
  told = refl;
  asks = λ k lt. absurd (omega (arith, lt));
}

-- no name of the whole device is one of a domain
none_of_domain : (domain : List ℕ) (items : List (List ℕ))
    → last_item (Domain domain) (map (named_in Vmd) items) ≡ None
none_of_domain domain [] = refl
none_of_domain domain (item ∷ items) =
    let e = ending item items in
    ap (λ (ns : List (List ℕ)). last_item (Domain domain) (map (named_in Vmd) ns)) e.is
    ∙ ap (last_item (Domain domain)) (map-append (named_in Vmd) e.front (e.last ∷ []))
    ∙ ap (option_and_then (item_in (Domain domain)))
    (last_of (map (named_in Vmd) e.front) (named_in Vmd e.last))

nonempty_with : (n : List ℕ) (ns : List (List ℕ)) → is_empty (with_name n ns) ≡ false
nonempty_with n [] = refl
nonempty_with n (f ∷ r) =
    if_elim (λ (x : List (List ℕ)). is_empty x ≡ false) (is_below f n) (f ∷ with_name n r)
    (n ∷ f ∷ r) (λ _. refl) (λ _. refl)

nonempty_in_order : (ns : List (List ℕ)) → is_empty ns ≡ false → is_empty (in_order ns) ≡ false
nonempty_in_order [] e = absurd (false≢true (sym e))
nonempty_in_order (n ∷ ns) e = nonempty_with n (in_order ns)

-- some names of the whole device are the protocol's own
device_names : (table : OwnTable) → is_empty (items_in table Vmd) ≡ false
device_names table = nonempty_in_order (variables_in table (objects table) Vmd) refl

nonempty_named : (scope : Scope) (items : List (List ℕ)) (more : List ObjectName)
    → is_empty items ≡ false → is_empty (map (named_in scope) items ++ more) ≡ false
nonempty_named scope [] more e = absurd (false≢true (sym e))
nonempty_named scope (item ∷ items) more e = refl

pub lists_itself : (tables : OwnTables) (table : OwnTable) (ordinal : ℕ) (replies : ℕ → ReplyKind)
    → NamesDiffer table → AreReplies table replies tables ordinal → ListsItself table replies
lists_itself tables table ordinal replies differ answered =
    let own = Domain table.domain in
    let vmd = map (named_in Vmd) (items_in table Vmd) in
    let names = listed_names table in
    let total : length vmd + length (items_in table own) ≤ MOST_NAMES =
    omega (
      arith,
      differ.few,
      length-append vmd (map (named_in own) (items_in table own)),
      length-map (items_in table own) (named_in own),
    ) in
    let first = all_pages tables table ordinal replies answered stages.Device Vmd []
    (λ names items more. refl) refl (λ names. refl) refl refl refl differ.device
    (omega (arith, total, length-map (items_in table Vmd) (named_in Vmd))) 0
    (begun_stands table replies) in
    let at_domain : StandsAt table replies (suc first.count) (so_far stages.Domain vmd []) [] =
    subst (λ (os : List ℕ). StandsAt table replies (suc first.count)
    (so_far stages.Domain vmd []) os) first.quiet
    (next_stands table replies first.count first.seen (so_far stages.Domain vmd []) []
    first.stands first.heard) in
    let second = all_pages tables table ordinal replies answered stages.Domain own vmd
    (λ names items more. refl) refl (λ names. refl)
    (none_of_domain table.domain (items_in table Vmd)) (same_octets table.domain)
    (ap not (same_octets table.domain)) differ.domain total (suc first.count) at_domain in
    let some : is_empty names ≡ false =
    nonempty_named Vmd (items_in table Vmd) (map (named_in own) (items_in table own))
    (device_names table) in
    let heard : reply_heeded table second.seen (replies second.count)
    ≡ heeded (so_far stages.Types names []) nexts.Ask =
    second.heard ∙ ap (λ (b : Bool). heeded (so_far stages.Types names [])
    (if b then nexts.Conclude else nexts.Ask)) some in
    let at_types : StandsAt table replies (suc second.count) (so_far stages.Types names []) [] =
    subst (λ (os : List ℕ). StandsAt table replies (suc second.count)
    (so_far stages.Types names []) os) second.quiet
    (next_stands table replies second.count second.seen (so_far stages.Types names []) []
    second.stands heard) in
    from_types names refl (all_found table) some (suc second.count) at_types
  where
    from_types : (names : List ObjectName) → names ≡ listed_names table
        → Every (HasObject table) names → is_empty names ≡ false → (n : ℕ)
        → StandsAt table replies n (so_far stages.Types names []) [] → ListsItself table replies
    from_types [] all found some n st = absurd (false≢true (sym some))
    from_types (name ∷ more) all found some n st =
        types tables table ordinal replies answered (name ∷ more) all [] name more refl found n st
