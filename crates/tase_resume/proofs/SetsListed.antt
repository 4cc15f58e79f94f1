-- The data sets of a view in the order in which they were defined: each that there is stands once
-- among them, and they are as many and such as the table in force allows.
use Rattle.std.proofs.Common.{◌≡◌, ℕ, ◌<◌, ◌≤◌, Bool, true, false, not, ◌&&◌, ◌||◌, if◌then◌else◌}
use Rattle.std.proofs.Common.{List, [], ◌∷◌, ◌++◌, length, Option, Some, None, is_some, refl, sym}
use Rattle.std.proofs.Common.{ap, subst, ◌∙◌, arith, inl, inr, ◌⊎◌, bytes_eq}
use Rattle.std.specs.Prelude.{is_none, nat_lt, nat_le}
use Rattle.std.specs.List.{filter, list_all}
use Rattle.std.proofs.lemmas.Bool.{eq-eqb, eqb-true, leb-false, and_parts}
use Rattle.std.proofs.lemmas.List.{append-nil, length-append, length-map}
use Rattle.mms_data.specs.ObjectName.{ObjectName, same_scope, same_name}
use Rattle.mms_data.specs.declared.object_name.Scope.TheVariants.{Domain}
use Rattle.data_sets.specs.declared.book.DataSet.{DataSet}
use Rattle.data_sets.specs.declared.book.TheConstants.{MOST_MEMBERS}
use Rattle.data_sets.specs.Books.{members_in}
use Rattle.bilateral.specs.Words.Words.{is_identifier}
use Rattle.tase_views.specs.Moves.{opens, takes, closes, reads, writes, defines, deletes, calls}
use Rattle.tase_views.specs.OwnTables.{OwnTable, OwnTables, table_in, domain_name}
use Rattle.tase_views.specs.Objects.{is_member, object_named}
use Rattle.tase_views.specs.View.{Seen, own, other_acted, other_closed, updated, tagged, asked}
use Rattle.tase_views.specs.View.{chose, ticked, stopped, View, held, force, keeps_force}
use Rattle.tase_views.specs.Sets.{Sets, sets_there, define_fault, SetError, error_of}
use Rattle.tase_views.specs.Slots.{sets_in, slot_moves, is_wished}
use Rattle.tase_views.specs.Answers.{set_names}
use Rattle.tase_views.specs.Listed.{sets_listed}
use Rattle.tase_resume.proofs.NamesThere.{once_if, view_count, same_length}
use Rattle.tase_resume.proofs.SetLists.{names_of, AreOnce, filter_members, filter_once, once_push}
use Rattle.tase_resume.proofs.SetLists.{members_more, names_count}

-- they are as many as there are in a view that has these
pub sets_many : (tables : OwnTables) (view : View) (sets : List DataSet) → AreOnce sets
    → ((z : List ℕ) → sets_in tables view z ≡ members_in sets z)
    → length (set_names tables view) ≡ length sets
sets_many tables view sets once same =
    same_length (set_names tables view) (names_of sets)
    (λ z. view_count tables z view
    ∙ ap (λ (o : Option (List ObjectName)). once_if (is_some o)) (same z)
    ∙ sym (names_count sets z once))
    ∙ length-map sets (λ (set : DataSet). set.name)

-- what a table allows

abbrev pub IsAllowed : OwnTable → DataSet → Type 0
IsAllowed table set =
    (is_identifier set.name ≡ true) × (nat_lt MOST_MEMBERS (length set.members) ≡ false)
    × (list_all (λ member. is_member (object_named table member)) set.members ≡ true)

abbrev pub AreAllowed : OwnTable → List DataSet → Type 0
AreAllowed table [] = Unit {0}
AreAllowed table (set ∷ sets) = IsAllowed table set × AreAllowed table sets

filter_allowed : (table : OwnTable) (test : DataSet → Bool) (sets : List DataSet)
    → AreAllowed table sets → AreAllowed table (filter test sets)
filter_allowed table test [] all = tt
filter_allowed table test (set ∷ sets) all =
    by (test set) (filter_allowed table test sets all.1)
  where
    by : (b : Bool) → AreAllowed table (filter test sets)
        → AreAllowed table (if b then set ∷ filter test sets else filter test sets)
    by true rest = (all.0, rest)
    by false rest = rest

push_allowed : (table : OwnTable) (sets : List DataSet) (new : DataSet) → AreAllowed table sets
    → IsAllowed table new → AreAllowed table (sets ++ new ∷ [])
push_allowed table [] new all one = (one, tt)
push_allowed table (set ∷ sets) new all one = (all.0, push_allowed table sets new all.1 one)

filter_short : (test : DataSet → Bool) (sets : List DataSet)
    → length (filter test sets) ≤ length sets
filter_short test [] = omega arith
filter_short test (set ∷ sets) = by (test set) (filter_short test sets)
  where
    by : (b : Bool) → length (filter test sets) ≤ length sets
        → length (if b then set ∷ filter test sets else filter test sets) ≤ length (set ∷ sets)
    by true rest = omega (arith, rest)
    by false rest = omega (arith, rest)

pub filter_none : (test : DataSet → Bool) (sets : List DataSet)
    → ((set : DataSet) → test set ≡ false) → filter test sets ≡ []
filter_none test [] none = refl
filter_none test (set ∷ sets) none = rw (none set) (filter_none test sets none)

pub record AreLawful (table : OwnTable) (sets : List DataSet) : Type 0 where
  pub once : AreOnce sets
  pub allowed : AreAllowed table sets
  pub few : length sets ≤ table.sets

-- what holds of a data set that is defined without a fault
pub faultless : (table : OwnTable) (sets : Sets) (view : View) (set : ObjectName)
    (members : List ObjectName) → define_fault table sets view set members ≡ None
    → (same_scope set.scope (Domain table.domain) && is_identifier set.item ≡ true)
    × (sets set.item ≡ None) × (nat_lt MOST_MEMBERS (length members) ≡ false)
    × (length (sets_there sets view) < table.sets)
    × (list_all (λ member. is_member (object_named table member)) members ≡ true)
faultless table sets view set members none =
    by (same_scope set.scope (Domain table.domain) && is_identifier set.item) refl (sets set.item)
    refl (nat_lt MOST_MEMBERS (length members)) refl
    (nat_le table.sets (length (sets_there sets view))) refl
    (list_all (λ member. is_member (object_named table member)) members) refl none
  where
    by : (a : Bool) → (same_scope set.scope (Domain table.domain) && is_identifier set.item) ≡ a
        → (b : Option (List ObjectName)) → sets set.item ≡ b
        → (c : Bool) → nat_lt MOST_MEMBERS (length members) ≡ c
        → (d : Bool) → nat_le table.sets (length (sets_there sets view)) ≡ d
        → (e : Bool) → list_all (λ member. is_member (object_named table member)) members ≡ e
        → (if not a then error_of 7 3 else (if is_some b then error_of 2 5
        else (if c || d then error_of 3 0 else (if not e then error_of 2 1 else None)))) ≡ None
        → (a ≡ true) × (b ≡ None) × (c ≡ false)
        × (length (sets_there sets view) < table.sets) × (e ≡ true)
    by false a' b b' c c' d d' e e' n = absurd cc
    by true a' (Some x) b' c c' d d' e e' n = absurd cc
    by true a' None b' true c' d d' e e' n = absurd cc
    by true a' None b' false c' true d' e e' n = absurd cc
    by true a' None b' false c' false d' false e' n = absurd cc
    by true a' None b' false c' false d' true e' n = (
      refl,
      refl,
      refl,
      leb-false table.sets (length (sets_there sets view)) d',
      refl,
    )

kept_or_none : (b : Bool) (found : Option (List ObjectName))
    → ((if b then found else None) ≡ None) ⊎ ((if b then found else None) ≡ found)
kept_or_none true found = inr refl
kept_or_none false found = inl refl

module _ (tables : OwnTables) where
  -- behind a move that defines none, a data set is there as before, or not any more
  gone_or_same : (view : View) (move : Seen) (z : List ℕ)
      → ((ordinal : ℕ) (set : ObjectName) (members : List ObjectName)
      → move ≡ own ordinal (defines set members) → ⊥)
      → (sets_in tables (move ∷ view) z ≡ None)
      ⊎ (sets_in tables (move ∷ view) z ≡ sets_in tables view z)
  gone_or_same view (own ordinal (defines set members)) z none =
      absurd (none ordinal set members refl)
  gone_or_same view (own ordinal (deletes set)) z none =
      by (keeps_force (own ordinal (deletes set)) view)
      (same_name set (domain_name (held tables view) z)
      && not (is_wished (held tables view) (slot_moves tables view) z))
    where
      by : (b c : Bool)
          → ((if b then (if c then None else sets_in tables view z) else None) ≡ None)
          ⊎ ((if b then (if c then None else sets_in tables view z) else None)
          ≡ sets_in tables view z)
      by true true = inl refl
      by true false = inr refl
      by false c = inl refl
  gone_or_same view (own ordinal opens) z none =
      kept_or_none (keeps_force (own ordinal opens) view) (sets_in tables view z)
  gone_or_same view (own ordinal takes) z none =
      kept_or_none (keeps_force (own ordinal takes) view) (sets_in tables view z)
  gone_or_same view (own ordinal closes) z none =
      kept_or_none (keeps_force (own ordinal closes) view) (sets_in tables view z)
  gone_or_same view (own ordinal (reads name)) z none =
      kept_or_none (keeps_force (own ordinal (reads name)) view) (sets_in tables view z)
  gone_or_same view (own ordinal (writes name value)) z none =
      kept_or_none (keeps_force (own ordinal (writes name value)) view) (sets_in tables view z)
  gone_or_same view (own ordinal (calls call)) z none =
      kept_or_none (keeps_force (own ordinal (calls call)) view) (sets_in tables view z)
  gone_or_same view (other_acted key ordinal device act) z none =
      kept_or_none (keeps_force (other_acted key ordinal device act) view) (sets_in tables view z)
  gone_or_same view (other_closed key ordinal) z none =
      kept_or_none (keeps_force (other_closed key ordinal) view) (sets_in tables view z)
  gone_or_same view (updated name value) z none =
      kept_or_none (keeps_force (updated name value) view) (sets_in tables view z)
  gone_or_same view (tagged device tag) z none =
      kept_or_none (keeps_force (tagged device tag) view) (sets_in tables view z)
  gone_or_same view (asked s) z none =
      kept_or_none (keeps_force (asked s) view) (sets_in tables view z)
  gone_or_same view (chose variant) z none =
      kept_or_none (keeps_force (chose variant) view) (sets_in tables view z)
  gone_or_same view (ticked now) z none =
      kept_or_none (keeps_force (ticked now) view) (sets_in tables view z)
  gone_or_same view stopped z none =
      kept_or_none (keeps_force stopped view) (sets_in tables view z)

  -- a definition leaves the table in force
  define_keeps : (view : View) (ordinal : ℕ) (set : ObjectName) (members : List ObjectName)
      → keeps_force (own ordinal (defines set members)) view ≡ true
  define_keeps view ordinal set members = eq-eqb (force view) (force view) refl

  pub defined_is : (view : View) (ordinal : ℕ) (set : ObjectName) (members : List ObjectName)
      (z : List ℕ)
      → sets_in tables (own ordinal (defines set members) ∷ view) z
      ≡ (if bytes_eq set.item z
      && is_none (define_fault (held tables view) (sets_in tables view) view set members)
      then Some members else sets_in tables view z)
  defined_is view ordinal set members z = rw (define_keeps view ordinal set members) refl

  -- where another table comes into force, none is there
  none_kept : (view : View) (move : Seen) (z : List ℕ) → keeps_force move view ≡ false
      → sets_in tables (move ∷ view) z ≡ None
  none_kept view (own ordinal act) z e = rw e refl
  none_kept view (other_acted key ordinal device act) z e = rw e refl
  none_kept view (other_closed key ordinal) z e = rw e refl
  none_kept view (updated name value) z e = rw e refl
  none_kept view (tagged device tag) z e = rw e refl
  none_kept view (asked s) z e = rw e refl
  none_kept view (chose variant) z e = rw e refl
  none_kept view (ticked now) z e = rw e refl
  none_kept view stopped z e = rw e refl

  -- those of a view that are there behind a move more
  abbrev still_there : View → Seen → List DataSet
  still_there view move =
      filter (λ (set : DataSet). is_some (sets_in tables (move ∷ view) set.name))
      (sets_listed tables view)

  -- each that is there stands among them, and they are lawful
  pub record AreListed (view : View) (sets : List DataSet) : Type 0 where
    pub members : (z : List ℕ) → members_in sets z ≡ sets_in tables view z
    pub lawful : AreLawful (held tables view) sets

  some_self : (found : Option (List ObjectName)) → (if is_some found then found else None) ≡ found
  some_self None = refl
  some_self (Some members) = refl

  still_members : (view : View) (move : Seen) (z : List ℕ)
      → AreListed view (sets_listed tables view)
      → members_in (still_there view move) z
      ≡ (if is_some (sets_in tables (move ∷ view) z) then sets_in tables view z else None)
  still_members view move z listed =
      filter_members (λ name. is_some (sets_in tables (move ∷ view) name))
      (sets_listed tables view) z
      ∙ ap (λ (o : Option (List ObjectName)).
      if is_some (sets_in tables (move ∷ view) z) then o else None) (listed.members z)

  still_lawful : (view : View) (move : Seen) → AreListed view (sets_listed tables view)
      → AreLawful (held tables (move ∷ view)) (still_there view move)
  still_lawful view move listed = by (keeps_force move view) refl
    where
      by : (b : Bool) → keeps_force move view ≡ b
          → AreLawful (held tables (move ∷ view)) (still_there view move)
      by true e =
          let same : held tables view ≡ held tables (move ∷ view) =
          ap (table_in tables) (sym (eqb-true (force (move ∷ view)) (force view) e)) in
          subst (λ (t : OwnTable). AreLawful t (still_there view move)) same (record {
            once = filter_once (λ name. is_some (sets_in tables (move ∷ view) name))
                (sets_listed tables view) listed.lawful.once;
            allowed = filter_allowed (held tables view) _ (sets_listed tables view)
                listed.lawful.allowed;
            few =
                let short = filter_short
                (λ (set : DataSet). is_some (sets_in tables (move ∷ view) set.name))
                (sets_listed tables view) in
                let few = listed.lawful.few in
                omega (arith, short, few);
          })
      by false e =
          subst (AreLawful (held tables (move ∷ view)))
          (sym (filter_none
          (λ (set : DataSet). is_some (sets_in tables (move ∷ view) set.name))
          (sets_listed tables view)
          (λ set. ap (λ (o : Option (List ObjectName)). is_some o)
          (none_kept view move set.name e))))
          (record { once = tt; allowed = tt; few = omega arith })

  -- behind a move that adds none
  without_new : (view : View) (move : Seen) → AreListed view (sets_listed tables view)
      → ((z : List ℕ) → (sets_in tables (move ∷ view) z ≡ None)
      ⊎ (sets_in tables (move ∷ view) z ≡ sets_in tables view z))
      → AreListed (move ∷ view) (still_there view move ++ [])
  without_new view move listed each =
      subst (AreListed (move ∷ view)) (sym (append-nil (still_there view move))) (record {
        members = λ z. still_members view move z listed ∙ by z (each z);
        lawful = still_lawful view move listed;
      })
    where
      by : (z : List ℕ)
          → (sets_in tables (move ∷ view) z ≡ None)
          ⊎ (sets_in tables (move ∷ view) z ≡ sets_in tables view z)
          → (if is_some (sets_in tables (move ∷ view) z) then sets_in tables view z else None)
          ≡ sets_in tables (move ∷ view) z
      by z (inl none) = rw none refl
      by z (inr same) =
          ap (λ (o : Option (List ObjectName)).
          if is_some o then sets_in tables view z else None) same
          ∙ some_self (sets_in tables view z) ∙ sym same

  -- behind a definition
  with_define : (view : View) (ordinal : ℕ) (set : ObjectName) (members : List ObjectName)
      → AreListed view (sets_listed tables view)
      → AreListed (own ordinal (defines set members) ∷ view)
      (sets_listed tables (own ordinal (defines set members) ∷ view))
  with_define view ordinal set members listed =
      by (define_fault (held tables view) (sets_in tables view) view set members) refl
    where
      and_true : (b : Bool) (x y : Option (List ObjectName))
          → (if b && true then x else y) ≡ (if b then x else y)
      and_true true x y = refl
      and_true false x y = refl

      none_either : (b : Bool)
          → (let o : Option (List ObjectName) = if b then None else None in o) ≡ None
      none_either true = refl
      none_either false = refl

      left_same : (b : Bool) (x y z : Option (List ObjectName))
          → z ≡ (if b then Some members else y) → x ≡ (if is_some z then y else None)
          → (if b then Some members else x) ≡ (if b then Some members else y)
      left_same true x y z first second = refl
      left_same false x y z first second =
          second ∙ ap (λ (o : Option (List ObjectName)). if is_some o then y else None) first
          ∙ some_self y

      none_more : (b c : Bool) (x y : Option (List ObjectName)) → c ≡ false
          → (if b && c then x else y) ≡ y
      none_more true c x y e = rw e refl
      none_more false c x y e = refl

      by : (fault : Option SetError)
          → define_fault (held tables view) (sets_in tables view) view set members ≡ fault
          → AreListed (own ordinal (defines set members) ∷ view)
          (still_there view (own ordinal (defines set members))
          ++ (if is_none fault then record { name = set.item; members = members } ∷ []
          else []))
      by (Some error) e =
          without_new view (own ordinal (defines set members)) listed
          (λ z. inr (defined_is view ordinal set members z
          ∙ none_more (bytes_eq set.item z)
          (is_none (define_fault (held tables view) (sets_in tables view) view set members))
          (Some members) (sets_in tables view z) (ap (λ (o : Option SetError). is_none o) e)))
      by None e =
          let parts = faultless (held tables view) (sets_in tables view) view set members e in
          let these = still_there view (own ordinal (defines set members)) in
          let new : DataSet = record { name = set.item; members = members } in
          let is : (z : List ℕ)
          → sets_in tables (own ordinal (defines set members) ∷ view) z
          ≡ (if bytes_eq set.item z then Some members else sets_in tables view z) =
          λ z. defined_is view ordinal set members z
          ∙ ap (λ (o : Option SetError). if bytes_eq set.item z && is_none o then Some members
          else sets_in tables view z) e ∙ and_true (bytes_eq set.item z) (Some members)
          (sets_in tables view z) in
          let unnamed : members_in these set.item ≡ None =
          still_members view (own ordinal (defines set members)) set.item listed
          ∙ ap (λ (o : Option (List ObjectName)).
          if is_some (sets_in tables (own ordinal (defines set members) ∷ view) set.item)
          then o else None) parts.1
          ∙ none_either
          (is_some (sets_in tables (own ordinal (defines set members) ∷ view) set.item)) in
          record {
            members = λ z. members_more these new z unnamed
                ∙ left_same (bytes_eq set.item z) (members_in these z) (sets_in tables view z)
                (sets_in tables (own ordinal (defines set members) ∷ view) z) (is z)
                (still_members view (own ordinal (defines set members)) z listed)
                ∙ sym (is z);
            lawful =
                let old = still_lawful view (own ordinal (defines set members)) listed in
                record {
                  once = once_push these new old.once unnamed;
                  allowed = push_allowed
                      (held tables (own ordinal (defines set members) ∷ view)) these new
                      old.allowed (
                        (and_parts (same_scope set.scope (Domain (held tables view).domain))
                            (is_identifier set.item) parts.0).1,
                        parts.2,
                        parts.4,
                      );
                  few =
                      let short = filter_short (λ (s : DataSet). is_some
                      (sets_in tables (own ordinal (defines set members) ∷ view) s.name))
                      (sets_listed tables view) in
                      let many = sets_many tables view (sets_listed tables view)
                      listed.lawful.once (λ z. sym (listed.members z)) in
                      let room = parts.3 in
                      let one_more = length-append these (new ∷ []) in
                      omega (arith, short, many, room, one_more);
                };
          }

  pub listed : (view : View) → AreListed view (sets_listed tables view)
  listed [] = record {
    members = λ z. refl;
    lawful = record { once = tt; allowed = tt; few = omega arith };
  }
  listed (own ordinal (defines set members) ∷ view) =
      with_define view ordinal set members (listed view)
  listed (own ordinal (deletes set) ∷ view) =
      without_new view (own ordinal (deletes set)) (listed view)
      (λ z. gone_or_same view (own ordinal (deletes set)) z (λ n s m e. absurd cc))
  listed (own ordinal opens ∷ view) =
      without_new view (own ordinal opens) (listed view)
      (λ z. gone_or_same view (own ordinal opens) z (λ n s m e. absurd cc))
  listed (own ordinal takes ∷ view) =
      without_new view (own ordinal takes) (listed view)
      (λ z. gone_or_same view (own ordinal takes) z (λ n s m e. absurd cc))
  listed (own ordinal closes ∷ view) =
      without_new view (own ordinal closes) (listed view)
      (λ z. gone_or_same view (own ordinal closes) z (λ n s m e. absurd cc))
  listed (own ordinal (reads name) ∷ view) =
      without_new view (own ordinal (reads name)) (listed view)
      (λ z. gone_or_same view (own ordinal (reads name)) z (λ n s m e. absurd cc))
  listed (own ordinal (writes name value) ∷ view) =
      without_new view (own ordinal (writes name value)) (listed view)
      (λ z. gone_or_same view (own ordinal (writes name value)) z (λ n s m e. absurd cc))
  listed (own ordinal (calls call) ∷ view) =
      without_new view (own ordinal (calls call)) (listed view)
      (λ z. gone_or_same view (own ordinal (calls call)) z (λ n s m e. absurd cc))
  listed (other_acted key ordinal device act ∷ view) =
      without_new view (other_acted key ordinal device act) (listed view)
      (λ z. gone_or_same view (other_acted key ordinal device act) z (λ n s m e. absurd cc))
  listed (other_closed key ordinal ∷ view) =
      without_new view (other_closed key ordinal) (listed view)
      (λ z. gone_or_same view (other_closed key ordinal) z (λ n s m e. absurd cc))
  listed (updated name value ∷ view) =
      without_new view (updated name value) (listed view)
      (λ z. gone_or_same view (updated name value) z (λ n s m e. absurd cc))
  listed (tagged device tag ∷ view) =
      without_new view (tagged device tag) (listed view)
      (λ z. gone_or_same view (tagged device tag) z (λ n s m e. absurd cc))
  listed (asked s ∷ view) =
      without_new view (asked s) (listed view)
      (λ z. gone_or_same view (asked s) z (λ n s m e. absurd cc))
  listed (chose variant ∷ view) =
      without_new view (chose variant) (listed view)
      (λ z. gone_or_same view (chose variant) z (λ n s m e. absurd cc))
  listed (ticked now ∷ view) =
      without_new view (ticked now) (listed view)
      (λ z. gone_or_same view (ticked now) z (λ n s m e. absurd cc))
  listed (stopped ∷ view) =
      without_new view stopped (listed view)
      (λ z. gone_or_same view stopped z (λ n s m e. absurd cc))
