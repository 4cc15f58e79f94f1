-- The entries by which a snapshot defines data sets, one by one.
use Rattle.std.proofs.Common.{◌≡◌, ◌==◌, ℕ, ◌<◌, Bool, true, false, if◌then◌else◌, List}
use Rattle.std.proofs.Common.{[], ◌∷◌, ◌++◌, length, Option, Some, None, is_some, refl, sym, ap}
use Rattle.std.proofs.Common.{◌∙◌, inl, inr, ◌⊎◌}
use Rattle.std.specs.Prelude.{filter, nat_le, option_map, bytes_eq}
use Rattle.std.specs.List.{cons_option, find, list_any}
use Rattle.std.proofs.lemmas.Bool.{false≢true, eq-eqb, lt-leb}
use Rattle.std.proofs.lemmas.List.{append-nil}
use Rattle.std.proofs.lemmas.Option.{none-some}
use Rattle.std.proofs.lemmas.Slice.Eq.{bytes_eq-Decides}
use Rattle.mms_data.specs.ObjectName.{ObjectName}
use Rattle.data_sets.specs.declared.book.DataSet.{DataSet}
use Rattle.data_sets.specs.Books.{is_set_named, members_in}
use Rattle.bilateral.specs.Rows.{CentreRows, table_of}
use Rattle.sbo_device.specs.declared.key.Key.{Key}
use Rattle.tase_views.specs.declared.event.EventKind.{EventKind}
use Rattle.tase_views.specs.Moves.{Act, opens, closes, defines, Move, acts, sort_of}
use Rattle.tase_views.specs.OwnTables.{OwnDevice, OwnTable, OwnTables, Owns, domain_name}
use Rattle.tase_views.specs.OwnTables.{is_selectable}
use Rattle.tase_views.specs.History.{Past, association_in, stop_in}
use Rattle.tase_views.specs.View.{Seen, own, other_acted, other_closed, updated, tagged, asked}
use Rattle.tase_views.specs.View.{chose, ticked, stopped, View, view_by, force, held_in}
use Rattle.tase_views.specs.View.{keeps_force}
use Rattle.tase_views.specs.Sets.{Sets, sets_there, define_fault}
use Rattle.tase_views.specs.Slots.{sets_in}
use Rattle.tase_views.specs.Outcomes.{seat_refusal_by, is_named_there, own_refusal, clock_refusal}
use Rattle.tase_views.specs.Lived.{unweighed_refusal}
use Rattle.tase_views.specs.Listed.{sets_listed}
use Rattle.tase_resume.proofs.Calm.{unstopped}
use Rattle.tase_resume.proofs.Fresh.{AreFresh}
use Rattle.tase_resume.proofs.SetsListed.{IsAllowed, AreAllowed, AreListed, listed}
use Rattle.tase_resume.proofs.SetLists.{AreOnce}

-- the front of a lawful list of data sets

pub front_none : (done more : List DataSet) (name : List ℕ) → members_in (done ++ more) name ≡ None
    → members_in done name ≡ None
front_none [] more name none = refl
front_none (set ∷ done) more name none =
    by (bytes_eq set.name name) none (front_none done more name)
  where
    by : (b : Bool)
        → option_map (λ (s : DataSet). s.members)
        (if b then Some set else find (is_set_named name) (done ++ more))
        ≡ None
        → (members_in (done ++ more) name ≡ None → members_in done name ≡ None)
        → option_map (λ (s : DataSet). s.members)
        (if b then Some set else find (is_set_named name) done)
        ≡ None
    by true n rest = absurd (none-some set.members (sym n))
    by false n rest = rest n

pub front_once : (done more : List DataSet) → AreOnce (done ++ more) → AreOnce done
front_once [] more once = tt
front_once (set ∷ done) more once =
    (front_none done more set.name once.0, front_once done more once.1)

-- the next one's name is none of theirs
pub next_new : (done : List DataSet) (set : DataSet) (rest : List DataSet)
    → AreOnce (done ++ set ∷ rest) → members_in done set.name ≡ None
next_new [] set rest once = refl
next_new (first ∷ done) set rest once =
    by (bytes_eq first.name set.name) refl (next_new done set rest once.1)
  where
    named : (sets : List DataSet) → bytes_eq set.name first.name ≡ true
        → members_in (sets ++ set ∷ rest) first.name ≡ None → ⊥
    named [] same none =
        none-some set.members (sym none ∙ ap (λ b. option_map (λ (s : DataSet). s.members)
        (if b then Some set else find (is_set_named first.name) rest)) same)
    named (other ∷ sets) same none = one (bytes_eq other.name first.name) none (named sets same)
      where
        one : (b : Bool)
            → option_map (λ (s : DataSet). s.members)
            (if b then Some other else find (is_set_named first.name) (sets ++ set ∷ rest))
            ≡ None
            → (members_in (sets ++ set ∷ rest) first.name ≡ None → ⊥) → ⊥
        one true n others = none-some other.members (sym n)
        one false n others = others n

    by : (b : Bool) → bytes_eq first.name set.name ≡ b → members_in done set.name ≡ None
        → option_map (λ (s : DataSet). s.members)
        (if b then Some first else find (is_set_named set.name) done)
        ≡ None
    by true e others =
        absurd (named done ((bytes_eq-Decides set.name first.name).1
        (sym ((bytes_eq-Decides first.name set.name).0 e))) once.0)
    by false e others = others

pub next_allowed : (table : OwnTable) (done : List DataSet) (set : DataSet) (rest : List DataSet)
    → AreAllowed table (done ++ set ∷ rest) → IsAllowed table set
next_allowed table [] set rest all = all.0
next_allowed table (first ∷ done) set rest all = next_allowed table done set rest all.1

-- a definition that a table allows has no fault
pub no_fault : (table : OwnTable) (sets : Sets) (view : View) (set : DataSet) → IsAllowed table set
    → sets set.name ≡ None → length (sets_there sets view) < table.sets
    → define_fault table sets view (domain_name table set.name) set.members ≡ None
no_fault table sets view set allowed none room =
    rw (
      (bytes_eq-Decides table.domain table.domain).1 refl,
      allowed.0,
      none,
      allowed.1,
      full,
      allowed.2,
    ) refl
  where
    full : nat_le table.sets (length (sets_there sets view)) ≡ false
    full = lt-leb table.sets (length (sets_there sets view)) room

-- an entry of the centre's seat is taken
pub taken : (rows : CentreRows) (past : Past) (event : EventKind) → stop_in past ≡ None
    → seat_refusal_by (association_in past 0) (sort_of event) ≡ None
    → is_named_there rows (sort_of event) ≡ true → clock_refusal past event ≡ None
    → unweighed_refusal rows past 0 event ≡ None
taken rows past event going seat named clock =
    let one = unstopped past event going in
    let two : own_refusal rows past 0 event ≡ None = rw (seat, named) refl in
    rw (one, two, clock) refl

-- what a peer sees of an act of an association of its own, and of one of another peer

pub seen_mine : (rows : CentreRows) (owns : Owns) (peer ordinal : ℕ) (act : Act)
    (before : List Move)
    → view_by rows owns peer (acts (record { peer = peer; ordinal = ordinal }) act ∷ before)
    ≡ own ordinal act ∷ view_by rows owns peer before
seen_mine rows owns peer ordinal act before = rw (eq-eqb peer peer refl) refl

-- the data sets of another peer are as before
pub others_same : (rows : CentreRows) (owns : Owns) (peer : ℕ) (key : Key) (before : List Move)
    (z : List ℕ) → (key.peer == peer) ≡ false → (act : Act)
    → ((act ≡ opens) ⊎ (act ≡ closes))
    ⊎ ((set : ObjectName) × (members : List ObjectName) × (act ≡ defines set members))
    → sets_in (owns peer) (view_by rows owns peer (acts key act ∷ before)) z
    ≡ sets_in (owns peer) (view_by rows owns peer before) z
others_same rows owns peer key before z apart act kind = by_kind kind
  where
    keeps : (b : Bool)
        → sets_in (owns peer)
        (cons_option (if b then Some (other_closed (table_of rows key.peer).key key.ordinal)
        else None) (view_by rows owns peer before)) z
        ≡ sets_in (owns peer) (view_by rows owns peer before) z
    keeps true =
        ap (λ c. if c then sets_in (owns peer) (view_by rows owns peer before) z else None)
        (eq-eqb (force (view_by rows owns peer before)) (force (view_by rows owns peer before))
        refl)
    keeps false = refl

    by_kind : ((act ≡ opens) ⊎ (act ≡ closes))
        ⊎ ((set : ObjectName) × (members : List ObjectName) × (act ≡ defines set members))
        → sets_in (owns peer) (view_by rows owns peer (acts key act ∷ before)) z
        ≡ sets_in (owns peer) (view_by rows owns peer before) z
    by_kind (inl (inl is)) = rw (is, apart) refl
    by_kind (inl (inr is)) =
        rw (is, apart) (keeps (list_any
        (λ (d : OwnDevice). is_selectable (owns peer) d.row.name)
        (held_in rows owns before key.peer).devices))
    by_kind (inr its) = rw (its.2, apart) refl

pub kept_none : (b : Bool) (found : Option (List ObjectName)) → found ≡ None
    → (if b then found else None) ≡ None
kept_none true found none = none
kept_none false found none = refl

-- no data sets where the peer has done nothing
pub nothing_done : (tables : OwnTables) (view : View) (z : List ℕ) → ((n : ℕ) → AreFresh n view)
    → sets_in tables view z ≡ None
nothing_done tables [] z fresh = refl
nothing_done tables (own ordinal act ∷ view) z fresh =
    absurd (false≢true (sym (fresh ordinal).0 ∙ eq-eqb ordinal ordinal refl))
nothing_done tables (other_acted key ordinal device act ∷ view) z fresh =
    kept_none (keeps_force (other_acted key ordinal device act) view) (sets_in tables view z)
    (nothing_done tables view z (λ n. (fresh n).1))
nothing_done tables (other_closed key ordinal ∷ view) z fresh =
    kept_none (keeps_force (other_closed key ordinal) view) (sets_in tables view z)
    (nothing_done tables view z (λ n. (fresh n).1))
nothing_done tables (updated name value ∷ view) z fresh =
    kept_none (keeps_force (updated name value) view) (sets_in tables view z)
    (nothing_done tables view z (λ n. (fresh n).1))
nothing_done tables (tagged device tag ∷ view) z fresh =
    kept_none (keeps_force (tagged device tag) view) (sets_in tables view z)
    (nothing_done tables view z (λ n. (fresh n).1))
nothing_done tables (asked s ∷ view) z fresh =
    kept_none (keeps_force (asked s) view) (sets_in tables view z)
    (nothing_done tables view z (λ n. (fresh n).1))
nothing_done tables (chose variant ∷ view) z fresh =
    kept_none (keeps_force (chose variant) view) (sets_in tables view z)
    (nothing_done tables view z (λ n. (fresh n).1))
nothing_done tables (ticked now ∷ view) z fresh =
    kept_none (keeps_force (ticked now) view) (sets_in tables view z)
    (nothing_done tables view z (λ n. (fresh n).1))
nothing_done tables (stopped ∷ view) z fresh =
    kept_none (keeps_force stopped view) (sets_in tables view z)
    (nothing_done tables view z (λ n. (fresh n).1))

-- the list of those that there are

named_self : (set : DataSet) (rest : List DataSet)
    → members_in (set ∷ rest) set.name ≡ Some set.members
named_self set rest = rw ((bytes_eq-Decides set.name set.name).1 refl) refl

-- where there is none it is empty
pub none_listed : (tables : OwnTables) (view : View)
    → ((z : List ℕ) → sets_in tables view z ≡ None) → sets_listed tables view ≡ []
none_listed tables view none = by (sets_listed tables view) (listed tables view)
  where
    by : (sets : List DataSet) → AreListed tables view sets → sets ≡ []
    by [] its = refl
    by (set ∷ rest) its =
        absurd (none-some set.members
        (sym (none set.name) ∙ sym (its.members set.name) ∙ named_self set rest))

filter_listed : (test : List ℕ → Bool) (sets : List DataSet)
    → ((z : List ℕ) → is_some (members_in sets z) ≡ true → test z ≡ true)
    → filter (λ (set : DataSet). test set.name) sets ≡ sets
filter_listed test [] passes = refl
filter_listed test (set ∷ sets) passes =
    rw (passes set.name (ap (λ (o : Option (List ObjectName)). is_some o) (named_self set sets)))
    (ap (λ (l : List DataSet). set ∷ l)
    (filter_listed test sets (λ z there. passes z (either (bytes_eq set.name z) z there))))
  where
    either : (b : Bool) (z : List ℕ) → is_some (members_in sets z) ≡ true
        → is_some (option_map (λ (s : DataSet). s.members)
        (if b then Some set else find (is_set_named z) sets)) ≡ true
    either true z there = refl
    either false z there = there

-- where all that there were are there it stays
pub kept_listed : (tables : OwnTables) (view : View) (move : Seen)
    → ((z : List ℕ) → is_some (sets_in tables view z) ≡ true
    → is_some (sets_in tables (move ∷ view) z) ≡ true)
    → filter (λ (set : DataSet). is_some (sets_in tables (move ∷ view) set.name))
    (sets_listed tables view)
    ≡ sets_listed tables view
kept_listed tables view move stays =
    filter_listed (λ name. is_some (sets_in tables (move ∷ view) name)) (sets_listed tables view)
    (λ z there. stays z
    (sym (ap (λ (o : Option (List ObjectName)). is_some o) ((listed tables view).members z))
    ∙ there))

-- the list of another peer is as before
pub others_listed : (rows : CentreRows) (owns : Owns) (peer : ℕ) (key : Key) (before : List Move)
    → (key.peer == peer) ≡ false → (act : Act)
    → ((act ≡ opens) ⊎ (act ≡ closes))
    ⊎ ((set : ObjectName) × (members : List ObjectName) × (act ≡ defines set members))
    → sets_listed (owns peer) (view_by rows owns peer (acts key act ∷ before))
    ≡ sets_listed (owns peer) (view_by rows owns peer before)
others_listed rows owns peer key before apart act kind = by_kind kind
  where
    stays : (z : List ℕ)
        → sets_in (owns peer) (other_closed (table_of rows key.peer).key key.ordinal
        ∷ view_by rows owns peer before) z
        ≡ sets_in (owns peer) (view_by rows owns peer before) z
    stays z =
        ap (λ c. if c then sets_in (owns peer) (view_by rows owns peer before) z else None)
        (eq-eqb (force (view_by rows owns peer before)) (force (view_by rows owns peer before))
        refl)

    keeps : (b : Bool)
        → sets_listed (owns peer)
        (cons_option (if b then Some (other_closed (table_of rows key.peer).key key.ordinal)
        else None) (view_by rows owns peer before))
        ≡ sets_listed (owns peer) (view_by rows owns peer before)
    keeps true =
        append-nil (filter (λ (set : DataSet). is_some (sets_in (owns peer)
        (other_closed (table_of rows key.peer).key key.ordinal ∷ view_by rows owns peer before)
        set.name)) (sets_listed (owns peer) (view_by rows owns peer before)))
        ∙ kept_listed (owns peer) (view_by rows owns peer before)
        (other_closed (table_of rows key.peer).key key.ordinal)
        (λ z there. ap (λ (o : Option (List ObjectName)). is_some o) (stays z) ∙ there)
    keeps false = refl

    by_kind : ((act ≡ opens) ⊎ (act ≡ closes))
        ⊎ ((set : ObjectName) × (members : List ObjectName) × (act ≡ defines set members))
        → sets_listed (owns peer) (view_by rows owns peer (acts key act ∷ before))
        ≡ sets_listed (owns peer) (view_by rows owns peer before)
    by_kind (inl (inl is)) = rw (is, apart) refl
    by_kind (inl (inr is)) =
        rw (is, apart) (keeps (list_any
        (λ (d : OwnDevice). is_selectable (owns peer) d.row.name)
        (held_in rows owns before key.peer).devices))
    by_kind (inr its) = rw (its.2, apart) refl
