-- The values of a point that a peer sees are those that the history gave the point.
use Rattle.std.proofs.Common.{◌≡◌, ◌==◌, ℕ, ◌<◌, Bool, true, false, if◌then◌else◌, List, [], ◌∷◌}
use Rattle.std.proofs.Common.{◌++◌, map, length, Option, Some, None, is_some, refl, sym, ap, ◌∙◌}
use Rattle.std.proofs.Common.{⊎_elim, bytes_eq}
use Rattle.std.specs.Prelude.{filter_map, option_and_then, nat_lt}
use Rattle.std.specs.List.{cons_option, list_any}
use Rattle.std.proofs.lemmas.Bool.{eq-eqb, ne_eqb, cases_eq, cases_order, ltb-true, and_parts}
use Rattle.std.proofs.lemmas.Slice.Eq.{bytes_eq-Decides}
use Rattle.tase_points.specs.Sample.{Sample}
use Rattle.point_db.specs.Updates.{Update, Updates, values_given}
use Rattle.bilateral.specs.Rows.{CentreRows, IsCentre, table_of, point_of, device_of, no_point}
use Rattle.sbo_device.specs.declared.key.Key.{Key}
use Rattle.tase_views.specs.Moves.{Act, opens, takes, closes, reads, writes, defines, deletes}
use Rattle.tase_views.specs.Moves.{calls, EventSort, sort_of, opening, requesting, taking, closing}
use Rattle.tase_views.specs.Moves.{taking_orders, feeding, Move, acts, updates, tags, ticks, asks}
use Rattle.tase_views.specs.Moves.{chooses, takes_orders, stops, moves_of, acts_of_call}
use Rattle.tase_views.specs.OwnTables.{OwnDevice, OwnTable, OwnTables, Owns, own_tables}
use Rattle.tase_views.specs.OwnTables.{is_point_of, device_named, is_selectable}
use Rattle.tase_views.specs.Devices.{Deed, deed_of}
use Rattle.tase_views.specs.History.{Past, association_in, key_by}
use Rattle.tase_views.specs.Outcomes.{is_named_there}
use Rattle.tase_views.specs.View.{Seen, own, other_acted, other_closed, updated, tagged, asked}
use Rattle.tase_views.specs.View.{chose, View, shows_act, deed_seen, other_seen, held_in, view_by}
use Rattle.tase_views.specs.View.{view_of, moves_in}
use Rattle.tase_views.specs.Values.{values_in}
use Rattle.tase_views.specs.Lived.{IsLived}
use Rattle.tase_views.specs.Given.{update_by, updates_of}
use Rattle.tase_resume.proofs.QuietActs.{IsCentres, fed}
use Rattle.tase_resume.proofs.KeysAlike.{name_allows}

-- the value of the point with a name that an update is to a peer that has it
abbrev pub value_seen : CentreRows → ℕ → List ℕ → Update → Option Sample
value_seen rows peer name u =
    if is_point_of rows peer u.point
    then (if bytes_eq (point_of rows u.point).name name then Some u.value else None) else None

module _ (rows : CentreRows) (peer : ℕ) (name : List ℕ) where
  -- those of moves
  abbrev of_moves : List Move → List Sample
  of_moves [] = []
  of_moves (updates point value ∷ moves) =
      cons_option (value_seen rows peer name (record { point = point; value = value }))
      (of_moves moves)
  of_moves (_ ∷ moves) = of_moves moves

  unvalued : (b : Bool) (seen : Seen) (view : View)
      → values_in (seen ∷ view) name ≡ values_in view name
      → values_in (cons_option (if b then Some seen else None) view) name ≡ values_in view name
  unvalued true seen view e = e
  unvalued false seen view e = refl

  deed_unvalued : (tables : OwnTables) (key : List ℕ) (ordinal : ℕ) (deed : Option Deed)
      (view : View)
      → values_in (cons_option (option_and_then (deed_seen tables key ordinal) deed) view) name
      ≡ values_in view name
  deed_unvalued tables key ordinal None view = refl
  deed_unvalued tables key ordinal (Some deed) view =
      unvalued (shows_act tables deed.device.row.name deed.act)
      (other_acted key ordinal deed.device.row.name deed.act) view refl

  other_unvalued : (tables : OwnTables) (key : List ℕ) (table : OwnTable) (ordinal : ℕ) (act : Act)
      (view : View)
      → values_in (cons_option (other_seen tables key table ordinal act) view) name
      ≡ values_in view name
  other_unvalued tables key table ordinal closes view =
      unvalued (list_any (λ (d : OwnDevice). is_selectable tables d.row.name) table.devices)
      (other_closed key ordinal) view refl
  other_unvalued tables key table ordinal opens view = refl
  other_unvalued tables key table ordinal takes view = refl
  other_unvalued tables key table ordinal (reads item) view =
      deed_unvalued tables key ordinal (deed_of table (reads item)) view
  other_unvalued tables key table ordinal (writes item value) view =
      deed_unvalued tables key ordinal (deed_of table (writes item value)) view
  other_unvalued tables key table ordinal (defines set members) view = refl
  other_unvalued tables key table ordinal (deletes set) view = refl
  other_unvalued tables key table ordinal (calls call) view = refl

  act_unvalued : (b : Bool) (ordinal : ℕ) (act : Act) (other : Option Seen) (view : View)
      → values_in (cons_option other view) name ≡ values_in view name
      → values_in (cons_option (if b then Some (own ordinal act) else other) view) name
      ≡ values_in view name
  act_unvalued true ordinal act other view e = refl
  act_unvalued false ordinal act other view e = e

  update_valued : (b : Bool) (point : List ℕ) (value : Sample) (view : View)
      → values_in (cons_option (if b then Some (updated point value) else None) view) name
      ≡ cons_option (if b then (if bytes_eq point name then Some value else None) else None)
      (values_in view name)
  update_valued true point value view = refl
  update_valued false point value view = refl

  moves_valued : (owns : Owns) (moves : List Move)
      → values_in (view_by rows owns peer moves) name ≡ of_moves moves
  moves_valued owns [] = refl
  moves_valued owns (acts key act ∷ before) =
      act_unvalued (key.peer == peer) key.ordinal act _ (view_by rows owns peer before)
      (other_unvalued (owns peer) (table_of rows key.peer).key
      (held_in rows owns before key.peer) key.ordinal act (view_by rows owns peer before))
      ∙ moves_valued owns before
  moves_valued owns (updates point value ∷ before) =
      update_valued (is_point_of rows peer point) (point_of rows point).name value
      (view_by rows owns peer before)
      ∙ ap (λ (l : List Sample). cons_option
      (value_seen rows peer name (record { point = point; value = value })) l)
      (moves_valued owns before)
  moves_valued owns (tags device tag ∷ before) =
      unvalued (is_some (device_named (owns peer) (device_of rows device).name))
      (tagged (device_of rows device).name tag) (view_by rows owns peer before) refl
      ∙ moves_valued owns before
  moves_valued owns (ticks now ∷ before) = moves_valued owns before
  moves_valued owns (asks asker slot ∷ before) =
      unvalued (asker == peer) (asked slot) (view_by rows owns peer before) refl
      ∙ moves_valued owns before
  moves_valued owns (chooses chooser variant ∷ before) =
      unvalued (chooser == peer) (chose variant) (view_by rows owns peer before) refl
      ∙ moves_valued owns before
  moves_valued owns (takes_orders ∷ before) = moves_valued owns before
  moves_valued owns (stops ∷ before) = moves_valued owns before

  acts_valued : (key : Key) (these : List Act) (before : List Move)
      → of_moves (map (acts key) these ++ before) ≡ of_moves before
  acts_valued key [] before = refl
  acts_valued key (act ∷ these) before = acts_valued key these before

  sort_valued : (sort : EventSort) (key : Option Key) (before : List Move) (given : Updates)
      → IsCentres sort → of_moves before ≡ filter_map (value_seen rows peer name) given
      → of_moves (moves_of sort key ++ before)
      ≡ filter_map (value_seen rows peer name) (cons_option (update_by sort) given)
  sort_valued (opening opener) None before given centres same = same
  sort_valued (opening opener) (Some key) before given centres same = same
  sort_valued (requesting call) None before given centres same = same
  sort_valued (requesting call) (Some key) before given centres same =
      acts_valued key (acts_of_call call) before ∙ same
  sort_valued taking None before given centres same = same
  sort_valued taking (Some key) before given centres same = same
  sort_valued closing None before given centres same = same
  sort_valued closing (Some key) before given centres same = same
  sort_valued taking_orders key before given centres same = same
  sort_valued (feeding (acts by act)) key before given centres same = absurd centres
  sort_valued (feeding (updates point value)) key before given centres same =
      ap (λ (l : List Sample). cons_option
      (value_seen rows peer name (record { point = point; value = value })) l) same
  sort_valued (feeding (tags device tag)) key before given centres same = same
  sort_valued (feeding (ticks now)) key before given centres same = same
  sort_valued (feeding (asks asker slot)) key before given centres same = same
  sort_valued (feeding (chooses chooser variant)) key before given centres same = same
  sort_valued (feeding takes_orders) key before given centres same = same
  sort_valued (feeding stops) key before given centres same = same

  past_valued : (past : Past)
      → of_moves (moves_in past) ≡ filter_map (value_seen rows peer name) (updates_of past)
  past_valued [] = refl
  past_valued (entry ∷ past) =
      sort_valued (sort_of entry.event)
      (key_by (sort_of entry.event) past (association_in past entry.who)) (moves_in past)
      (updates_of past) (fed entry.event) (past_valued past)

  pub values_seen : (past : Past)
      → values_in (view_of rows peer past) name
      ≡ filter_map (value_seen rows peer name) (updates_of past)
  values_seen past = moves_valued (own_tables rows) (moves_in past) ∙ past_valued past

-- updates of points that are there

abbrev pub ArePoints : CentreRows → Updates → Type 0
ArePoints rows [] = Unit {0}
ArePoints rows (u ∷ given) = (u.point < length rows.points) × ArePoints rows given

points_sort : (rows : CentreRows) (sort : EventSort) (given : Updates)
    → is_named_there rows sort ≡ true → ArePoints rows given
    → ArePoints rows (cons_option (update_by sort) given)
points_sort rows (feeding (updates point value)) given named rest = (
  ltb-true point (length rows.points)
      (and_parts (nat_lt point (length rows.points)) _ named).0,
  rest,
)
points_sort rows (opening peer) given named rest = rest
points_sort rows (requesting call) given named rest = rest
points_sort rows taking given named rest = rest
points_sort rows closing given named rest = rest
points_sort rows taking_orders given named rest = rest
points_sort rows (feeding (acts key act)) given named rest = rest
points_sort rows (feeding (tags device tag)) given named rest = rest
points_sort rows (feeding (ticks now)) given named rest = rest
points_sort rows (feeding (asks peer slot)) given named rest = rest
points_sort rows (feeding (chooses peer variant)) given named rest = rest
points_sort rows (feeding takes_orders) given named rest = rest
points_sort rows (feeding stops) given named rest = rest

pub points_there : (rows : CentreRows) (past : Past) → IsLived rows past
    → ArePoints rows (updates_of past)
points_there rows [] lived = tt
points_there rows (entry ∷ past) lived =
    points_sort rows (sort_of entry.event) (updates_of past) (name_allows rows entry past lived)
    (points_there rows past lived.1)

-- those of the point with a name are those of its number

one_point : (rows : CentreRows) → IsCentre rows → (a b : ℕ) → a < length rows.points
    → b < length rows.points → (point_of rows a).name ≡ (point_of rows b).name → a ≡ b
one_point rows lawful a b here there same =
    ⊎_elim (λ equal. equal)
    (λ apart. ⊎_elim (λ below. absurd (lawful.names a b no_point below there same))
    (λ above. absurd (lawful.names b a no_point above here (sym same))) apart)
    (cases_order a b)

pub values_are : (rows : CentreRows) (peer q : ℕ) (name : List ℕ) (given : Updates)
    → IsCentre rows → q < length rows.points → is_point_of rows peer q ≡ true
    → (point_of rows q).name ≡ name → ArePoints rows given
    → filter_map (value_seen rows peer name) given ≡ values_given given q
values_are rows peer q name [] lawful within shown named points = refl
values_are rows peer q name (u ∷ given) lawful within shown named points =
    ap (λ (o : Option Sample). cons_option o (filter_map (value_seen rows peer name) given)) one
    ∙ ap (λ (l : List Sample). cons_option (if u.point == q then Some u.value else None) l)
    (values_are rows peer q name given lawful within shown named points.1)
  where
    either : (b : Bool)
        → (let o : Option Sample = if b then None else None in o) ≡ None
    either true = refl
    either false = refl

    other : (u.point ≡ q → ⊥) → bytes_eq (point_of rows u.point).name name ≡ false
    other apart = by (bytes_eq (point_of rows u.point).name name) refl
      where
        by : (b : Bool) → bytes_eq (point_of rows u.point).name name ≡ b → b ≡ false
        by true e =
            absurd (apart (one_point rows lawful u.point q points.0 within
            ((bytes_eq-Decides (point_of rows u.point).name name).0 e ∙ sym named)))
        by false e = refl

    one : value_seen rows peer name u ≡ (if u.point == q then Some u.value else None)
    one =
        ⊎_elim
        (λ same. rw (
          eq-eqb u.point q same,
          ap (is_point_of rows peer) same ∙ shown,
          (bytes_eq-Decides (point_of rows u.point).name name).1
              (ap (λ n. (point_of rows n).name) same ∙ named),
        ) refl)
        (λ apart. rw (ne_eqb u.point q apart, other apart)
        (either (is_point_of rows peer u.point)))
        (cases_eq u.point q)

-- where there is one, it is of some point that the peer has
pub some_point : (rows : CentreRows) (peer : ℕ) (name : List ℕ) (given : Updates) (value : Sample)
    (rest : List Sample) → ArePoints rows given
    → filter_map (value_seen rows peer name) given ≡ value ∷ rest
    → (q : ℕ) × (q < length rows.points) × (is_point_of rows peer q ≡ true)
    × ((point_of rows q).name ≡ name)
some_point rows peer name [] value rest points is = absurd cc
some_point rows peer name (u ∷ given) value rest points is =
    by (is_point_of rows peer u.point) refl (bytes_eq (point_of rows u.point).name name) refl is
    (some_point rows peer name given value rest points.1)
  where
    by : (b : Bool) → is_point_of rows peer u.point ≡ b → (c : Bool)
        → bytes_eq (point_of rows u.point).name name ≡ c
        → cons_option (if b then (if c then Some u.value else None) else None)
        (filter_map (value_seen rows peer name) given)
        ≡ value ∷ rest
        → (filter_map (value_seen rows peer name) given ≡ value ∷ rest
        → (q : ℕ) × (q < length rows.points) × (is_point_of rows peer q ≡ true)
        × ((point_of rows q).name ≡ name))
        → (q : ℕ) × (q < length rows.points) × (is_point_of rows peer q ≡ true)
        × ((point_of rows q).name ≡ name)
    by true e true f i others =
        (u.point, points.0, e, (bytes_eq-Decides (point_of rows u.point).name name).0 f)
    by true e false f i others = others i
    by false e c f i others = others i
