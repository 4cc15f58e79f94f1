-- A snapshot defines the data sets of each peer that a base has, in one association a peer.
use Rattle.std.proofs.Common.{◌≡◌, ◌==◌, ℕ, zero, suc, ◌+◌, ◌-◌, ◌<◌, ◌≤◌, Bool, true, false, ◌&&◌}
use Rattle.std.proofs.Common.{if◌then◌else◌, List, [], ◌∷◌, ◌++◌, map, length, Option, Some, None}
use Rattle.std.proofs.Common.{is_some, refl, sym, ap, subst, ◌∙◌, arith, ⊎_elim, take, inl, inr}
use Rattle.std.specs.Prelude.{filter, filter_map, flat_map, is_none, option_map, bytes_eq}
use Rattle.std.specs.List.{range_with_len, find}
use Rattle.std.proofs.lemmas.Bool.{eq-eqb, ne_eqb, cases_eq, cases_lt, lt-ltb}
use Rattle.std.proofs.lemmas.List.{append_assoc, append-nil, length-append}
use Rattle.std.proofs.lemmas.Option.{none-some}
use Rattle.std.proofs.lemmas.Slice.Eq.{bytes_eq-Decides}
use Rattle.tase_points.specs.Sample.{Sample}
use Rattle.mms_data.specs.ObjectName.{ObjectName}
use Rattle.data_sets.specs.declared.book.DataSet.{DataSet}
use Rattle.data_sets.specs.Books.{is_set_named, members_in}
use Rattle.bilateral.specs.Rows.{CentreRows, IsCentre, device_of}
use Rattle.sbo_device.specs.declared.key.Key.{Key}
use Rattle.tase_views.specs.declared.event.EventKind.TheVariants.{Open, Close}
use Rattle.tase_views.specs.Moves.{opens, closes, defines, Move, acts, sort_of, moves_of, closing}
use Rattle.sbo_device.specs.States.{tag_of}
use Rattle.tase_views.specs.Force.{open_count, last_chosen, table_move}
use Rattle.tase_views.specs.OwnTables.{OwnTable, own_tables, table_in, domain_name}
use Rattle.tase_views.specs.Devices.{device_moves}
use Rattle.tase_views.specs.History.{Past, association_in, last_tick, stop_in, opens_in}
use Rattle.tase_views.specs.View.{own, View, moves_in, view_by, view_of, held, force, keeps_force}
use Rattle.tase_views.specs.View.{table_seen, steps_in}
use Rattle.tase_views.specs.Sets.{define_fault, SetError}
use Rattle.tase_views.specs.Slots.{sets_in}
use Rattle.tase_views.specs.Lived.{IsLived}
use Rattle.tase_views.specs.Chosen.{chosen_in}
use Rattle.tase_views.specs.Listed.{defined_by, sets_listed}
use Rattle.tase_resume.specs.Warming.{of_centre, define_event, set_events, sets_told, places_of}
use Rattle.tase_resume.specs.Warming.{warm_events}
use Rattle.tase_resume.proofs.Closing.{at_seat, at_other}
use Rattle.tase_resume.proofs.TablesSeen.{table_moves-seen}
use Rattle.tase_resume.proofs.GivenKeys.{known_moves, fresh_seen}
use Rattle.tase_resume.proofs.BaseSettled.{settled}
use Rattle.tase_resume.proofs.SetsListed.{AreLawful, AreListed, listed, sets_many}
use Rattle.tase_resume.proofs.SetLists.{members_more}
use Rattle.tase_resume.proofs.SetsListed.{defined_is}
use Rattle.tase_resume.proofs.WarmKnown.{chosen_past, values_past, tag_past, opened_chosen}
use Rattle.tase_resume.proofs.WarmKnown.{closed_chosen, chosen_nowhere, given_nowhere}
use Rattle.tase_resume.proofs.WarmTold.{told, told-append, fed_events, fed_told}
use Rattle.tase_resume.proofs.WarmSteps.{front_once, next_new, next_allowed, no_fault, taken}
use Rattle.tase_resume.proofs.WarmSteps.{seen_mine, others_same, kept_none, nothing_done}
use Rattle.tase_resume.proofs.WarmSteps.{none_listed, kept_listed, others_listed}

module _ (rows : CentreRows) (lawful : IsCentre rows) (base : Past) (base_lived : IsLived rows base)
    (base_free : (who : ℕ) → association_in base who ≡ None) where
  -- A history that stands where the base does, but for the data sets of peers from a number on.
  pub record IsDefined (peers : ℕ) (past : Past) : Type 0 where
    pub lived : IsLived rows past
    pub free : (who : ℕ) → association_in past who ≡ None
    pub going : stop_in past ≡ None
    pub choice : (p : ℕ) → chosen_past p past ≡ chosen_past p base
    pub values : (q : ℕ) → values_past q past ≡ take 1 (values_past q base)
    pub tag : (d : ℕ) → d < length rows.devices → tag_past rows d past ≡ tag_past rows d base
    pub tick : last_tick past ≡ last_tick base
    pub opened : (p : ℕ) → opens_in past p ≤ opens_in base p
    pub unopened : (p : ℕ) → peers ≤ p → opens_in past p ≡ 0
    pub sets : (p : ℕ) → p < peers → (z : List ℕ)
        → sets_in (own_tables rows p) (view_of rows p past) z
        ≡ sets_in (own_tables rows p) (view_of rows p base) z
    pub no_sets : (p : ℕ) → peers ≤ p → (z : List ℕ)
        → sets_in (own_tables rows p) (view_of rows p past) z ≡ None
    pub listed : (p : ℕ) → p < peers
        → sets_listed (own_tables rows p) (view_of rows p past)
        ≡ sets_listed (own_tables rows p) (view_of rows p base)

  pub first_defined : IsDefined 0 (told (fed_events rows lawful base base_lived) [])
  first_defined =
      let is = fed_told rows lawful base base_lived in
      let past = told (fed_events rows lawful base base_lived) [] in
      record {
        lived = is.lived;
        free = is.free;
        going = is.going;
        choice = λ p. ⊎_elim (λ below. is.choice p below)
            (λ above. is.no_choice p above
            ∙ sym (chosen_nowhere rows base p base_lived above))
            (cases_lt p (length rows.tables));
        values = λ q. ⊎_elim (λ below. is.values q below)
            (λ above. is.no_values q above
            ∙ sym (ap (λ (l : List Sample). take 1 l)
            (given_nowhere rows base q base_lived above))) (cases_lt q (length rows.points));
        tag = is.tag;
        tick = is.tick;
        opened = λ p. let none = is.opens p in omega (arith, none);
        unopened = λ p above. is.opens p;
        sets = λ p below. absurd (omega (arith, below));
        no_sets = λ p above. is.no_sets p;
        listed = λ p below. absurd (omega (arith, below));
      }

  chosen_base : (p : ℕ) (past : Past) → chosen_in (view_of rows p past) ≡ chosen_past p past
  chosen_base p past =
      ap last_chosen (table_moves-seen rows (own_tables rows) p (moves_in past))

  -- the table of a peer in force in the base
  pub base_force : (p : ℕ) → force (view_of rows p base) ≡ chosen_past p base
  base_force p =
      (settled rows base p lawful base_lived base_free).table ∙ chosen_base p base

  -- A peer is defining its data sets, of which these are done, behind such a history.
  pub record IsDefining (peer : ℕ) (before : Past) (done : List DataSet) (past : Past)
      : Type 0 where
    pub lived : IsLived rows past
    pub mine : association_in past 0 ≡ Some (record { peer = peer; ordinal = 0 })
    pub others : (who : ℕ) → (0 ≡ who → ⊥) → association_in past who ≡ None
    pub going : stop_in past ≡ None
    pub choice : (p : ℕ) → chosen_past p past ≡ chosen_past p base
    pub values : (q : ℕ) → values_past q past ≡ take 1 (values_past q base)
    pub tag : (d : ℕ) → d < length rows.devices → tag_past rows d past ≡ tag_past rows d base
    pub tick : last_tick past ≡ last_tick base
    pub once : opens_in past peer ≡ 1
    pub others_opens : (p : ℕ) → (peer ≡ p → ⊥) → opens_in past p ≡ opens_in before p
    pub count : open_count (filter_map table_seen (view_of rows peer past)) ≡ 1
    pub table : force (view_of rows peer past) ≡ chosen_past peer base
    pub sets : (z : List ℕ)
        → sets_in (own_tables rows peer) (view_of rows peer past) z ≡ members_in done z
    pub others_sets : (p : ℕ) → (peer ≡ p → ⊥) → (z : List ℕ)
        → sets_in (own_tables rows p) (view_of rows p past) z
        ≡ sets_in (own_tables rows p) (view_of rows p before) z
    pub list : sets_listed (own_tables rows peer) (view_of rows peer past) ≡ done
    pub others_lists : (p : ℕ) → (peer ≡ p → ⊥)
        → sets_listed (own_tables rows p) (view_of rows p past)
        ≡ sets_listed (own_tables rows p) (view_of rows p before)

  abbrev key_of : ℕ → Key
  key_of peer = record { peer = peer; ordinal = 0 }

  -- the association is opened
  pub open_step : (peer : ℕ) (past : Past) → peer < length rows.tables → IsDefined peer past
      → IsDefining peer past [] (of_centre (Open peer) ∷ past)
  open_step peer past there is =
      let owns = own_tables rows in
      let none_opened = is.unopened peer (omega arith) in
      let settled_past = settled rows past peer lawful is.lived is.free in
      let seen : view_of rows peer (of_centre (Open peer) ∷ past)
      ≡ own (opens_in past peer) opens ∷ view_of rows peer past =
      seen_mine rows owns peer (opens_in past peer) opens (moves_in past) in
      let none_there : (z : List ℕ)
      → sets_in (owns peer) (view_of rows peer (of_centre (Open peer) ∷ past)) z ≡ None =
      λ z. ap (λ (v : View). sets_in (owns peer) v z) seen
      ∙ kept_none (keeps_force (own (opens_in past peer) opens) (view_of rows peer past))
      (sets_in (owns peer) (view_of rows peer past) z) (is.no_sets peer (omega arith) z) in
      record {
        lived = (
          taken rows past (Open peer) is.going (rw (is.free 0) refl)
              (lt-ltb peer (length rows.tables) there) refl,
          is.lived,
        );
        mine = ap (λ n. let k : Key = record { peer = peer; ordinal = n } in Some k) none_opened;
        others = λ who apart. at_other (of_centre (Open peer)) past who apart ∙ is.free who;
        going = is.going;
        choice = λ p. opened_chosen (peer == p) (filter_map (table_move p) (moves_in past))
            ∙ is.choice p;
        values = is.values;
        tag = is.tag;
        tick = is.tick;
        once =
            ap (λ b. (if b then 1 else 0) + opens_in past peer) (eq-eqb peer peer refl)
            ∙ ap (λ n. 1 + n) none_opened;
        others_opens = λ p apart.
            ap (λ b. (if b then 1 else 0) + opens_in past p) (ne_eqb peer p apart)
            ∙ zero_plus (opens_in past p);
        count =
            ap (λ (v : View). open_count (filter_map table_seen v)) seen
            ∙ ap (λ n. 1 + n) settled_past.count;
        table =
            ap force seen
            ∙ ap (λ b. if b then last_chosen (filter_map table_seen (view_of rows peer past))
            else force (view_of rows peer past))
            (ne_eqb (1 + open_count (filter_map table_seen (view_of rows peer past))) 0
            (λ e. omega (arith, e)))
            ∙ settled_past.table ∙ chosen_base peer past ∙ is.choice peer;
        sets = none_there;
        list = none_listed (owns peer) (view_of rows peer (of_centre (Open peer) ∷ past))
            none_there;
        others_lists = λ p apart.
            others_listed rows owns p (record { peer = peer; ordinal = opens_in past peer })
            (moves_in past) (ne_eqb peer p apart) opens (inl (inl refl));
        others_sets = λ p apart z.
            others_same rows owns p (record { peer = peer; ordinal = opens_in past peer })
            (moves_in past) z (ne_eqb peer p apart) opens (inl (inl refl));
      }
    where
      zero_plus : (n : ℕ) → 0 + n ≡ n
      zero_plus n = omega arith

  zero_sum : (n : ℕ) → 0 + n ≡ n
  zero_sum n = omega arith

  -- the table by which a peer defines
  abbrev pub table_of_base : ℕ → OwnTable
  table_of_base peer = held (own_tables rows peer) (view_of rows peer base)

  if_and : (b : Bool) (x y : Option (List ObjectName))
      → (if b && true then x else y) ≡ (if b then x else y)
  if_and true x y = refl
  if_and false x y = refl

  -- a data set is defined
  pub define_step : (peer : ℕ) (before : Past) (done : List DataSet) (set : DataSet)
      (rest : List DataSet) (past : Past) → AreLawful (table_of_base peer) (done ++ set ∷ rest)
      → IsDefining peer before done past
      → IsDefining peer before (done ++ set ∷ [])
      (of_centre (define_event (table_of_base peer) set) ∷ past)
  define_step peer before done set rest past allowed is =
      let owns = own_tables rows in
      let tables = own_tables rows peer in
      let table = table_of_base peer in
      let event = define_event table set in
      let name = domain_name table set.name in
      let act = defines name set.members in
      let key = key_of peer in
      let view = view_of rows peer past in
      let moves : moves_in (of_centre event ∷ past) ≡ acts key act ∷ moves_in past =
      ap (λ (k : Option Key). moves_of (sort_of event) k ++ moves_in past) is.mine in
      let seen : view_of rows peer (of_centre event ∷ past) ≡ own 0 act ∷ view =
      ap (view_by rows owns peer) moves ∙ seen_mine rows owns peer 0 act (moves_in past) in
      let same : held tables view ≡ table =
      ap (table_in tables) (is.table ∙ sym (base_force peer)) in
      let many = sets_many tables view done (front_once done (set ∷ rest) allowed.once) is.sets in
      let long = length-append done (set ∷ rest) in
      let few = allowed.few in
      let fault : define_fault (held tables view) (sets_in tables view) view name set.members
      ≡ None =
      ap (λ (t : OwnTable). define_fault t (sets_in tables view) view name set.members) same
      ∙ no_fault table (sets_in tables view) view set
      (next_allowed table done set rest allowed.allowed)
      (is.sets set.name ∙ next_new done set rest allowed.once)
      (omega (arith, many, long, few)) in
      record {
        lived = (taken rows past event is.going (rw is.mine refl) refl refl, is.lived);
        mine = is.mine;
        others = λ who apart. at_other (of_centre event) past who apart ∙ is.others who apart;
        going = is.going;
        choice = λ p.
            ap (λ (m : List Move). last_chosen (filter_map (table_move p) m)) moves ∙ is.choice p;
        values = is.values;
        tag = λ d within.
            ap (λ (m : List Move). tag_of (device_moves (device_of rows d).name
            (steps_in rows owns m))) moves ∙ is.tag d within;
        tick = is.tick;
        once = zero_sum (opens_in past peer) ∙ is.once;
        others_opens = λ p apart. zero_sum (opens_in past p) ∙ is.others_opens p apart;
        count = ap (λ (v : View). open_count (filter_map table_seen v)) seen ∙ is.count;
        table = ap force seen ∙ is.table;
        sets = λ z.
            ap (λ (v : View). sets_in tables v z) seen
            ∙ defined_is tables view 0 name set.members z
            ∙ ap (λ (o : Option SetError). if bytes_eq set.name z && is_none o
            then Some set.members else sets_in tables view z) fault
            ∙ if_and (bytes_eq set.name z) (Some set.members) (sets_in tables view z)
            ∙ ap (λ (o : Option (List ObjectName)). if bytes_eq set.name z
            then Some set.members else o) (is.sets z)
            ∙ sym (members_more done set z (next_new done set rest allowed.once));
        others_sets = λ p apart z.
            ap (λ (m : List Move). sets_in (owns p) (view_by rows owns p m) z) moves
            ∙ others_same rows owns p key (moves_in past) z (ne_eqb peer p apart) act
            (inr (name, set.members, refl))
            ∙ is.others_sets p apart z;
        list =
            ap (sets_listed tables) seen
            ∙ ap (λ (l : List DataSet). l ++ defined_by tables view (own 0 act))
            (kept_listed tables view (own 0 act)
            (λ z there. ap (λ (o : Option (List ObjectName)). is_some o)
            (defined_is tables view 0 name set.members z)
            ∙ some_either (bytes_eq set.name z
            && is_none (define_fault (held tables view) (sets_in tables view) view name
            set.members)) set.members (sets_in tables view z) there)
            ∙ is.list)
            ∙ ap (λ (o : Option SetError). done ++ (if is_none o then set ∷ [] else [])) fault;
        others_lists = λ p apart.
            ap (λ (m : List Move). sets_listed (owns p) (view_by rows owns p m)) moves
            ∙ others_listed rows owns p key (moves_in past) (ne_eqb peer p apart) act
            (inr (name, set.members, refl))
            ∙ is.others_lists p apart;
      }
    where
      some_either : (b : Bool) (x : List ObjectName) (y : Option (List ObjectName))
          → is_some y ≡ true → is_some (if b then Some x else y) ≡ true
      some_either true x y there = refl
      some_either false x y there = there

  defined_all : (peer : ℕ) (before : Past) (rest done : List DataSet) (past : Past)
      → AreLawful (table_of_base peer) (done ++ rest) → IsDefining peer before done past
      → IsDefining peer before (done ++ rest)
      (told (map (define_event (table_of_base peer)) rest) past)
  defined_all peer before [] done past allowed is =
      subst (λ (l : List DataSet). IsDefining peer before l past) (sym (append-nil done)) is
  defined_all peer before (set ∷ rest) done past allowed is =
      let joined : (done ++ set ∷ []) ++ rest ≡ done ++ set ∷ rest =
      append_assoc done (set ∷ []) rest in
      subst (λ (l : List DataSet). IsDefining peer before l
      (told (map (define_event (table_of_base peer)) (set ∷ rest)) past)) joined
      (defined_all peer before rest (done ++ set ∷ [])
      (of_centre (define_event (table_of_base peer) set) ∷ past)
      (subst (AreLawful (table_of_base peer)) (sym joined) allowed)
      (define_step peer before done set rest past allowed is))

  -- the association is closed
  close_step : (peer : ℕ) (before past : Past) (done : List DataSet) → IsDefined peer before
      → IsDefining peer before done past
      → ((z : List ℕ) → members_in done z
      ≡ sets_in (own_tables rows peer) (view_of rows peer base) z)
      → done ≡ sets_listed (own_tables rows peer) (view_of rows peer base)
      → 1 ≤ opens_in base peer
      → IsDefined (peer + 1) (of_centre Close ∷ past)
  close_step peer before past done first is all all_listed some =
      let owns = own_tables rows in
      let tables = own_tables rows peer in
      let key = key_of peer in
      let view = view_of rows peer past in
      let moves : moves_in (of_centre Close ∷ past) ≡ acts key closes ∷ moves_in past =
      ap (λ (k : Option Key). moves_of closing k ++ moves_in past) is.mine in
      let seen : view_of rows peer (of_centre Close ∷ past) ≡ own 0 closes ∷ view =
      ap (view_by rows owns peer) moves ∙ seen_mine rows owns peer 0 closes (moves_in past) in
      let behind : force (own 0 closes ∷ view) ≡ force view =
      ap (λ n. if n - 1 == 0 then last_chosen (filter_map table_seen view) else force view)
      is.count
      ∙ chosen_base peer past ∙ is.choice peer ∙ sym is.table in
      let keeps : keeps_force (own 0 closes) view ≡ true =
      eq-eqb (force (own 0 closes ∷ view)) (force view) behind in
      let mine : (z : List ℕ)
      → sets_in tables (view_of rows peer (of_centre Close ∷ past)) z
      ≡ sets_in tables (view_of rows peer base) z =
      λ z. ap (λ (v : View). sets_in tables v z) seen
      ∙ ap (λ b. if b then sets_in tables view z else None) keeps ∙ is.sets z ∙ all z in
      let other : (p : ℕ) → (peer ≡ p → ⊥) → (z : List ℕ)
      → sets_in (owns p) (view_of rows p (of_centre Close ∷ past)) z
      ≡ sets_in (owns p) (view_of rows p before) z =
      λ p apart z.
      ap (λ (m : List Move). sets_in (owns p) (view_by rows owns p m) z) moves
      ∙ others_same rows owns p key (moves_in past) z (ne_eqb peer p apart) closes
      (inl (inr refl))
      ∙ is.others_sets p apart z in
      record {
        lived = (taken rows past Close is.going (rw is.mine refl) refl refl, is.lived);
        free = λ who. ⊎_elim (λ same. at_seat (of_centre Close) past who same)
            (λ apart. at_other (of_centre Close) past who apart ∙ is.others who apart)
            (cases_eq 0 who);
        going = is.going;
        choice = λ p.
            ap (λ (m : List Move). last_chosen (filter_map (table_move p) m)) moves
            ∙ closed_chosen (peer == p) (filter_map (table_move p) (moves_in past)) ∙ is.choice p;
        values = is.values;
        tag = λ d within.
            ap (λ (m : List Move). tag_of (device_moves (device_of rows d).name
            (steps_in rows owns m))) moves ∙ is.tag d within;
        tick = is.tick;
        opened = λ p. ⊎_elim
            (λ same.
            let its : opens_in past p ≡ 1 = ap (opens_in past) (sym same) ∙ is.once in
            let more : 1 ≤ opens_in base p = subst (λ n. 1 ≤ opens_in base n) same some in
            omega (arith, its, more))
            (λ apart.
            let its = is.others_opens p apart in let least = first.opened p in
            omega (arith, its, least)) (cases_eq peer p);
        unopened = λ p above.
            let its = is.others_opens p (λ e. omega (arith, above, e)) in
            let none = first.unopened p (omega (arith, above)) in
            omega (arith, its, none);
        sets = λ p below z. ⊎_elim
            (λ same. subst (λ n. sets_in (owns n) (view_of rows n (of_centre Close ∷ past)) z
            ≡ sets_in (owns n) (view_of rows n base) z) same (mine z))
            (λ apart. other p apart z ∙ first.sets p (omega (arith, below, apart)) z)
            (cases_eq peer p);
        no_sets = λ p above z.
            other p (λ e. omega (arith, above, e)) z
            ∙ first.no_sets p (omega (arith, above)) z;
        listed = λ p below. ⊎_elim
            (λ same. subst (λ n. sets_listed (owns n) (view_of rows n (of_centre Close ∷ past))
            ≡ sets_listed (owns n) (view_of rows n base)) same
            (ap (sets_listed tables) seen
            ∙ append-nil (filter (λ (set : DataSet).
            is_some (sets_in tables (own 0 closes ∷ view) set.name)) (sets_listed tables view))
            ∙ kept_listed tables view (own 0 closes)
            (λ z there. ap (λ b. is_some (if b then sets_in tables view z else None)) keeps
            ∙ there)
            ∙ is.list ∙ all_listed))
            (λ apart.
            ap (λ (m : List Move). sets_listed (owns p) (view_by rows owns p m)) moves
            ∙ others_listed rows owns p key (moves_in past) (ne_eqb peer p apart) closes
            (inl (inr refl))
            ∙ is.others_lists p apart ∙ first.listed p (omega (arith, below, apart)))
            (cases_eq peer p);
      }

  -- a peer that has a data set has opened an association
  has_opened : (peer : ℕ) (set : DataSet) (rest : List DataSet)
      → ((z : List ℕ) → members_in (set ∷ rest) z
      ≡ sets_in (own_tables rows peer) (view_of rows peer base) z)
      → 1 ≤ opens_in base peer
  has_opened peer set rest all =
      ⊎_elim
      (λ none. absurd (none-some set.members
      (sym (nothing_done (own_tables rows peer) (view_of rows peer base) set.name
      (λ n. fresh_seen rows (own_tables rows) peer n base (moves_in base) lawful
      (omega (arith, none)) (known_moves rows base base_lived)))
      ∙ sym (all set.name)
      ∙ ap (λ b. option_map (λ (s : DataSet). s.members)
      (if b then Some set else find (is_set_named set.name) rest))
      ((bytes_eq-Decides set.name set.name).1 refl))))
      (λ some. omega (arith, some)) (cases_eq (opens_in base peer) 0)

  pub block : (peer : ℕ) (past : Past) → peer < length rows.tables → IsDefined peer past
      → IsDefined (peer + 1) (told (sets_told rows base peer) past)
  block peer past there is =
      by (sets_listed (own_tables rows peer) (view_of rows peer base)) refl
      (listed (own_tables rows peer) (view_of rows peer base))
    where
      by : (sets : List DataSet)
          → sets ≡ sets_listed (own_tables rows peer) (view_of rows peer base)
          → AreListed (own_tables rows peer) (view_of rows peer base) sets
          → IsDefined (peer + 1) (told (set_events peer (table_of_base peer) sets) past)
      by [] these_are its = record {
        lived = is.lived;
        free = is.free;
        going = is.going;
        choice = is.choice;
        values = is.values;
        tag = is.tag;
        tick = is.tick;
        opened = is.opened;
        unopened = λ p above. is.unopened p (omega (arith, above));
        sets = λ p below z. ⊎_elim
            (λ same.
            let least : peer ≤ p = omega (arith, same) in
            is.no_sets p least z
            ∙ subst (λ n. None ≡ sets_in (own_tables rows n) (view_of rows n base) z) same
            (its.members z))
            (λ apart. is.sets p (omega (arith, below, apart)) z) (cases_eq peer p);
        no_sets = λ p above z. is.no_sets p (omega (arith, above)) z;
        listed = λ p below. ⊎_elim
            (λ same.
            let least : peer ≤ p = omega (arith, same) in
            none_listed (own_tables rows p) (view_of rows p past) (is.no_sets p least)
            ∙ subst (λ n. [] ≡ sets_listed (own_tables rows n) (view_of rows n base)) same
            these_are)
            (λ apart. is.listed p (omega (arith, below, apart))) (cases_eq peer p);
      }
      by (set ∷ rest) these_are its =
          let table = table_of_base peer in
          let these = map (define_event table) (set ∷ rest) in
          subst (IsDefined (peer + 1))
          (sym (told-append these (Close ∷ []) (of_centre (Open peer) ∷ past)))
          (close_step peer past (told these (of_centre (Open peer) ∷ past)) (set ∷ rest) is
          (defined_all peer past (set ∷ rest) [] (of_centre (Open peer) ∷ past) its.lawful
          (open_step peer past there is))
          its.members these_are (has_opened peer set rest its.members))

  blocks : (n k : ℕ) (past : Past) → k + n ≤ length rows.tables → IsDefined k past
      → IsDefined (k + n) (told (flat_map (sets_told rows base) (range_with_len k n)) past)
  blocks zero k past within is =
      let same : k ≡ k + 0 = omega arith in subst (λ m. IsDefined m past) same is
  blocks (suc n) k past within is =
      let same : k + 1 + n ≡ k + suc n = omega arith in
      subst (λ m. IsDefined m
      (told (flat_map (sets_told rows base) (range_with_len k (suc n))) past)) same
      (subst (IsDefined (k + 1 + n))
      (sym (told-append (sets_told rows base k)
      (flat_map (sets_told rows base) (range_with_len (k + 1) n)) past))
      (blocks n (k + 1) (told (sets_told rows base k) past) (omega (arith, within))
      (block k past (omega (arith, within)) is)))

  -- the whole snapshot of the base
  pub all_defined : IsDefined (length rows.tables) (told (warm_events rows base) [])
  all_defined =
      let fed = fed_events rows lawful base base_lived in
      let same : 0 + length rows.tables ≡ length rows.tables = omega arith in
      subst (λ n. IsDefined n (told (warm_events rows base) [])) same
      (subst (IsDefined (0 + length rows.tables))
      (sym (told-append fed (flat_map (sets_told rows base) (places_of rows.tables)) []))
      (blocks (length rows.tables) 0 (told fed []) (omega arith) first_defined))
