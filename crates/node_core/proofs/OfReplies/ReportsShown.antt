-- The reports of transfer sets, by what is kept of them, are those of what a view shows.
use Rattle.std.proofs.Common.{◌≡◌, ◌==◌, ◌<◌, ◌≤◌, ◌+◌, ℕ, suc, Bool, true, false, not, ◌&&◌, ◌||◌}
use Rattle.std.proofs.Common.{List, [], ◌∷◌, ◌++◌, map, length, reverse, Option, Some, None, nat_eq}
use Rattle.std.proofs.Common.{is_some, bytes_eq, refl, sym, ap, subst, ◌∙◌, arith, eq-eqb}
use Rattle.std.specs.Prelude.{if◌then◌else◌, is_none, flat_map, filter_map}
use Rattle.std.specs.Option.{option_eq, unwrap_or}
use Rattle.std.specs.List.{All, filter, list_any, range_with_len}
use Rattle.std.proofs.lemmas.Bool.{false≢true, and_parts}
use Rattle.std.proofs.lemmas.List.{append_assoc, append-nil, get_or_past}
use Rattle.mms_data.specs.ObjectName.{ObjectName}
use Rattle.point_db.specs.Updates.{Updates}
use Rattle.data_sets.specs.Books.{members_in}
use Rattle.transfer_sets.specs.declared.noted.Noted.{Noted}
use Rattle.transfer_sets.specs.declared.wish.Wish.{Wish}
use Rattle.transfer_sets.specs.SlotState.{SlotState, tells_all}
use Rattle.transfer_sets.specs.SlotMoves.{untold}
use Rattle.transfer_sets.specs.Due.{conditions_due}
use Rattle.bilateral.specs.declared.rows.TheConstants.{SLOT_LIMIT}
use Rattle.transfer_sets.specs.Banks.{slot_at, is_owned_by, free_slot}
use Rattle.tase_views.specs.declared.reply.ReportKind.{ReportKind}
use Rattle.tase_views.specs.OwnTables.{OwnTable, OwnTables, domain_name}
use Rattle.tase_views.specs.Objects.{Object, object_named}
use Rattle.tase_views.specs.View.{View, held, moment_in, ticked, asked}
use Rattle.tase_views.specs.Slots.{asked_conditions, makes_report, only_changes, wished_members}
use Rattle.tase_views.specs.Slots.{members_told, places_told, is_point, sets_in, slot_moves, owns}
use Rattle.tase_views.specs.Reports.{told_of, members_where, is_variable, report_of_all}
use Rattle.tase_views.specs.Reports.{whole_report, changed_report, change_reports, slot_reports}
use Rattle.tase_views.specs.Reports.{slot_state, own_reports, due_conditions, timeout_report}
use Rattle.tase_views.specs.Reports.{reports_by, Told, noted_of, parts_of}
use Rattle.node_core.specs.declared.feeds.cause.ReportCause.{ReportCause}
use Rattle.node_core.specs.declared.feeds.cause.ReportCause.TheVariants.{Tick, Ask}
use Rattle.node_core.specs.Objects.Found.{offered}
use Rattle.node_core.specs.Feeds.SlotFeeds.{conditions_by, moment_at}
use Rattle.node_core.specs.Replies.Shown.{Shown, IsShown}
use Rattle.node_core.proofs.OfReplies.ReportsMade.{where-some, told_many}
use Rattle.tase_views.specs.declared.reply.ReportKind.TheVariants.{Set}
use Rattle.node_core.proofs.OfReplies.ReportsAlike.{Below, enabled, or_true, places_placed}
use Rattle.node_core.proofs.OfReplies.ReportsAlike.{noted_placed}
use Rattle.node_core.proofs.OfReplies.ReportsAlike.{is_of_member, first_noted, reports-alike}

-- ---- what is kept of a transfer set, and what its view shows

-- where a report is of changes, some change is noted
has_first : (none tells : Bool) (first : Option ℕ)
    → (not none && not (tells && is_none first)) ≡ true → tells ≡ true → is_some first ≡ true
has_first none tells (Some first) makes told = refl
has_first true true None makes told = absurd (false≢true makes)
has_first false true None makes told = absurd (false≢true makes)
has_first none false None makes told = absurd (false≢true told)

module _ (updates : Updates) (tables : OwnTables) (view : View) (shown : Shown)
    (s : IsShown updates tables view shown) (slot : ℕ) where
  abbrev own : OwnTable
  own = offered shown.table

  abbrev kept : SlotState
  kept = (slot_at shown.slots slot).state

  abbrev seen : SlotState
  seen = slot_state tables view slot

  abbrev wished : Option (List ObjectName)
  wished = wished_members own (members_in shown.book.sets) kept.wish

  abbrev told : List ObjectName
  told = members_told (held tables view) (sets_in tables view) (slot_moves tables view slot)

  wished_shown : (wish : Wish) → wished_members own (members_in shown.book.sets) wish
      ≡ wished_members (held tables view) (sets_in tables view) wish
  wished_shown wish =
      ap (λ (found : Option (List ObjectName)). if bytes_eq wish.set_domain own.domain then found
      else None) (s.book.members wish.set_name)
      ∙ ap (λ (table : OwnTable). wished_members table (sets_in tables view) wish) s.table

  members_shown : unwrap_or wished [] ≡ told
  members_shown =
      ap (λ (found : Option (List ObjectName)). unwrap_or found []) (wished_shown kept.wish)
      ∙ ap (λ (wish : Wish). unwrap_or
      (wished_members (held tables view) (sets_in tables view) wish) []) (s.slots.state slot).wish

  found_told : (members : List ObjectName) → Some members ≡ wished → members ≡ told
  found_told members found =
      ap (λ (o : Option (List ObjectName)). unwrap_or o []) found ∙ members_shown

  told_below : Below (length told) (places_told (held tables view) told)
  told_below = λ point.
      places_placed (λ member. is_point point (object_named (held tables view) member)) 0
      (length told) told (omega arith)

  module _ (cause : ReportCause) (makes : makes_report kept (conditions_by cause slot kept) ≡ true)
    where
      on : kept.wish.status ≡ true
      on = enabled cause slot kept makes

      -- its data set is there
      not_gone : None ≡ wished → ⊥
      not_gone gone =
          false≢true (ap (λ (o : Option (List ObjectName)). is_some o)
          (gone ∙ wished_shown kept.wish) ∙ s.slots.set_there slot on)

      -- where all changes are told, they are of its members
      noted_known : (members : List ObjectName) → Some members ≡ wished
          → tells_all kept.wish ≡ true
          → All (λ (n : Noted). n.member < length members) kept.noted
      noted_known members found all =
          subst (λ (n : ℕ). All (λ (note : Noted). note.member < n) kept.noted)
          (ap (λ (l : List ObjectName). length l) (sym (found_told members found)))
          (subst (All (λ (note : Noted). note.member < length told))
          (sym ((s.slots.state slot).noted on all))
          (noted_placed (length told) (places_told (held tables view) told)
          (reverse (filter (is_of_member (places_told (held tables view) told))
          (untold (slot_moves tables view slot)))) told_below))

      -- where the members that changed are told, there is one
      changed_some : (now : ℕ) (members : List ObjectName) → Some members ≡ wished
          → (kept.wish.rbe && only_changes (conditions_by cause slot kept)) ≡ true
          → 0 < length (told_of own view slot now (conditions_by cause slot kept)
          (members_where own 0 (λ place object. is_variable object
          || list_any (λ (n : Noted). n.member == place) kept.noted) members))
      changed_some now members found tells =
          let c = conditions_by cause slot kept in
          let like = s.slots.state slot in
          let rbe = (and_parts kept.wish.rbe (only_changes c) tells).0 in
          let some : is_some seen.first ≡ true =
          ap (λ (o : Option ℕ). is_some o) (sym (like.first on))
          ∙ has_first (c == 0) (kept.wish.rbe && only_changes c) kept.first makes tells in
          let one = first_noted (length told) (places_told (held tables view) told)
          (untold (slot_moves tables view slot)) told_below some in
          let is : ℕ → Option Object → Bool = λ place object. is_variable object
          || list_any (λ (n : Noted). n.member == place) kept.noted in
          let within : one.0 < length members =
          subst (λ (l : List ObjectName). one.0 < length l) (sym (found_told members found)) one.1
          in
          let there = where-some own is one.0 0 members (omega arith) (omega (arith, within))
          (λ object. ap (λ (b : Bool). is_variable object || b) (like.members on rbe one.0 ∙ one.2)
          ∙ or_true (is_variable object)) in
          omega (arith, there, told_many own view slot now c (members_where own 0 is members))

  -- ---- whose they are

  owned_shown : (ordinal : ℕ) → is_owned_by ordinal (slot_at shown.slots slot)
      ≡ owns ordinal (slot_moves tables view slot)
  owned_shown ordinal =
      ap (λ (o : Option ℕ). option_eq nat_eq o (Some ordinal)) (s.slots.owner slot)

  pub own-none : (cause : ReportCause) (ordinal : ℕ)
      → is_owned_by ordinal (slot_at shown.slots slot) ≡ false
      → [] ≡ own_reports tables view ordinal (moment_at cause)
      (λ s. conditions_by cause s (slot_state tables view s)) slot
  own-none cause ordinal other =
      ap (λ (b : Bool). if b then slot_reports (held tables view) view slot (moment_at cause)
      (conditions_by cause slot seen) seen told else []) (sym other ∙ owned_shown ordinal)

  pub own-made : (cause : ReportCause) (ordinal : ℕ)
      → is_owned_by ordinal (slot_at shown.slots slot) ≡ true
      → slot_reports own view slot (moment_at cause) (conditions_by cause slot kept) kept
      (unwrap_or wished [])
      ≡ own_reports tables view ordinal (moment_at cause)
      (λ s. conditions_by cause s (slot_state tables view s)) slot
  own-made cause ordinal mine =
      let now = moment_at cause in
      let c = conditions_by cause slot kept in
      ap (λ (members : List ObjectName). slot_reports own view slot now c kept members)
      members_shown
      ∙ ap (λ (table : OwnTable). slot_reports table view slot now c kept told) s.table
      ∙ reports-alike (held tables view) view cause slot now kept seen told (s.slots.state slot)
      ∙ ap (λ (b : Bool). if b then slot_reports (held tables view) view slot now
      (conditions_by cause slot seen) seen told else []) (sym mine ∙ owned_shown ordinal)

  -- where nothing is due
  pub own-undue : (cause : ReportCause) (ordinal : ℕ) → conditions_by cause slot kept ≡ 0
      → [] ≡ own_reports tables view ordinal (moment_at cause)
      (λ s. conditions_by cause s (slot_state tables view s)) slot
  own-undue cause ordinal none = by (is_owned_by ordinal (slot_at shown.slots slot)) refl
    where
      by : (b : Bool) → is_owned_by ordinal (slot_at shown.slots slot) ≡ b
          → [] ≡ own_reports tables view ordinal (moment_at cause)
          (λ s. conditions_by cause s (slot_state tables view s)) slot
      by true mine =
          ap (λ (c : ℕ). slot_reports own view slot (moment_at cause) c kept (unwrap_or wished []))
          (sym none) ∙ own-made cause ordinal mine
      by false other = own-none cause ordinal other

-- ---- one of the three ways of a report

pick-whole : {R : Type 0} (makes tells : Bool) (whole : R) (rest : List R) → makes ≡ true
    → tells ≡ false
    → whole ∷ [] ≡ (if not makes then [] else if not tells then whole ∷ [] else rest)
pick-whole true false whole rest makes tells = refl
pick-whole false tells whole rest makes t = absurd (false≢true makes)
pick-whole true true whole rest makes tells = absurd (false≢true (sym tells))

pick-changes : {R : Type 0} (makes tells all : Bool) (whole : R) (these rest : List R)
    → makes ≡ true → tells ≡ true → all ≡ true
    → these ≡ (if not makes then [] else if not tells then whole ∷ []
    else if all then these else rest)
pick-changes true true true whole these rest makes tells all = refl
pick-changes false tells all whole these rest makes t every = absurd (false≢true makes)
pick-changes true false all whole these rest makes t every = absurd (false≢true t)
pick-changes true true false whole these rest makes t every = absurd (false≢true every)

pick-changed : {R : Type 0} (makes tells all : Bool) (whole : R) (these rest : List R)
    → makes ≡ true → tells ≡ true → all ≡ false
    → rest ≡ (if not makes then [] else if not tells then whole ∷ []
    else if all then these else rest)
pick-changed true true false whole these rest makes tells all = refl
pick-changed false tells all whole these rest makes t every = absurd (false≢true makes)
pick-changed true false all whole these rest makes t every = absurd (false≢true t)
pick-changed true true true whole these rest makes t every = absurd (false≢true (sym every))

-- four things are others
four : {A B C D R : Type 0} (F : A → B → C → D → R) {a a' : A} {b b' : B} {c c' : C} {d d' : D}
    → a ≡ a' → b ≡ b' → c ≡ c' → d ≡ d' → F a b c d ≡ F a' b' c' d'
four F {a} {a'} {b} {b'} {c} {c'} {d} {d'} p q r t =
    ap (λ x. F x b c d) p ∙ ap (λ x. F a' x c d) q ∙ ap (λ x. F a' b' x d) r
    ∙ ap (λ x. F a' b' c' x) t

and_both : (a b r : Bool) → a ≡ true → b ≡ r → (a && b) ≡ r
and_both true b r e t = t
and_both false b r e t = absurd (false≢true e)

-- ---- a report, by what its maker holds

-- conditions that make a report of a transfer set, its moment, and the wish
pub record IsMade (shown : Shown) (slot : ℕ) (cause : ReportCause) (c now : ℕ) (w : Wish) : Type 0
  where
    pub conditions : c ≡ conditions_by cause slot (slot_at shown.slots slot).state
    pub moment : now ≡ moment_at cause
    pub wish : w ≡ (slot_at shown.slots slot).state.wish
    pub makes : makes_report (slot_at shown.slots slot).state c ≡ true

-- the members of the data set that a wish names
abbrev pub wished_in : Shown → Wish → Option (List ObjectName)
wished_in shown w = wished_members (offered shown.table) (members_in shown.book.sets) w

-- the reports of a transfer set by what is kept of it
abbrev pub kept_reports : Shown → View → ℕ → ReportCause → List ReportKind
kept_reports shown view slot cause =
    let state = (slot_at shown.slots slot).state in
    slot_reports (offered shown.table) view slot (moment_at cause) (conditions_by cause slot state)
    state (unwrap_or (wished_in shown state.wish) [])

-- the variables and the members that changed
abbrev pub told_changed : OwnTable → View → ℕ → ℕ → ℕ → List ObjectName → List Noted → List Told
told_changed table view s now c members notes =
    told_of table view s now c (members_where table 0 (λ place object. is_variable object
    || list_any (λ (n : Noted). n.member == place) notes) members)

module _ (updates : Updates) (tables : OwnTables) (view : View) (shown : Shown)
    (s : IsShown updates tables view shown) (slot : ℕ) (cause : ReportCause) (c now : ℕ) (w : Wish)
    (m : IsMade shown slot cause c now w) where
  abbrev state : SlotState
  state = (slot_at shown.slots slot).state

  abbrev due : ℕ
  due = conditions_by cause slot state

  abbrev all_members : List ObjectName
  all_members = unwrap_or (wished_in shown state.wish) []

  makes_due : makes_report state due ≡ true
  makes_due = sym (ap (makes_report state) m.conditions) ∙ m.makes

  found_due : (found : Option (List ObjectName)) → found ≡ wished_in shown w
      → found ≡ wished_in shown state.wish
  found_due found same = same ∙ ap (wished_in shown) m.wish

  members_due : (members : List ObjectName) → Some members ≡ wished_in shown w
      → members ≡ all_members
  members_due members found =
      ap (λ (o : Option (List ObjectName)). unwrap_or o []) (found_due (Some members) found)

  tells_due : (b : Bool) → (w.rbe && only_changes c) ≡ b
      → (state.wish.rbe && only_changes due) ≡ b
  tells_due b tells =
      sym (ap (λ (x : Wish). x.rbe && only_changes c) m.wish
      ∙ ap (λ (k : ℕ). state.wish.rbe && only_changes k) m.conditions) ∙ tells

  all_due : (b : Bool) → (w.rbe && only_changes c) ≡ true → w.all_changes ≡ b
      → tells_all state.wish ≡ b
  all_due b tells all =
      and_both state.wish.rbe state.wish.all_changes b
      (and_parts state.wish.rbe (only_changes due) (tells_due true tells)).0
      (sym (ap (λ (x : Wish). x.all_changes) m.wish) ∙ all)

  pub never_gone : None ≡ wished_in shown w → ⊥
  never_gone gone =
      not_gone updates tables view shown s slot cause makes_due (found_due None gone)

  pub whole-made : (members : List ObjectName) → Some members ≡ wished_in shown w
      → (w.rbe && only_changes c) ≡ false
      → Set (domain_name (offered shown.table) w.set_name) (map (λ (t : Told). t.outcome)
      (told_of (offered shown.table) view slot now c members)) ∷ []
      ≡ kept_reports shown view slot cause
  whole-made members found tells =
      ap (λ (r : ReportKind). r ∷ [])
      (four (λ (x : Wish) (n k : ℕ) (these : List ObjectName). Set
      (domain_name (offered shown.table) x.set_name) (map (λ (t : Told). t.outcome)
      (told_of (offered shown.table) view slot n k these))) m.wish m.moment m.conditions
      (members_due members found))
      ∙ pick-whole (makes_report state due) (state.wish.rbe && only_changes due)
      (whole_report (offered shown.table) view slot (moment_at cause) due state all_members) _
      makes_due (tells_due false tells)

  pub changes-known : (members : List ObjectName) (notes : List Noted)
      → Some members ≡ wished_in shown w → notes ≡ state.noted
      → (w.rbe && only_changes c) ≡ true → w.all_changes ≡ true
      → All (λ (n : Noted). n.member < length members) notes
  changes-known members notes found noted tells all =
      subst (All (λ (n : Noted). n.member < length members)) (sym noted)
      (noted_known updates tables view shown s slot cause makes_due members
      (found_due (Some members) found) (all_due true tells all))

  pub changes-made : (members : List ObjectName) (notes : List Noted)
      → Some members ≡ wished_in shown w → notes ≡ state.noted
      → (w.rbe && only_changes c) ≡ true → w.all_changes ≡ true
      → map (λ (part : List Noted). report_of_all (told_of (offered shown.table) view slot now c
      (members_where (offered shown.table) 0 (λ place. is_variable) members)
      ++ map (noted_of (offered shown.table) view slot now c members) part)) (parts_of 500 notes)
      ≡ kept_reports shown view slot cause
  changes-made members notes found noted tells all =
      four (λ (n k : ℕ) (these : List ObjectName) (those : List Noted).
      map (λ (part : List Noted). report_of_all (told_of (offered shown.table) view slot n k
      (members_where (offered shown.table) 0 (λ place. is_variable) these)
      ++ map (noted_of (offered shown.table) view slot n k these) part)) (parts_of 500 those))
      m.moment m.conditions (members_due members found) noted
      ∙ pick-changes (makes_report state due) (state.wish.rbe && only_changes due)
      (tells_all state.wish)
      (whole_report (offered shown.table) view slot (moment_at cause) due state all_members)
      (change_reports (offered shown.table) view slot (moment_at cause) due state all_members) _
      makes_due (tells_due true tells) (all_due true tells all)

  pub changed-some : (members : List ObjectName) (notes : List Noted)
      → Some members ≡ wished_in shown w → notes ≡ state.noted → (w.rbe && only_changes c) ≡ true
      → 0 < length (told_changed (offered shown.table) view slot now c members notes)
  changed-some members notes found noted tells =
      subst (λ (l : List Told). 0 < length l)
      (sym (ap (λ (k : ℕ). told_changed (offered shown.table) view slot now k members notes)
      m.conditions
      ∙ ap (told_changed (offered shown.table) view slot now due members) noted))
      (changed_some updates tables view shown s slot cause makes_due now members
      (found_due (Some members) found) (tells_due true tells))

  pub changed-made : (members : List ObjectName) (notes : List Noted)
      → Some members ≡ wished_in shown w → notes ≡ state.noted
      → (w.rbe && only_changes c) ≡ true → w.all_changes ≡ false
      → report_of_all (told_changed (offered shown.table) view slot now c members notes) ∷ []
      ≡ kept_reports shown view slot cause
  changed-made members notes found noted tells some =
      ap (λ (l : List Told). report_of_all l ∷ [])
      (four (told_changed (offered shown.table) view slot) m.moment m.conditions
      (members_due members found) noted)
      ∙ pick-changed (makes_report state due) (state.wish.rbe && only_changes due)
      (tells_all state.wish)
      (whole_report (offered shown.table) view slot (moment_at cause) due state all_members) _
      (changed_report (offered shown.table) view slot (moment_at cause) due state all_members ∷ [])
      makes_due (tells_due true tells) (all_due false tells some)

-- ---- all of an association

-- those that a cause makes of a transfer set
abbrev pub made_by : OwnTables → View → ℕ → ReportCause → ℕ → List ReportKind
made_by tables view ordinal cause slot =
    own_reports tables view ordinal (moment_at cause)
    (λ s. conditions_by cause s (slot_state tables view s)) slot

-- those of selections that end at a tick
abbrev pub ended_at : OwnTables → View → ℕ → ℕ → List ReportKind
ended_at tables view ordinal to =
    filter_map (timeout_report tables view ordinal to) (held tables view).devices

-- one transfer set more
pub ranged-step : {R : Type 0} (F : ℕ → List R) (slot n k : ℕ) (made all : List R) → n ≡ suc k
    → all ≡ made ++ F slot
    → all ++ flat_map F (range_with_len (slot + 1) k) ≡ made ++ flat_map F (range_with_len slot n)
ranged-step {R} F slot n k made all more pushed =
    ap (λ (l : List R). l ++ flat_map F (range_with_len (slot + 1) k)) pushed
    ∙ append_assoc made (F slot) (flat_map F (range_with_len (slot + 1) k))
    ∙ ap (λ (n : ℕ). made ++ flat_map F (range_with_len slot n)) (sym more)

pub ranged-none : {R : Type 0} (F : ℕ → List R) (slot n : ℕ) (made : List R) → n ≡ 0
    → made ≡ made ++ flat_map F (range_with_len slot n)
ranged-none {R} F slot n made none =
    sym (append-nil made)
    ∙ ap (λ (n : ℕ). made ++ flat_map F (range_with_len slot n)) (sym none)

module _ (updates : Updates) (tables : OwnTables) (view : View) (shown : Shown)
    (s : IsShown updates tables view shown) (ordinal : ℕ) where
  -- those of a tick
  pub tick-made : (from to : ℕ) → moment_in view ≡ from
      → ended_at tables view ordinal to ++ flat_map (made_by tables view ordinal (Tick from to))
      (range_with_len 0 shown.table.table.slots)
      ≡ reports_by tables view ordinal (ticked to)
  tick-made from to moment =
      let ended = ended_at tables view ordinal to in
      ap (λ (m : ℕ). ended ++ flat_map (own_reports tables view ordinal to
      (λ s. conditions_due (slot_state tables view s) m to))
      (range_with_len 0 shown.table.table.slots)) (sym moment)
      ∙ ap (λ (table : OwnTable). ended
      ++ flat_map (own_reports tables view ordinal to (λ s. due_conditions tables view s to))
      (range_with_len 0 table.slots)) s.table

  -- those that the operator asks for
  asked_alike : (slot now : ℕ) → moment_in view ≡ now
      → made_by tables view ordinal (Ask slot now) slot
      ≡ reports_by tables view ordinal (asked slot)
  asked_alike slot now moment =
      ap (λ (b : Bool). own_reports tables view ordinal now
      (λ s. if b then asked_conditions (slot_state tables view s) else 0) slot)
      (eq-eqb slot slot refl)
      ∙ ap (λ (m : ℕ). own_reports tables view ordinal m
      (λ s. asked_conditions (slot_state tables view s)) slot) (sym moment)

  pub asked-made : (slot now : ℕ) (made : List ReportKind) → moment_in view ≡ now
      → made ≡ made_by tables view ordinal (Ask slot now) slot
      → made ≡ reports_by tables view ordinal (asked slot)
  asked-made slot now made moment here = here ∙ asked_alike slot now moment

  -- of what isn't there it is none
  pub asked-none : (slot now : ℕ) → moment_in view ≡ now → SLOT_LIMIT ≤ slot
      → [] ≡ reports_by tables view ordinal (asked slot)
  asked-none slot now moment past =
      own-none updates tables view shown s slot (Ask slot now) ordinal
      (ap (is_owned_by ordinal) (get_or_past shown.slots slot free_slot
      (omega (arith, s.slots.many, past))))
      ∙ asked_alike slot now moment
