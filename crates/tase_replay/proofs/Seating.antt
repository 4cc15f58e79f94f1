-- How the seats of a scenario stand behind a line.
use Rattle.std.proofs.Common.{◌≡◌, ◌==◌, ◌+◌, ◌<◌, ℕ, zero, suc, Bool, true, false, not, ◌&&◌, ◌||◌}
use Rattle.std.proofs.Common.{List, [], ◌∷◌, ◌++◌, reverse, length, take, set, add-one, arith}
use Rattle.std.proofs.Common.{Option, Some, None, is_some, refl, sym, ap, subst, ◌∙◌, inl, inr, ⊎_elim}
use Rattle.std.specs.Prelude.{if◌then◌else◌, slice_get, ◌⊎◌, IfSome}
use Rattle.std.specs.List.{list_any, cons_option}
use Rattle.std.proofs.lemmas.Bool.{eq-eqb, eqb-true, ne_eqb, false≢true}
use Rattle.std.proofs.lemmas.Option.{none-some, slice_get_within}
use Rattle.std.proofs.lemmas.List.{append-nil, reverse-append}
use Rattle.std.proofs.lemmas.List.Folds.{list_any-append}
use Rattle.std.proofs.lemmas.List.Elements.{filter_map-append}
use Rattle.bilateral.specs.Rows.{CentreRows}
use Rattle.tase_views.specs.declared.event.Entry.{Entry}
use Rattle.tase_views.specs.History.{Past}
use Rattle.conn_service.specs.TaseConn.Map.Inputs.{Item}
use Rattle.conn_service.specs.TaseConn.Map.Sent.{events_by}
use Rattle.conn_service.specs.TaseConn.declared.stage.ConnEnd.{ConnEnd}
use Rattle.conn_service.specs.TaseConn.declared.stage.Progress.{Progress}
use Rattle.conn_service.specs.TaseConn.Talking.{Talking, conn_end_in}
use Rattle.conn_service.specs.Courses.Serving.{Serves, AreOthers}
use Rattle.conn_service.proofs.OfCourses.Kept.{begun_serves, others_serve}
use Rattle.conn_service.specs.TaseConn.Map.Linked.{link_octets}
use Rattle.tase_replay.specs.declared.links.Seats.{Seats}
use Rattle.tase_replay.specs.declared.links.Use.{Use}
use Rattle.tase_replay.specs.declared.links.Use.TheVariants as uses
use Rattle.tase_replay.specs.Links.{SeatItem, items_of, item_by}
use Rattle.tase_replay.specs.Play.{Scene, is_linked, is_seated, conn_has_ended, is_unfit, with_taken}
use Rattle.tase_replay.specs.Play.{first_scene, behind_link, ended_with}
use Rattle.tase_replay.specs.Standing.{LinkGoesOn, LinkIsOver, LinkStands, IsSeatUsedAs, AreSeatsUsed, AreApart, use_by}
use Rattle.tase_replay.specs.Standing.{NotesUse, Awaits, Finds, Begun, going_at, place_going}
use Rattle.tase_replay.specs.Standing.{AreOf, IsBehind, IsScene, noted_with}
use Rattle.tase_replay.proofs.Still.{octets_still, none_sent}

abbrev pub any_of : ℕ → Past → Bool
any_of who past = list_any (λ entry. entry.who == who) past

-- ---- another seat

-- behind a line of one seat, another is used as before
pub record Beside (other : ℕ) (scene after : Scene) : Type 0 where
  pub entries : Past
  pub apart : AreOthers other entries
  pub past_is : after.past ≡ entries ++ scene.past
  pub items_are : items_of other after.given ≡ items_of other scene.given
  pub linked_is : is_linked other after ≡ is_linked other scene
  pub ended_is : conn_has_ended other after ≡ conn_has_ended other scene

pub any_apart : (other : ℕ) (entries past : Past) → AreOthers other entries
    → any_of other (entries ++ past) ≡ any_of other past
any_apart other [] past a = refl
any_apart other (entry ∷ entries) past a =
    ap (λ (b : Bool). b || any_of other (entries ++ past)) (ne_eqb entry.who other a.0)
    ∙ any_apart other entries past a.1

seated_beside : (other : ℕ) (scene after : Scene) → Beside other scene after
    → is_seated other after ≡ is_seated other scene
seated_beside other scene after b =
    ap (λ (linked : Bool). any_of other after.past && not linked) b.linked_is
    ∙ ap (λ (any : Bool). any && not (is_linked other scene))
    (ap (λ (p : Past). any_of other p) b.past_is
    ∙ any_apart other b.entries scene.past b.apart)

goes_beside : (rows : CentreRows) (scene after : Scene) (other : ℕ) (v : Talking)
    → Beside other scene after → LinkGoesOn rows scene other v → LinkGoesOn rows after other v
goes_beside rows scene after other v b g =
    let items = items_of other scene.given in
    let said = link_octets rows scene.past other items in
    let serves : Serves rows after.past other items said None v =
    subst (λ (p : Past). Serves rows p other items said None v) (sym b.past_is)
    (others_serve rows scene.past b.entries other items said None v g.serves b.apart) in
    let same : said ≡ link_octets rows after.past other items =
    sym (ap (λ (p : Past). link_octets rows p other items) b.past_is
    ∙ octets_still rows other b.entries scene.past items b.apart) in
    record {
      serves = subst (λ (is : List Item). Serves rows after.past other is
          (link_octets rows after.past other is) None v) (sym b.items_are)
          (subst (λ (os : List ℕ). Serves rows after.past other items os None v) same serves);
      resting = g.resting;
      printed = g.printed;
      unended = g.unended;
      shown = b.ended_is ∙ g.shown;
    }

over_beside : (scene after : Scene) (other : ℕ) (v : Talking) → Beside other scene after
    → LinkIsOver scene other v → LinkIsOver after other v
over_beside scene after other v b o = record {
  ended = o.ended;
  shown = b.ended_is ∙ o.shown;
}

pub sits_beside : (rows : CentreRows) (scene after : Scene) (conns : List Talking) (other : ℕ)
    (kind : Option Use) → Beside other scene after → IsSeatUsedAs rows scene conns other kind
    → IsSeatUsedAs rows after conns other kind
sits_beside rows scene after conns other None b s = (
  b.linked_is ∙ s.0,
  ap (λ (p : Past). any_of other p) b.past_is ∙ any_apart other b.entries scene.past b.apart ∙ s.1,
  b.ended_is ∙ s.2,
)
sits_beside rows scene after conns other (Some uses.Own) b s =
    seated_beside other scene after b ∙ s
sits_beside rows scene after conns other (Some (uses.Link place)) b s = record {
  linked = b.linked_is ∙ s.linked;
  conn = s.conn;
  there = s.there;
  stands = ⊎_elim (λ g. inl (goes_beside rows scene after other s.conn b g))
      (λ o. inr (over_beside scene after other s.conn b o)) s.stands;
}

-- with other connections beside it
pub sits_among : (rows : CentreRows) (scene : Scene) (conns others : List Talking) (who : ℕ)
    (kind : Option Use) → ((place : ℕ) (conn : Talking) → kind ≡ Some (uses.Link place)
    → slice_get conns place ≡ Some conn → slice_get others place ≡ Some conn)
    → IsSeatUsedAs rows scene conns who kind → IsSeatUsedAs rows scene others who kind
sits_among rows scene conns others who None f s = s
sits_among rows scene conns others who (Some uses.Own) f s = s
sits_among rows scene conns others who (Some (uses.Link place)) f s = record {
  linked = s.linked;
  conn = s.conn;
  there = f place s.conn refl s.there;
  stands = s.stands;
}

-- ---- connections in their places

get_front : (conns more : List Talking) (place : ℕ) (conn : Talking)
    → slice_get conns place ≡ Some conn → slice_get (conns ++ more) place ≡ Some conn
get_front [] more place conn e = absurd (none-some conn e)
get_front (x ∷ conns) more zero conn e = e
get_front (x ∷ conns) more (suc place) conn e = get_front conns more place conn e

get_last : (conns : List Talking) (conn : Talking)
    → slice_get (conns ++ conn ∷ []) (length conns) ≡ Some conn
get_last [] conn = refl
get_last (x ∷ conns) conn = get_last conns conn

pub get_set : (conns : List Talking) (place : ℕ) (old conn : Talking)
    → slice_get conns place ≡ Some old → slice_get (set conns place conn) place ≡ Some conn
get_set [] place old conn e = absurd (none-some old e)
get_set (x ∷ conns) zero old conn e = refl
get_set (x ∷ conns) (suc place) old conn e = get_set conns place old conn e

pub get_other : (conns : List Talking) (place other : ℕ) (conn there : Talking)
    → (other ≡ place → ⊥) → slice_get conns other ≡ Some there
    → slice_get (set conns place conn) other ≡ Some there
get_other [] place other conn there n e = absurd (none-some there e)
get_other (x ∷ conns) zero zero conn there n e = absurd (n refl)
get_other (x ∷ conns) zero (suc other) conn there n e = e
get_other (x ∷ conns) (suc place) zero conn there n e = e
get_other (x ∷ conns) (suc place) (suc other) conn there n e =
    get_other conns place other conn there (λ f. n (ap (λ (k : ℕ). suc k) f)) e

-- ---- a line of its own

own_beside : (other : ℕ) (scene : Scene) (entry : Entry) → (entry.who ≡ other → ⊥)
    → Beside other scene (with_taken entry scene)
own_beside other scene entry n = record {
  entries = entry ∷ [];
  apart = (n, tt);
  past_is = refl;
  items_are = refl;
  linked_is = refl;
  ended_is = refl;
}

own_here : (scene : Scene) (entry : Entry) → is_linked entry.who scene ≡ false
    → is_seated entry.who (with_taken entry scene) ≡ true
own_here scene entry own =
    ap (λ (b : Bool). (b || any_of entry.who scene.past) && not (is_linked entry.who scene))
    (eq-eqb entry.who entry.who refl)
    ∙ ap (λ (b : Bool). true && not b) own

-- a seat that lines of its own may use isn't a link's
own_by : (rows : CentreRows) (scene : Scene) (conns : List Talking) (who : ℕ) (kind : Option Use)
    → ((place : ℕ) → kind ≡ Some (uses.Link place) → ⊥) → IsSeatUsedAs rows scene conns who kind
    → is_linked who scene ≡ false
own_by rows scene conns who None n s = s.0
own_by rows scene conns who (Some uses.Own) n s =
    unlinked (any_of who scene.past) (is_linked who scene) s
  where
    unlinked : (any linked : Bool) → (any && not linked) ≡ true → linked ≡ false
    unlinked any false e = refl
    unlinked true true e = absurd (false≢true e)
    unlinked false true e = absurd (false≢true e)
own_by rows scene conns who (Some (uses.Link place)) n s = absurd (n place refl)

pub own_unlinked : (rows : CentreRows) (scene : Scene) (who : ℕ) (old new : Seats)
    → NotesUse who old true new → AreSeatsUsed rows scene old → is_linked who scene ≡ false
own_unlinked rows scene who old new n s =
    own_by rows scene old.conns.items who (use_by old who) n.1 (s.each who)

sits_here : (rows : CentreRows) (scene : Scene) (conns : List Talking) (entry : Entry)
    (other : ℕ) (b : Bool) (kind : Option Use) → (entry.who == other) ≡ b
    → is_linked entry.who scene ≡ false → IsSeatUsedAs rows scene conns other kind
    → IsSeatUsedAs rows (with_taken entry scene) conns other (if b then Some uses.Own else kind)
sits_here rows scene conns entry other true kind e own s =
    ap (λ (who : ℕ). is_seated who (with_taken entry scene)) (sym (eqb-true entry.who other e))
    ∙ own_here scene entry own
sits_here rows scene conns entry other false kind e own s =
    sits_beside rows scene (with_taken entry scene) conns other kind
    (own_beside other scene entry
    (λ f. absurd (false≢true (sym e ∙ eq-eqb entry.who other f)))) s

noted_by : (b : Bool) (kind : Option Use) (place : ℕ)
    → (if b then Some uses.Own else kind) ≡ Some (uses.Link place)
    → kind ≡ Some (uses.Link place)
noted_by true kind place e = absurd cc
noted_by false kind place e = e

-- behind its entry
pub own_sits : (rows : CentreRows) (scene : Scene) (entry : Entry) (old new : Seats)
    → NotesUse entry.who old true new → AreSeatsUsed rows scene old
    → AreSeatsUsed rows (with_taken entry scene) new
own_sits rows scene entry old new n s =
    let own = own_unlinked rows scene entry.who old new n s in
    let after = with_taken entry scene in
    let still : (other place : ℕ) → use_by new other ≡ Some (uses.Link place)
    → use_by old other ≡ Some (uses.Link place) =
    λ other place e. noted_by (entry.who == other) (use_by old other) place
    (sym (n.2 other) ∙ e) in
    record {
      each = λ other.
          subst (λ (cs : List Talking). IsSeatUsedAs rows after cs other (use_by new other))
          (sym (ap (λ c. c.items) n.0))
          (subst (λ (u : Option Use). IsSeatUsedAs rows after old.conns.items other u) (sym (n.2 other))
          (sits_here rows scene old.conns.items entry other (entry.who == other)
          (use_by old other) refl own (s.each other)));
      apart = λ who other place e f.
          s.apart who other place (still who place e) (still other place f);
    }

-- a seat that is a link's has a link's line
pub link_linked : (rows : CentreRows) (scene : Scene) (who : ℕ) (old new : Seats)
    → NotesUse who old false new → AreSeatsUsed rows scene old → is_linked who scene ≡ true
link_linked rows scene who old new n s =
    let h : LinkStands rows scene old.conns.items who n.0 =
    subst (λ (u : Option Use). IsSeatUsedAs rows scene old.conns.items who u) n.1 (s.each who) in
    h.linked

-- ---- the seats of the node's history

abbrev pub used_by : ℕ → List Entry → Option Use
used_by who entries = if any_of who entries then Some uses.Own else None

or_false : (b : Bool) → (b || false) ≡ b
or_false true = refl
or_false false = refl

or_turned : (a b : Bool) → (a || b) ≡ (b || a)
or_turned true true = refl
or_turned true false = refl
or_turned false true = refl
or_turned false false = refl

any_turned : (who : ℕ) (entries : List Entry)
    → any_of who (reverse entries) ≡ any_of who entries
any_turned who [] = refl
any_turned who (entry ∷ entries) =
    ap (λ (es : List Entry). any_of who es) (reverse-append (entry ∷ []) entries)
    ∙ list_any-append (λ (e : Entry). e.who == who) (reverse entries) (entry ∷ [])
    ∙ ap (λ (b : Bool). b || any_of who (entry ∷ [])) (any_turned who entries)
    ∙ or_turned (any_of who entries) (any_of who (entry ∷ []))
    ∙ ap (λ (b : Bool). b || any_of who entries) (or_false (entry.who == who))

used_more_by : (here before : Bool) → (if here then Some uses.Own
    else (if before then Some uses.Own else None))
    ≡ (if before || (here || false) then Some uses.Own else None)
used_more_by true true = refl
used_more_by true false = refl
used_more_by false true = refl
used_more_by false false = refl

used_more : (who : ℕ) (front : List Entry) (entry : Entry) (old new : Option Use)
    → old ≡ used_by who front → new ≡ (if entry.who == who then Some uses.Own else old)
    → new ≡ used_by who (front ++ entry ∷ [])
used_more who front entry old new e f =
    f ∙ ap (λ (u : Option Use). if entry.who == who then Some uses.Own else u) e
    ∙ used_more_by (entry.who == who) (any_of who front)
    ∙ ap (λ (b : Bool). if b then Some uses.Own else None)
    (sym (list_any-append (λ (e : Entry). e.who == who) front (entry ∷ [])))

take_step : (entries : List Entry) (place : ℕ) (entry : Entry)
    → slice_get entries place ≡ Some entry
    → take (suc place) entries ≡ take place entries ++ entry ∷ []
take_step [] place entry e = absurd (none-some entry e)
take_step (x ∷ entries) zero entry e = ap (λ (y : Entry). y ∷ []) (same_some e)
  where
    same_some : Some x ≡ Some entry → x ≡ entry
    same_some f = cc
take_step (x ∷ entries) (suc place) entry e =
    ap (λ (es : List Entry). x ∷ es) (take_step entries place entry e)

take_none : (entries : List Entry) (place : ℕ) → slice_get entries place ≡ None
    → take (suc place) entries ≡ take place entries
take_none [] zero e = refl
take_none [] (suc place) e = refl
take_none (x ∷ entries) zero e = absurd (none-some x (sym e))
take_none (x ∷ entries) (suc place) e =
    ap (λ (es : List Entry). x ∷ es) (take_none entries place e)

take_more : (entries : List Entry) (place : ℕ) (entry : Entry)
    → slice_get entries place ≡ Some entry
    → take (place + 1) entries ≡ take place entries ++ entry ∷ []
take_more entries place entry e = rw add-one (take_step entries place entry e)

pub used_step : (who : ℕ) (history : List Entry) (place : ℕ) (found : Option Entry)
    (old new : Option Use) → found ≡ slice_get history place
    → old ≡ used_by who (take place history) → new ≡ noted_with found who old
    → new ≡ used_by who (take (place + 1) history)
used_step who history place None old new e f g =
    g ∙ f ∙ ap (λ (es : List Entry). used_by who es)
    (sym (rw add-one (take_none history place (sym e))))
used_step who history place (Some entry) old new e f g =
    used_more who (take place history) entry old new f g
    ∙ ap (λ (es : List Entry). used_by who es) (sym (take_more history place entry (sym e)))

first_by : (rows : CentreRows) (history : List Entry) (conns : List Talking) (who : ℕ) (b : Bool)
    → any_of who (reverse history) ≡ b
    → IsSeatUsedAs rows (first_scene (reverse history)) conns who (if b then Some uses.Own else None)
first_by rows history conns who true e = ap (λ (b : Bool). b && true) e
first_by rows history conns who false e = (refl, e, refl)

unlinked_by : (b : Bool) (place : ℕ)
    → (if b then Some uses.Own else None) ≡ Some (uses.Link place) → ⊥
unlinked_by true place e = absurd cc
unlinked_by false place e = absurd cc

pub first_sits : (rows : CentreRows) (history : List Entry) (seats : Seats)
    → ((who : ℕ) → use_by seats who ≡ used_by who history)
    → AreSeatsUsed rows (first_scene (reverse history)) seats
first_sits rows history seats f = record {
  each = λ who. subst (λ (u : Option Use). IsSeatUsedAs rows (first_scene (reverse history))
      seats.conns.items who u) (sym (f who))
      (first_by rows history seats.conns.items who (any_of who history) (any_turned who history));
  apart = λ who other place e g.
      absurd (unlinked_by (any_of who history) place (sym (f who) ∙ e));
}

-- ---- a link's seat

-- one that lines of its own use
pub own_unfit : (rows : CentreRows) (scene : Scene) (who : ℕ) (seats : Seats)
    → AreSeatsUsed rows scene seats → use_by seats who ≡ Some uses.Own → is_unfit who scene ≡ true
own_unfit rows scene who seats s e =
    let seated : is_seated who scene ≡ true =
    subst (λ (u : Option Use). IsSeatUsedAs rows scene seats.conns.items who u) e (s.each who) in
    ap (λ (b : Bool). b || conn_has_ended who scene) seated

pub link_holds : (rows : CentreRows) (scene : Scene) (who place : ℕ) (seats : Seats)
    → AreSeatsUsed rows scene seats → use_by seats who ≡ Some (uses.Link place)
    → LinkStands rows scene seats.conns.items who place
link_holds rows scene who place seats s e =
    subst (λ (u : Option Use). IsSeatUsedAs rows scene seats.conns.items who u) e (s.each who)

-- one whose connection has begun
going_fit : (scene : Scene) (who : ℕ) → is_linked who scene ≡ true → conn_has_ended who scene ≡ false
    → is_unfit who scene ≡ false
going_fit scene who l e =
    ap (λ (b : Bool). (any_of who scene.past && not b) || conn_has_ended who scene) l
    ∙ ap (λ (b : Bool). b || conn_has_ended who scene) (and_false (any_of who scene.past)) ∙ e
  where
    and_false : (b : Bool) → (b && false) ≡ false
    and_false true = refl
    and_false false = refl

or_true : (b : Bool) → (b || true) ≡ true
or_true true = refl
or_true false = refl

found_goes : (rows : CentreRows) (scene : Scene) (who place : ℕ) (seats : Seats)
    → AreSeatsUsed rows scene seats → use_by seats who ≡ Some (uses.Link place)
    → (h : LinkStands rows scene seats.conns.items who place) → LinkGoesOn rows scene who h.conn
    → Finds rows scene who seats (going_at place (Some h.conn))
found_goes rows scene who place seats s e h g =
    subst (λ (end : Option ConnEnd). Finds rows scene who seats
    (if is_some end then None else Some place)) (sym g.unended) (record {
      fit = going_fit scene who h.linked g.shown;
      conn = h.conn;
      there = h.there;
      goes = g;
      used = e;
      others = λ other n. s.each other;
      apart = s.apart;
    })

found_over : (rows : CentreRows) (scene : Scene) (who place : ℕ) (seats : Seats) (conn : Talking)
    → LinkIsOver scene who conn → Finds rows scene who seats (going_at place (Some conn))
found_over rows scene who place seats conn o =
    subst (λ (b : Bool). Finds rows scene who seats (if b then None else Some place)) (sym o.ended)
    (ap (λ (b : Bool). is_seated who scene || b) o.shown ∙ or_true (is_seated who scene))

pub found_link : (rows : CentreRows) (scene : Scene) (who place : ℕ) (seats : Seats)
    → AreSeatsUsed rows scene seats → use_by seats who ≡ Some (uses.Link place)
    → Finds rows scene who seats (place_going seats.conns.items place)
found_link rows scene who place seats s e =
    let h = link_holds rows scene who place seats s e in
    subst (λ (c : Option Talking). Finds rows scene who seats (going_at place c)) (sym h.there)
    (⊎_elim (λ g. found_goes rows scene who place seats s e h g)
    (λ o. found_over rows scene who place seats h.conn o) h.stands)

pub going_within : (conns : List Talking) (place : ℕ) (found : Option ℕ)
    → found ≡ place_going conns place → IfSome found (λ p. p < length conns)
going_within conns place found e =
    subst (λ (o : Option ℕ). IfSome o (λ p. p < length conns)) (sym e)
    (by (slice_get conns place) refl)
  where
    by : (there : Option Talking) → slice_get conns place ≡ there
        → IfSome (going_at place there) (λ p. p < length conns)
    by None f = tt
    by (Some conn) f = by_end (conn_end_in conn.progress) conn f
      where
        by_end : (end : Option ConnEnd) (conn : Talking) → slice_get conns place ≡ Some conn
            → IfSome (if is_some end then None else Some place) (λ p. p < length conns)
        by_end None conn f = slice_get_within conns place conn f
        by_end (Some end) conn f = tt

-- one whose connection begins
none_of : (who : ℕ) (past : Past) → any_of who past ≡ false → events_by who past ≡ []
none_of who [] e = refl
none_of who (entry ∷ past) e =
    by (entry.who == who) e (none_of who past)
  where
    by : (b : Bool) → (b || any_of who past) ≡ false
        → (any_of who past ≡ false → events_by who past ≡ [])
        → cons_option (if b then Some entry.event else None) (events_by who past) ≡ []
    by true f g = absurd (false≢true (sym f))
    by false f g = g f

pub none_given : (who : ℕ) (lines : List SeatItem)
    → list_any (λ given. given.who == who) lines ≡ false → items_of who lines ≡ []
none_given who [] e = refl
none_given who (given ∷ lines) e = by (given.who == who) e (none_given who lines)
  where
    by : (b : Bool) → (b || list_any (λ given. given.who == who) lines) ≡ false
        → (list_any (λ given. given.who == who) lines ≡ false → items_of who lines ≡ [])
        → cons_option (if b then Some given.item else None) (items_of who lines) ≡ []
    by true f g = absurd (false≢true (sym f))
    by false f g = g f

begun_goes : (rows : CentreRows) (scene : Scene) (who : ℕ) (old : Seats) (place : ℕ) (new : Seats)
    → (b : Begun rows who old place new)
    → (is_linked who scene ≡ false) × (any_of who scene.past ≡ false)
    × (conn_has_ended who scene ≡ false) → LinkGoesOn rows scene who b.conn
begun_goes rows scene who old place new b s =
    let none = none_of who scene.past s.1 in
    let items : items_of who scene.given ≡ [] = none_given who scene.given s.0 in
    let serves = begun_serves rows scene.past who b.conn none b.stands b.running in
    let said : [] ≡ link_octets rows scene.past who [] =
    sym (none_sent rows scene.past who none) in
    record {
      serves = subst (λ (is : List Item). Serves rows scene.past who is
          (link_octets rows scene.past who is) None b.conn) (sym items)
          (subst (λ (os : List ℕ). Serves rows scene.past who [] os None b.conn) said serves);
      resting = b.resting;
      printed = b.silent;
      unended = ap (λ (p : Progress). conn_end_in p) b.running;
      shown = s.2;
    }

new_fit : (scene : Scene) (who : ℕ) → any_of who scene.past ≡ false
    → conn_has_ended who scene ≡ false → is_unfit who scene ≡ false
new_fit scene who e f =
    ap (λ (b : Bool). (b && not (is_linked who scene)) || conn_has_ended who scene) e ∙ f

used_apart : (who other : ℕ) (place at : ℕ) (b : Bool) (kind : Option Use) → (who == other) ≡ b
    → (if b then Some (uses.Link place) else kind) ≡ Some (uses.Link at)
    → ((who ≡ other) × (place ≡ at)) ⊎ (kind ≡ Some (uses.Link at))
used_apart who other place at true kind e f = inl (eqb-true who other e, same f)
  where
    same : Some (uses.Link place) ≡ Some (uses.Link at) → place ≡ at
    same g = cc
used_apart who other place at false kind e f = inr f

begun_apart : (rows : CentreRows) (scene : Scene) (who : ℕ) (old : Seats) (place : ℕ)
    (new : Seats) → AreSeatsUsed rows scene old → Begun rows who old place new → AreApart new
begun_apart rows scene who old place new s b one two at e f =
    let first = used_apart who one place at (who == one) (use_by old one) refl
    (sym (b.used one) ∙ e) in
    let second = used_apart who two place at (who == two) (use_by old two) refl
    (sym (b.used two) ∙ f) in
    let never : (other : ℕ) → use_by old other ≡ Some (uses.Link at) → place ≡ at → ⊥ =
    λ other g same.
    let h = link_holds rows scene other at old s g in
    let within : at < length old.conns.items =
    slice_get_within old.conns.items at h.conn h.there in
    omega (arith, b.place_is) in
    ⊎_elim (λ x. ⊎_elim (λ y. sym x.0 ∙ y.0) (λ y. absurd (never two y x.1)) second)
    (λ x. ⊎_elim (λ y. absurd (never one x y.1)) (λ y. s.apart one two at x y) second) first

pub found_begun : (rows : CentreRows) (scene : Scene) (who : ℕ) (old : Seats) (place : ℕ)
    (new : Seats) → AreSeatsUsed rows scene old → use_by old who ≡ None → Begun rows who old place new
    → Awaits rows scene new who place
found_begun rows scene who old place new s e b =
    let free : (is_linked who scene ≡ false) × (any_of who scene.past ≡ false)
    × (conn_has_ended who scene ≡ false) =
    subst (λ (u : Option Use). IsSeatUsedAs rows scene old.conns.items who u) e (s.each who) in
    record {
      fit = new_fit scene who free.1 free.2;
      conn = b.conn;
      there = ap (λ (cs : List Talking). slice_get cs place) b.conns
          ∙ ap (λ (p : ℕ). slice_get (old.conns.items ++ b.conn ∷ []) p) b.place_is
          ∙ get_last old.conns.items b.conn;
      goes = begun_goes rows scene who old place new b free;
      used = b.used who ∙ ap (λ (t : Bool). if t then Some (uses.Link place) else use_by old who)
          (eq-eqb who who refl);
      others = λ other n.
          let same : use_by new other ≡ use_by old other = b.used other
          ∙ ap (λ (t : Bool). if t then Some (uses.Link place) else use_by old other)
          (ne_eqb who other (λ f. n (sym f))) in
          subst (λ (cs : List Talking). IsSeatUsedAs rows scene cs other (use_by new other)) (sym b.conns)
          (subst (λ (u : Option Use). IsSeatUsedAs rows scene (old.conns.items ++ b.conn ∷ []) other u)
          (sym same)
          (sits_among rows scene old.conns.items (old.conns.items ++ b.conn ∷ []) other
          (use_by old other) (λ at conn u g. get_front old.conns.items (b.conn ∷ []) at conn g)
          (s.each other)));
      apart = begun_apart rows scene who old place new s b;
    }

-- ---- behind a link's line

linked_here : (who : ℕ) (lines : List SeatItem) (given : SeatItem) (b : Bool) → (given.who == who) ≡ b
    → list_any (λ g. g.who == who) (lines ++ given ∷ [])
    ≡ (list_any (λ g. g.who == who) lines || b)
linked_here who lines given b e = list_any-append (λ (g : SeatItem). g.who == who) lines (given ∷ [])
    ∙ ap (λ (t : Bool). list_any (λ (g : SeatItem). g.who == who) lines || t)
    (or_false (given.who == who) ∙ e)

ended_here : (who : ℕ) (other : ℕ) (end : Option ConnEnd) (over : List ℕ) → (who ≡ other → ⊥)
    → list_any (λ w. w == other) (ended_with who end over) ≡ list_any (λ w. w == other) over
ended_here who other None over n = refl
ended_here who other (Some end) over n =
    ap (λ (b : Bool). b || list_any (λ (w : ℕ). w == other) over) (ne_eqb who other n)

pub others_of : (who other : ℕ) (entries : Past) → (who ≡ other → ⊥) → AreOf who entries
    → AreOthers other entries
others_of who other [] n a = tt
others_of who other (entry ∷ entries) n a =
    (λ f. n (sym a.0 ∙ f), others_of who other entries n a.1)

item_elsewhere : (who : ℕ) (given : SeatItem) (b : Bool) → b ≡ false
    → cons_option (if b then Some given.item else None) [] ≡ []
item_elsewhere who given true e = absurd (false≢true (sym e))
item_elsewhere who given false e = refl

pub behind_beside : (scene : Scene) (given : SeatItem) (entries : Past) (end : Option ConnEnd)
    (other : ℕ) → (given.who ≡ other → ⊥) → AreOf given.who entries
    → Beside other scene (behind_link scene (entries ++ scene.past) given end)
behind_beside scene given entries end other n a =
    let apart = ne_eqb given.who other n in
    record {
      entries = entries;
      apart = others_of given.who other entries n a;
      past_is = refl;
      items_are = filter_map-append (item_by other) scene.given (given ∷ [])
          ∙ ap (λ (is : List Item). items_of other scene.given ++ is)
          (item_elsewhere other given (given.who == other) apart)
          ∙ append-nil (items_of other scene.given);
      linked_is = linked_here other scene.given given false apart
          ∙ or_false (is_linked other scene);
      ended_is = ended_here given.who other end scene.ended n;
    }

link_by : (rows : CentreRows) (scene after : Scene) (conns : List Talking) (who other place : ℕ)
    (conn : Talking) (kind : Option Use) (b : Bool) → (who == other) ≡ b
    → (b ≡ true → kind ≡ Some (uses.Link place))
    → (b ≡ true → LinkStands rows after (set conns place conn) other place)
    → ((at : ℕ) → b ≡ false → kind ≡ Some (uses.Link at) → at ≡ place → ⊥)
    → (b ≡ false → IsSeatUsedAs rows after conns other kind)
    → IsSeatUsedAs rows after (set conns place conn) other kind
link_by rows scene after conns who other place conn kind true e f h n s =
    subst (λ (u : Option Use). IsSeatUsedAs rows after (set conns place conn) other u) (sym (f refl))
    (h refl)
link_by rows scene after conns who other place conn kind false e f h n s =
    sits_among rows after conns (set conns place conn) other kind
    (λ at there u g. get_other conns place at conn there (n at refl u) g) (s refl)

pub link_sits : (rows : CentreRows) (scene : Scene) (given : SeatItem) (place : ℕ)
    (old new : Seats) (conn : Talking) (after : Scene) (history : List Entry)
    → Awaits rows scene old given.who place → IsBehind rows scene given after history conn
    → ((other : ℕ) → use_by new other ≡ use_by old other)
    → new.conns.items ≡ set old.conns.items place conn
    → IsScene rows history after new
link_sits rows scene given place old new conn after history a b used conns =
    let who = given.who in
    let cs = old.conns.items in
    let linked : is_linked who after ≡ true =
    ap (λ (s : Scene). is_linked who s) b.after_is
    ∙ linked_here who scene.given given true (eq-eqb who who refl)
    ∙ or_true (is_linked who scene) in
    let holds : LinkStands rows after (set cs place conn) who place = record {
      linked = linked;
      conn = conn;
      there = get_set cs place a.conn conn a.there;
      stands = b.stands;
    } in
    record {
      past_is = b.past_is;
      sits = record {
        each = λ other.
            subst (λ (these : List Talking). IsSeatUsedAs rows after these other (use_by new other))
            (sym conns)
            (subst (λ (u : Option Use). IsSeatUsedAs rows after (set cs place conn) other u)
            (sym (used other))
            (link_by rows scene after cs who other place conn (use_by old other) (who == other) refl
            (λ e. ap (λ (w : ℕ). use_by old w) (sym (eqb-true who other e)) ∙ a.used)
            (λ e. subst (λ (w : ℕ). LinkStands rows after (set cs place conn) w place)
            (eqb-true who other e) holds)
            (λ at e u f. absurd (false≢true (sym e ∙ eq-eqb who other
            (a.apart who other place a.used
            (subst (λ (p : ℕ). use_by old other ≡ Some (uses.Link p)) f u)))))
            (λ e. subst (λ (s : Scene). IsSeatUsedAs rows s cs other (use_by old other)) (sym b.after_is)
            (sits_beside rows scene (behind_link scene (b.entries ++ scene.past) given b.end) cs
            other (use_by old other)
            (behind_beside scene given b.entries b.end other
            (λ f. absurd (false≢true (sym e ∙ eq-eqb who other f))) b.own)
            (a.others other (λ f. absurd (false≢true (sym e ∙ eq-eqb who other (sym f)))))))));
        apart = λ one two at e f. a.apart one two at (sym (used one) ∙ e) (sym (used two) ∙ f);
      };
    }
