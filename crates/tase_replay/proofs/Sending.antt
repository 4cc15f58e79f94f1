-- A line keeps it so that each peer is sent all octets of its link.
use Rattle.std.proofs.Common.{◌≡◌, ◌==◌, ℕ, Bool, true, false, List, [], ◌∷◌, ◌++◌, reverse}
use Rattle.std.proofs.Common.{arith, Option, Some, None, is_some, refl, sym, ap, subst, ◌∙◌}
use Rattle.std.specs.Prelude.{if◌then◌else◌, ◌||◌}
use Rattle.std.specs.List.{list_any}
use Rattle.std.proofs.lemmas.Bool.{eq-eqb, eqb-true, false≢true}
use Rattle.std.proofs.lemmas.List.{append-nil, reverse-reverse}
use Rattle.bilateral.specs.Rows.{CentreRows}
use Rattle.tase_views.specs.Setup.{Setup}
use Rattle.tase_views.specs.History.{Past}
use Rattle.tase_views.specs.Outcomes.{refusal_of}
use Rattle.tase_views.specs.declared.event.Entry.{Entry}
use Rattle.tase_views.specs.declared.event.EventKind.{EventKind}
use Rattle.tase_views.specs.declared.fault.StepFault.{StepFault}
use Rattle.conn_service.specs.TaseConn.Map.Inputs.{Item}
use Rattle.conn_service.specs.TaseConn.Map.Asks.{asks_of}
use Rattle.conn_service.specs.TaseConn.Map.Sent.{events_by}
use Rattle.conn_service.specs.TaseConn.declared.stage.ConnEnd.{ConnEnd}
use Rattle.conn_service.specs.TaseConn.Talking.{Talking, pending_of}
use Rattle.conn_service.specs.Courses.Serving.{AreOthers}
use Rattle.conn_service.specs.TaseConn.Map.Linked.{link_octets}
use Rattle.tase_replay.specs.Links.{SeatItem, items_of}
use Rattle.tase_replay.specs.Play.{Step, Scene, bad, with_taken, step_of, meaning_of}
use Rattle.tase_replay.specs.Play.{entry_meaning, is_linked, received, behind_link, link_step}
use Rattle.tase_replay.specs.Play.{conn_has_ended, entries_in}
use Rattle.tase_replay.specs.Play.{ended_with, entry_steps}
use Rattle.tase_replay.specs.PrintedLines.{ShownToPeer, all_shown, shown_by}
use Rattle.tase_replay.specs.Standing.{LinkGoesOn, is_over, AreSentIn, StaySent, StepsSend, IsTakenSent}
use Rattle.tase_replay.specs.Standing.{StepsSendAll, HasOctets}
use Rattle.ber_values.specs.Octets.{IsOctets}
use Rattle.std.specs.List.{AllByRecursion}
use Rattle.conn_service.proofs.Closed.{said_whole}
use Rattle.tase_replay.proofs.Acted.{acted_still}
use Rattle.tase_replay.proofs.Linking.{items_behind, between_so, entries_by, entries_own}
use Rattle.tase_replay.proofs.Linking.{unsaid_steps, entries_steps}
use Rattle.tase_replay.proofs.Receiving.{Came, asked_so}
use Rattle.tase_replay.proofs.Seating.{behind_beside, none_given, others_of}
use Rattle.tase_replay.proofs.Still.{octets_still, none_sent}
use Rattle.tase_replay.proofs.Taking.{shown_by-append, shown_by-silent, shown_by-other}
use Rattle.tase_replay.proofs.Taking.{shown_by-own, all_shown-append, entries_in-append}

-- ---- what is printed for a peer

-- whether its end is printed
over_so : (octets : List ℕ) (end : Option ConnEnd)
    → list_any is_over (all_shown octets end) ≡ is_some end
over_so [] None = refl
over_so [] (Some end) = refl
over_so (o ∷ octets) end = over_so octets end

-- steps that print nothing more for it
same_printed : (who : ℕ) (steps more : List Step) → shown_by who more ≡ []
    → shown_by who (steps ++ more) ≡ shown_by who steps
same_printed who steps more none =
    shown_by-append who steps more
    ∙ ap (λ (ps : List ShownToPeer). shown_by who steps ++ ps) none
    ∙ append-nil (shown_by who steps)

-- numbers below 256 are sent, and behind them others
octets_behind : (steps more : List Step) → AllByRecursion HasOctets steps
    → AllByRecursion HasOctets more → AllByRecursion HasOctets (steps ++ more)
octets_behind [] more first next = next
octets_behind (step ∷ steps) more first next = (first.0, octets_behind steps more first.1 next)

entries_octets : (who : ℕ) (events : List EventKind)
    → AllByRecursion HasOctets (entry_steps who events)
entries_octets who [] = tt
entries_octets who (event ∷ events) = (λ i. omega arith, entries_octets who events)

-- ---- one seat

-- entries of other seats, and steps that print nothing for it
sent_still : (setup : Setup) (who : ℕ) (others past : Past) (items : List Item)
    (steps more : List Step) → AreOthers who others → shown_by who more ≡ []
    → StepsSend setup past steps who items → StepsSend setup (others ++ past) (steps ++ more) who items
sent_still setup who others past [] steps more a none s = same_printed who steps more none ∙ s
sent_still setup who others past (item ∷ items) steps more a none s =
    let all = link_octets setup.centre (others ++ past) who (item ∷ items) in
    record {
      end = s.end;
      shown = same_printed who steps more none ∙ s.shown
          ∙ ap (λ (os : List ℕ). all_shown os s.end)
          (sym (octets_still setup.centre who others past (item ∷ items) a));
      sends = record {
        events = acted_still setup who others past (item ∷ items) s.end a s.sends.events;
        said = said_whole (item ∷ items) s.end all;
      };
    }

no_end : (end : Option ConnEnd) → is_some end ≡ false → end ≡ None
no_end None e = refl
no_end (Some end) e = absurd (false≢true (sym e))

-- what was printed so far is what its link was sent, where that was nothing before its first line,
-- and no end was printed
printed_before : (setup : Setup) (past : Past) (steps : List Step) (who : ℕ) (items : List Item)
    → (items ≡ [] → link_octets setup.centre past who [] ≡ [])
    → list_any is_over (shown_by who steps) ≡ false → StepsSend setup past steps who items
    → shown_by who steps ≡ all_shown (link_octets setup.centre past who items) None
printed_before setup past steps who [] none unended s =
    s ∙ ap (λ (os : List ℕ). all_shown os None) (sym (none refl))
printed_before setup past steps who (item ∷ items) none unended s =
    let all = link_octets setup.centre past who (item ∷ items) in
    s.shown ∙ ap (λ (o : Option ConnEnd). all_shown all o)
    (no_end s.end (sym (over_so all s.end)
    ∙ ap (λ (ps : List ShownToPeer). list_any is_over ps) (sym s.shown) ∙ unended))

sent_behind : (setup : Setup) (past : Past) (steps : List Step) (who : ℕ) (items : List Item)
    (item : Item) → StepsSendAll setup past steps who (items ++ item ∷ [])
    → StepsSend setup past steps who (items ++ item ∷ [])
sent_behind setup past steps who [] item s = s
sent_behind setup past steps who (first ∷ items) item s = s

-- ---- a line that is skipped, or not taken

pub none_stays : (setup : Setup) (scene : Scene) → StaySent setup scene scene []
none_stays setup scene = λ steps s.
    subst (λ (these : List Step). AreSentIn setup scene these) (sym (append-nil steps)) s

-- ---- a line of its own

own_by : (setup : Setup) (scene : Scene) (entry : Entry) (step : Step) (steps : List Step)
    (who : ℕ) (b : Bool) → (entry.who == who) ≡ b → is_linked entry.who scene ≡ false
    → shown_by who (step ∷ []) ≡ []
    → StepsSend setup scene.past steps who (items_of who scene.given)
    → StepsSend setup (entry ∷ scene.past) (steps ++ step ∷ []) who (items_of who scene.given)
own_by setup scene entry step steps who true e own silent s =
    let items : items_of who scene.given ≡ [] =
    none_given who scene.given (subst (λ (w : ℕ). is_linked w scene ≡ false)
    (eqb-true entry.who who e) own) in
    let before : shown_by who steps ≡ [] =
    subst (λ (is : List Item). StepsSend setup scene.past steps who is) items s in
    subst (λ (is : List Item). StepsSend setup (entry ∷ scene.past) (steps ++ step ∷ []) who is)
    (sym items) (same_printed who steps (step ∷ []) silent ∙ before)
own_by setup scene entry step steps who false e own silent s =
    sent_still setup who (entry ∷ []) scene.past (items_of who scene.given) steps (step ∷ [])
    (λ f. absurd (false≢true (sym e ∙ eq-eqb entry.who who f)), tt) silent s

own_stays : (setup : Setup) (scene : Scene) (entry : Entry) (step : Step)
    → is_linked entry.who scene ≡ false → step.octets ≡ [] → step.end ≡ None
    → StaySent setup scene (with_taken entry scene) (step ∷ [])
own_stays setup scene entry step own silent unended = λ steps s. record {
  sent = λ who. own_by setup scene entry step steps who (entry.who == who) refl own
      (shown_by-silent who step silent unended) (s.sent who);
  octets = octets_behind steps (step ∷ []) s.octets
      (subst (λ (os : List ℕ). IsOctets os) (sym silent) (λ i. omega arith), tt);
  ended = λ who. s.ended who ∙ ap (λ (ps : List ShownToPeer). list_any is_over ps)
      (sym (same_printed who steps (step ∷ []) (shown_by-silent who step silent unended)));
}

-- one that the node takes
pub own_taken : (setup : Setup) (scene : Scene) (entry : Entry) → is_linked entry.who scene ≡ false
    → refusal_of setup scene.past entry.who entry.event ≡ None
    → IsTakenSent setup scene (entry_meaning setup scene entry)
own_taken setup scene entry own none =
    let step : Step = step_of setup scene.past entry in
    let after : Scene = with_taken entry scene in
    let refusal = refusal_of setup scene.past entry.who entry.event in
    record {
      steps = step ∷ [];
      after = after;
      is = ap (λ (b : Bool). if b then bad else meaning_of after step refusal) own
          ∙ ap (λ (r : Option StepFault). meaning_of after step r) none;
      stays = own_stays setup scene entry step own refl refl;
      grown = refl;
    }

-- ---- a line of a link

-- its seat has had no event where the link has given nothing
unasked : (rows : CentreRows) (es : List EventKind) (items : List Item)
    → reverse es ≡ asks_of rows items → items ≡ [] → es ≡ []
unasked rows es items asked none =
    sym (reverse-reverse es)
    ∙ ap (λ (xs : List EventKind). reverse xs)
    (asked ∙ ap (λ (is : List Item). asks_of rows is) none)

-- what such a line prints for its own seat, behind what was printed before
printed_here : (setup : Setup) (scene : Scene) (given : SeatItem) (old conn : Talking) (past : Past)
    (steps : List Step) → LinkGoesOn setup.centre scene given.who old
    → (c : Came setup scene given old past conn) → AreSentIn setup scene steps
    → shown_by given.who (steps ++ (entry_steps given.who c.events
    ++ link_step setup.centre scene (behind_link scene past given c.end) given c.end ∷ []))
    ≡ all_shown (link_octets setup.centre past given.who
    (items_of given.who scene.given ++ given.item ∷ [])) c.end
printed_here setup scene given old conn past steps g c s =
    let rows = setup.centre in
    let who = given.who in
    let items = items_of who scene.given in
    let step : Step = link_step rows scene (behind_link scene past given c.end) given c.end in
    let had = link_octets rows scene.past who items in
    let added = c.adds.added in
    let own = entry_steps who c.events in
    let before : shown_by who steps ≡ all_shown had None =
    printed_before setup scene.past steps who items
    (λ none. none_sent rows scene.past who (unasked rows (events_by who scene.past) items
    (asked_so rows scene who old g) none)) (sym (s.ended who) ∙ g.shown) (s.sent who) in
    let more : shown_by who (own ++ step ∷ []) ≡ all_shown added c.end =
    shown_by-append who own (step ∷ [])
    ∙ ap (λ (ps : List ShownToPeer). ps ++ shown_by who (step ∷ [])) (unsaid_steps who who c.events)
    ∙ shown_by-own who step (eq-eqb who who refl)
    ∙ ap (λ (os : List ℕ). all_shown os c.end)
    (between_so rows scene given past c.end added c.octets) in
    shown_by-append who steps (own ++ step ∷ [])
    ∙ ap (λ (ps : List ShownToPeer). ps ++ shown_by who (own ++ step ∷ [])) before
    ∙ ap (λ (ps : List ShownToPeer). all_shown had None ++ ps) more
    ∙ all_shown-append had added c.end
    ∙ ap (λ (os : List ℕ). all_shown os c.end) c.octets

sent_here : (setup : Setup) (scene : Scene) (given : SeatItem) (old conn : Talking) (past : Past)
    (steps : List Step) → LinkGoesOn setup.centre scene given.who old
    → (c : Came setup scene given old past conn) → AreSentIn setup scene steps
    → StepsSend setup past
    (steps ++ (entry_steps given.who c.events
    ++ link_step setup.centre scene (behind_link scene past given c.end) given
    c.end ∷ [])) given.who (items_of given.who (scene.given ++ given ∷ []))
sent_here setup scene given old conn past steps g c s =
    let who = given.who in
    let items = items_of who scene.given in
    let step : Step =
    link_step setup.centre scene (behind_link scene past given c.end) given c.end in
    let all = steps ++ (entry_steps who c.events ++ step ∷ []) in
    subst (λ (is : List Item). StepsSend setup past all who is)
    (sym (items_behind who scene.given given refl))
    (sent_behind setup past all who items given.item (record {
      end = c.end;
      shown = printed_here setup scene given old conn past steps g c s;
      sends = record {
        events = c.acted;
        said = said_whole (items ++ given.item ∷ []) c.end
            (link_octets setup.centre past who (items ++ given.item ∷ []));
      };
    }))

-- whether its connection has ended
ended_here : (who : ℕ) (end : Option ConnEnd) (scene after : Scene)
    → after.ended ≡ ended_with who end scene.ended → conn_has_ended who scene ≡ false
    → conn_has_ended who after ≡ is_some end
ended_here who None scene after e going =
    ap (λ (over : List ℕ). list_any (λ ended. ended == who) over) e ∙ going
ended_here who (Some end) scene after e going =
    ap (λ (over : List ℕ). list_any (λ ended. ended == who) over) e
    ∙ ap (λ (b : Bool). b || conn_has_ended who scene) (eq-eqb who who refl)

-- another seat
record StaysBeside (setup : Setup) (scene : Scene) (given : SeatItem) (past : Past)
    (end : Option ConnEnd) (steps more : List Step) (who : ℕ) : Type 0 where
  sent : StepsSend setup past (steps ++ more) who (items_of who (scene.given ++ given ∷ []))
  ended : conn_has_ended who (behind_link scene past given end)
      ≡ list_any is_over (shown_by who (steps ++ more))

sent_beside : (setup : Setup) (scene : Scene) (given : SeatItem) (old conn : Talking) (past : Past)
    (steps : List Step) (who : ℕ) → (given.who == who) ≡ false
    → (c : Came setup scene given old past conn) → AreSentIn setup scene steps
    → StaysBeside setup scene given past c.end steps (entry_steps given.who c.events
    ++ link_step setup.centre scene (behind_link scene past given c.end) given c.end ∷ []) who
sent_beside setup scene given old conn past steps who e c s =
    let entries = reverse (entries_by given.who c.events) in
    let own = entries_own given.who c.events in
    let step : Step =
    link_step setup.centre scene (behind_link scene past given c.end) given c.end in
    let more = entry_steps given.who c.events ++ step ∷ [] in
    let other : given.who ≡ who → ⊥ =
    λ f. absurd (false≢true (sym e ∙ eq-eqb given.who who f)) in
    let beside = behind_beside scene given entries c.end who other own in
    let none : shown_by who more ≡ [] =
    shown_by-append who (entry_steps given.who c.events) (step ∷ [])
    ∙ ap (λ (ps : List ShownToPeer). ps ++ shown_by who (step ∷ []))
    (unsaid_steps given.who who c.events)
    ∙ shown_by-other who step e in
    record {
      sent = subst (λ (is : List Item). StepsSend setup past (steps ++ more) who is)
          (sym beside.items_are)
          (subst (λ (p : Past). StepsSend setup p (steps ++ more) who (items_of who scene.given))
          (sym c.grown)
          (sent_still setup who entries scene.past (items_of who scene.given) steps more
          (others_of given.who who entries other own) none (s.sent who)));
      ended = beside.ended_is ∙ s.ended who
          ∙ ap (λ (ps : List ShownToPeer). list_any is_over ps)
          (sym (same_printed who steps more none));
    }

-- any seat
stays_by : (setup : Setup) (scene : Scene) (given : SeatItem) (old conn : Talking) (past : Past)
    (steps : List Step) (who : ℕ) (b : Bool) → (given.who == who) ≡ b
    → LinkGoesOn setup.centre scene given.who old
    → (c : Came setup scene given old past conn) → AreSentIn setup scene steps
    → StaysBeside setup scene given past c.end steps (entry_steps given.who c.events
    ++ link_step setup.centre scene (behind_link scene past given c.end) given c.end ∷ []) who
stays_by setup scene given old conn past steps who true e g c s =
    let step : Step =
    link_step setup.centre scene (behind_link scene past given c.end) given c.end in
    let more = entry_steps given.who c.events ++ step ∷ [] in
    let here = given.who in
    subst (λ (w : ℕ). StaysBeside setup scene given past c.end steps more w)
    (eqb-true given.who who e) (record {
      sent = sent_here setup scene given old conn past steps g c s;
      ended = ended_here here c.end scene (behind_link scene past given c.end) refl g.shown
          ∙ sym (over_so (link_octets setup.centre past here
          (items_of here scene.given ++ given.item ∷ [])) c.end)
          ∙ ap (λ (ps : List ShownToPeer). list_any is_over ps)
          (sym (printed_here setup scene given old conn past steps g c s));
    })
stays_by setup scene given old conn past steps who false e g c s =
    sent_beside setup scene given old conn past steps who e c s

pub came_taken : (setup : Setup) (scene : Scene) (given : SeatItem) (old conn : Talking)
    (past : Past) → LinkGoesOn setup.centre scene given.who old
    → (c : Came setup scene given old past conn) → IsOctets (pending_of conn)
    → IsTakenSent setup scene (received setup scene given)
came_taken setup scene given old conn past g c octets =
    let who = given.who in
    let added : IsOctets c.adds.added =
    subst (λ (os : List ℕ). IsOctets os)
    (c.adds.pending ∙ ap (λ (os : List ℕ). os ++ c.adds.added) g.printed) octets in
    let after : Scene = behind_link scene past given c.end in
    let link : Step = link_step setup.centre scene after given c.end in
    let own = entry_steps who c.events in
    let at = λ (steps : List Step) (s : AreSentIn setup scene steps) (seat : ℕ).
    stays_by setup scene given old conn past steps seat (who == seat) refl g c s in
    record {
      steps = own ++ link ∷ [];
      after = after;
      is = c.received_is;
      stays = λ steps s. record {
        sent = λ seat. (at steps s seat).sent;
        octets = octets_behind steps (own ++ link ∷ []) s.octets
            (octets_behind own (link ∷ []) (entries_octets who c.events) (
              subst (λ (os : List ℕ). IsOctets os)
                  (sym (between_so setup.centre scene given past c.end c.adds.added c.octets)) added,
              tt,
            ));
        ended = λ seat. (at steps s seat).ended;
      };
      grown = c.grown ∙ ap (λ (es : List Entry). reverse es ++ scene.past)
          (sym (entries_in-append own (link ∷ []) ∙ append-nil (entries_in own)
          ∙ entries_steps who c.events));
    }
