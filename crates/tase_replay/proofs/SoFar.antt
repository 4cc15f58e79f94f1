-- Behind each line that is taken, each peer has been sent all octets of its link so far.
use Rattle.std.proofs.Common.{◌≡◌, ℕ, Bool, true, false, List, [], ◌∷◌, ◌++◌, map, reverse, Option}
use Rattle.std.proofs.Common.{Some, None, refl, sym, ap, subst, ◌∙◌, append_assoc, inl, inr, take}
use Rattle.std.proofs.Common.{drop, take-append-drop}
use Rattle.std.specs.Prelude.{if◌then◌else◌}
use Rattle.std.specs.List.{cons_option, AllByRecursion}
use Rattle.std.proofs.lemmas.List.{append-nil, map-append, reverse-append}
use Rattle.std.proofs.lemmas.List.Elements.{filter_map-append}
use Rattle.std.proofs.lemmas.Grind.{flat_map-append}
use Rattle.outside.specs.Sink.{SinkTold, AppendsPart}
use Rattle.outside.proofs.Writing.{AppendsPart-all, AppendsPart-append, AppendsPart-front}
use Rattle.outside.proofs.Writing.{AppendsPart-none}
use Rattle.plain_text.specs.Lines.{is_skipped}
use Rattle.bilateral.specs.Rows.{CentreRows}
use Rattle.tase_views.specs.Setup.{Setup}
use Rattle.tase_views.specs.History.{Past}
use Rattle.tase_views.specs.Outcomes.{refusal_of}
use Rattle.tase_views.specs.declared.event.Entry.{Entry}
use Rattle.tase_views.specs.declared.fault.StepFault.{StepFault}
use Rattle.tase_views.specs.declared.fault.StepFault.TheVariants as faults
use Rattle.conn_service.specs.TaseConn.Map.Inputs.{Item}
use Rattle.conn_service.specs.TaseConn.declared.stage.ConnEnd.{ConnEnd}
use Rattle.conn_service.specs.TaseConn.PeerEnd.{peer_end}
use Rattle.conn_service.specs.Served.{Served}
use Rattle.tase_replay.specs.declared.playing.ReplayEnd.{ReplayEnd}
use Rattle.tase_replay.specs.declared.playing.ReplayEnd.TheVariants.{Done, BadLine, Full}
use Rattle.tase_replay.specs.declared.playing.ReplayEnd.TheVariants.{SinkFault, Memory}
use Rattle.tase_replay.specs.Links.{SeatItem, Asking, an_event, an_item, asking_in, items_of}
use Rattle.tase_replay.specs.Play.{Step, Scene, LineMeaning, bad, gives, too_heavy, Played, done}
use Rattle.tase_replay.specs.Play.{bad_line, history_full, TakenLine, steps_in, steps_of, entries_in, printed_in}
use Rattle.tase_replay.specs.Play.{step_of, with_taken, meaning_of, is_linked, cut_steps}
use Rattle.tase_replay.specs.Play.{is_unfit, served_item, linked_by, means, line_meaning}
use Rattle.tase_replay.specs.Play.{linked_up_to}
use Rattle.tase_replay.specs.Play.{play_line, ends_there, scene_by, first_scene, play}
use Rattle.tase_replay.specs.AllSent.{given_asked, given_by_line, given_by_lines, AreSentTo, SentBy}
use Rattle.tase_replay.specs.PrintedLines.{shown_to, shown_by}
use Rattle.tase_replay.specs.OrdersPrinted.{AreOrdersPrinted}
use Rattle.tase_replay.proofs.PrintedBack.{IsPrintedStep, steps_back}
use Rattle.tase_replay.specs.AllSent.{AreSentSoFar, AreSentOver, is_played_out}
use Rattle.tase_replay.specs.Standing.{AreSentIn, StepsSend, IsTakenSent, EndsSent}
use Rattle.tase_replay.specs.Ends.{IsPlayed, TakesAll, TakesPart}
use Rattle.tase_replay.proofs.Reached.{Reached, Reached-taken, continued}
use Rattle.tase_replay.proofs.Taking.{entries_in-append, printed_in-append}
use Rattle.tase_replay.proofs.PlayPrints.{taken_prints}
use Rattle.tase_replay.proofs.OrdersBack.{orders_printed, no_orders}

-- ---- what a line that is taken gives to links

never_bad : (line : List ℕ) (number : ℕ)
    → (play_line line number bad ends_there).end ≡ done → ⊥
never_bad line number e = absurd cc

never_heavy : (steps : List Step) (weight limit : ℕ) (line : List ℕ) (number : ℕ)
    → (play_line line number (too_heavy steps weight limit) ends_there).end ≡ done → ⊥
never_heavy steps weight limit line number e = absurd cc

-- a line of its own gives nothing to a link
meaning_given : (scene after : Scene) (step : Step) (refusal : Option StepFault)
    → after.given ≡ scene.given
    → (scene_by scene (meaning_of after step refusal)).given ≡ scene.given
meaning_given scene after step None e = e
meaning_given scene after step (Some faults.Memory) e = refl
meaning_given scene after step (Some (faults.Stopped place)) e = refl
meaning_given scene after step (Some (faults.HistoryFull weight limit)) e = refl
meaning_given scene after step (Some faults.NoAssociation) e = refl
meaning_given scene after step (Some faults.Already) e = refl
meaning_given scene after step (Some faults.UnknownName) e = refl
meaning_given scene after step (Some faults.ClockRange) e = refl
meaning_given scene after step (Some (faults.Backward last)) e = refl

own_given : (scene : Scene) (b : Bool) (meaning : LineMeaning)
    → (scene_by scene meaning).given ≡ scene.given
    → (scene_by scene (if b then bad else meaning)).given ≡ scene.given
own_given scene true meaning e = refl
own_given scene false meaning e = e

-- a line of a link gives its item
up_to_given : (rows : CentreRows) (scene : Scene) (given : SeatItem) (end : Option ConnEnd)
    (s : Served) (left : Option ConnEnd)
    → (scene_by scene (linked_up_to rows scene given end s left)).given
    ≡ scene.given ++ given ∷ []
up_to_given rows scene given end s None = refl
up_to_given rows scene given end s (Some over) = refl

refusal_given : (rows : CentreRows) (scene : Scene) (given : SeatItem) (end : Option ConnEnd)
    (s : Served) (refusal : Option StepFault) (line : List ℕ) (number : ℕ)
    → (play_line line number (linked_by rows scene given end s refusal) ends_there).end ≡ done
    → (scene_by scene (linked_by rows scene given end s refusal)).given ≡ scene.given ++ given ∷ []
refusal_given rows scene given end s None line number e =
    up_to_given rows scene given end s s.end
refusal_given rows scene given end s (Some (faults.Stopped place)) line number e = refl
refusal_given rows scene given end s (Some (faults.HistoryFull weight limit)) line number e =
    absurd (never_heavy (cut_steps given.who s) weight limit line number e)
refusal_given rows scene given end s (Some faults.Memory) line number e =
    absurd (never_bad line number e)
refusal_given rows scene given end s (Some faults.NoAssociation) line number e =
    absurd (never_bad line number e)
refusal_given rows scene given end s (Some faults.Already) line number e =
    absurd (never_bad line number e)
refusal_given rows scene given end s (Some faults.UnknownName) line number e =
    absurd (never_bad line number e)
refusal_given rows scene given end s (Some faults.ClockRange) line number e =
    absurd (never_bad line number e)
refusal_given rows scene given end s (Some (faults.Backward last)) line number e =
    absurd (never_bad line number e)

link_given : (rows : CentreRows) (scene : Scene) (given : SeatItem) (end : Option ConnEnd)
    (s : Served) (b : Bool) (line : List ℕ) (number : ℕ)
    → (play_line line number (if b then bad else linked_by rows scene given end s s.refusal)
    ends_there).end ≡ done
    → (scene_by scene (if b then bad else linked_by rows scene given end s s.refusal)).given
    ≡ scene.given ++ given ∷ []
link_given rows scene given end s true line number e = absurd (never_bad line number e)
link_given rows scene given end s false line number e =
    refusal_given rows scene given end s s.refusal line number e

means_given : (setup : Setup) (scene : Scene) (found : Option Asking) (tail : List SeatItem)
    (line : List ℕ) (number : ℕ)
    → (play_line line number (means setup scene found) ends_there).end ≡ done
    → scene.given ++ cons_option (given_asked found) tail
    ≡ (scene_by scene (means setup scene found)).given ++ tail
means_given setup scene None tail line number e = absurd (never_bad line number e)
means_given setup scene (Some (an_event entry)) tail line number e =
    ap (λ (gs : List SeatItem). gs ++ tail)
    (sym (own_given scene (is_linked entry.who scene)
    (meaning_of (with_taken entry scene) (step_of setup scene.past entry)
    (refusal_of setup scene.past entry.who entry.event))
    (meaning_given scene (with_taken entry scene) (step_of setup scene.past entry)
    (refusal_of setup scene.past entry.who entry.event) refl)))
means_given setup scene (Some (an_item given)) tail line number e =
    let items = items_of given.who scene.given ++ given.item ∷ [] in
    sym (append_assoc scene.given (given ∷ []) tail)
    ∙ ap (λ (gs : List SeatItem). gs ++ tail)
    (sym (link_given setup.centre scene given (peer_end setup.centre items)
    (served_item setup scene given) (is_unfit given.who scene) line number e))

line_given : (setup : Setup) (scene : Scene) (skipped : Bool) (found : Option Asking)
    (tail : List SeatItem) (line : List ℕ) (number : ℕ)
    → (play_line line number (if skipped then gives [] scene else means setup scene found)
    ends_there).end ≡ done
    → scene.given ++ cons_option (if skipped then None else given_asked found) tail
    ≡ (scene_by scene (if skipped then gives [] scene else means setup scene found)).given ++ tail
line_given setup scene true found tail line number e = refl
line_given setup scene false found tail line number e =
    means_given setup scene found tail line number e

-- ---- the lines so far

-- of these lines, behind which this scene is
pub record SentSoFar (setup : Setup) (lines : List TakenLine) (scene : Scene) : Type 0 where
  pub given : given_by_lines setup.centre (map (λ line. line.line) lines) ≡ scene.given
  pub sent : AreSentIn setup scene (steps_in lines)

pub SentSoFar-none : (setup : Setup) (past : Past) → SentSoFar setup [] (first_scene past)
SentSoFar-none setup past = record {
  given = refl;
  sent = record { sent = λ who. refl; octets = tt; ended = λ who. refl };
}

-- with a line more
pub record Further (setup : Setup) (all rest : Played) (history now : List Entry)
    (before after : SinkTold) (scene : Scene) : Type 0 where
  pub reached : Reached all rest history now before after
  pub sent : SentSoFar setup reached.lines scene

more_given : (rows : CentreRows) (lines : List TakenLine) (line : List ℕ) (steps : List Step)
    (before after : List SeatItem)
    → given_by_lines rows (map (λ taken. taken.line) lines) ≡ before
    → before ++ cons_option (given_by_line rows line) [] ≡ after ++ []
    → given_by_lines rows (map (λ taken. taken.line)
    (lines ++ record { line = line; steps = steps } ∷ [])) ≡ after
more_given rows lines line steps before after e f =
    let taken : TakenLine = record { line = line; steps = steps } in
    ap (λ (texts : List (List ℕ)). given_by_lines rows texts)
    (map-append (λ (t : TakenLine). t.line) lines (taken ∷ []))
    ∙ filter_map-append (given_by_line rows) (map (λ (t : TakenLine). t.line) lines) (line ∷ [])
    ∙ ap (λ (gs : List SeatItem). gs ++ cons_option (given_by_line rows line) []) e
    ∙ f ∙ append-nil after

-- where a line more is taken
SentSoFar-with : (setup : Setup) (line : List ℕ) (scene : Scene) (lines : List TakenLine)
    → SentSoFar setup lines scene → (t : IsTakenSent setup scene (line_meaning setup scene line))
    → SentSoFar setup (lines ++ record { line = line; steps = t.steps } ∷ []) t.after
SentSoFar-with setup line scene lines s t =
    let taken : TakenLine = record { line = line; steps = t.steps } in
    record {
      given = more_given setup.centre lines line t.steps scene.given t.after.given s.given
          (line_given setup scene (is_skipped line) (asking_in setup.centre line) [] line 1
          (ap (λ (m : LineMeaning). (play_line line 1 m ends_there).end) t.is)
          ∙ ap (λ (m : LineMeaning). (scene_by scene m).given ++ []) t.is);
      sent = subst (λ (these : List Step). AreSentIn setup t.after these)
          (sym (flat_map-append (λ (line : TakenLine). line.steps) lines (taken ∷ [])
          ∙ ap (λ (these : List Step). steps_in lines ++ these) (append-nil t.steps)))
          (t.stays (steps_in lines) s.sent);
    }

pub SentSoFar-more : (setup : Setup) (line : List ℕ) (number : ℕ) (scene : Scene)
    (rest : Scene → Played) (all : Played) (history now later : List Entry)
    (before after next : SinkTold)
    → (r : Reached all (play_line line number (line_meaning setup scene line) rest) history now
    before after) → SentSoFar setup r.lines scene
    → IsPlayed (play_line line number (line_meaning setup scene line) ends_there) now later after next
    Done → EndsSent setup scene (line_meaning setup scene line) Done after next
    → Further setup all (rest (scene_by scene (line_meaning setup scene line))) history later before
    next (scene_by scene (line_meaning setup scene line))
SentSoFar-more setup line number scene rest all history now later before after next r s played
    (inr last) = absurd (last.0 refl)
SentSoFar-more setup line number scene rest all history now later before after next r s played
    (inl t) = goes_on (line_meaning setup scene line) t.is r.whole r.takes played
  where
    goes_on : (meaning : LineMeaning) → meaning ≡ gives t.steps t.after
        → all ≡ continued r.lines (play_line line number meaning rest)
        → TakesAll (steps_in r.lines) history now before after
        → IsPlayed (play_line line number meaning ends_there) now later after next Done
        → Further setup all (rest (scene_by scene meaning)) history later before next
        (scene_by scene meaning)
    goes_on meaning is whole takes played = subst (λ (m : LineMeaning). Further setup all
        (rest (scene_by scene m)) history later before next (scene_by scene m)) (sym is) (record {
          reached = Reached-taken line number t.steps t.after rest all history now later before
              after next (record {
                lines = r.lines;
                whole = whole ∙ ap (λ (m : LineMeaning). continued r.lines
                    (play_line line number m rest)) is;
                takes = takes;
              })
              (subst (λ (m : LineMeaning). IsPlayed (play_line line number m ends_there) now later
              after next Done) is played);
          sent = SentSoFar-with setup line scene r.lines s t;
        })

-- ---- at the end

-- a line with which a play ends isn't taken
pub untaken : (line : List ℕ) (number : ℕ) (meaning : LineMeaning) (rest : Scene → Played)
    (history now : List Entry) (before after : SinkTold) (end : ReplayEnd) → (end ≡ Done → ⊥)
    → IsPlayed (play_line line number meaning ends_there) history now before after end
    → is_played_out end ≡ true → (play_line line number meaning rest).taken ≡ []
untaken line number bad rest history now before after end other played out = refl
untaken line number (too_heavy steps weight limit) rest history now before after end other played
    out = refl
untaken line number (gives steps behind) rest history now before after Done other played out =
    absurd (other refl)
untaken line number (gives steps behind) rest history now before after (BadLine at) other played
    out = absurd (let e : done ≡ bad_line at = played.0 in absurd cc)
untaken line number (gives steps behind) rest history now before after (Full weight limit) other
    played out = absurd (let e : done ≡ history_full weight limit = played.0 in absurd cc)
untaken line number (gives steps behind) rest history now before after SinkFault other played out =
    absurd cc
untaken line number (gives steps behind) rest history now before after Memory other played out =
    absurd cc

-- what the steps of lines print for the peers of links is shown in their text
shown_in : (setup : Setup) (past : Past) (steps : List Step) (who : ℕ) (items : List Item)
    → shown_to who (printed_in steps) ≡ shown_by who steps → StepsSend setup past steps who items
    → SentBy setup past (printed_in steps) who items
shown_in setup past steps who [] same s = same ∙ s
shown_in setup past steps who (item ∷ items) same s =
    record { end = s.end; shown = same ∙ s.shown; sends = s.sends }

-- so over lines behind which this is the scene
sent_over : (setup : Setup) (history : List Entry) (lines : List TakenLine) (scene : Scene)
    → SentSoFar setup lines scene → AllByRecursion IsPrintedStep (steps_in lines)
    → scene.past ≡ reverse (history ++ entries_in (steps_in lines))
    → AreSentOver setup history lines
sent_over setup history lines scene s prints e =
    let steps = steps_in lines in
    subst (λ (p : Past). AreSentTo setup (given_by_lines setup.centre
    (map (λ (line : TakenLine). line.line) lines)) p (printed_in steps)) e
    (subst (λ (gs : List SeatItem). AreSentTo setup gs scene.past (printed_in steps))
    (sym s.given) (λ who fits. shown_in setup scene.past steps who (items_of who scene.given)
    (steps_back who fits steps prints s.sent.octets) (s.sent.sent who)))

-- the lines of a play print what can be read back, and all orders that the plant takes
pub record PrintsLines (setup : Setup) (history : List Entry) (all : Played) : Type 0 where
  pub steps : (taken others : List TakenLine) → all.taken ≡ taken ++ others
      → AllByRecursion IsPrintedStep (steps_in taken)
  pub orders : (taken others : List TakenLine) → all.taken ≡ taken ++ others
      → AreOrdersPrinted setup history taken

pub prints_lines : (setup : Setup) (scenario : List (List ℕ)) (history : List Entry)
    → PrintsLines setup history (play setup scenario (first_scene (reverse history)) 1)
prints_lines setup scenario history = record {
  steps = taken_prints setup scenario (first_scene (reverse history)) 1;
  orders = orders_printed setup scenario history;
}

module _ (setup : Setup) (all rest : Played) (history now : List Entry) (before after : SinkTold)
    (scene : Scene) (r : Reached all rest history now before after)
    (s : SentSoFar setup r.lines scene) (prints : PrintsLines setup history all)
    (e : scene.past ≡ reverse now) where
  lines_so : all.taken ≡ r.lines ++ rest.taken
  lines_so = ap (λ (played : Played). played.taken) r.whole

  sent_so : AreSentOver setup history r.lines
  sent_so = sent_over setup history r.lines scene s (prints.steps r.lines rest.taken lines_so)
      (e ∙ ap (λ (entries : List Entry). reverse entries) r.takes.entries)

  -- no line is left that may be taken
  pub AreSentSoFar-whole : (whole : Bool) (next : SinkTold) → rest.taken ≡ []
      → AreSentSoFar setup history all whole before next
  AreSentSoFar-whole whole next none = record {
    taken = r.lines;
    others = rest.taken;
    lines = lines_so;
    all = λ is. none;
    sent = sent_so;
    orders = prints.orders r.lines rest.taken lines_so;
    printed = inl none;
  }

  -- nothing is printed of the next
  AreSentSoFar-before : (next : SinkTold) → next ≡ after
      → AreSentSoFar setup history all false before next
  AreSentSoFar-before next same = record {
    taken = r.lines;
    others = rest.taken;
    lines = lines_so;
    all = λ is. absurd cc;
    sent = sent_so;
    orders = prints.orders r.lines rest.taken lines_so;
    printed = inr (
      false,
      subst (λ (k : SinkTold).
          AppendsPart before k (printed_in (steps_in r.lines)) false) (sym same)
          (AppendsPart-all before after (printed_in (steps_in r.lines)) false r.takes.shown),
    );
  }

-- what the first steps print is a front part of what all print
pub part_front : (before after : SinkTold) (steps : List Step) (count : ℕ) (failed : Bool)
    → AppendsPart before after (printed_in (take count steps)) failed
    → AppendsPart before after (printed_in steps) failed
part_front before after steps count failed part =
    subst (λ (these : List Step). AppendsPart before after (printed_in these) failed)
    (take-append-drop count steps)
    (subst (λ (text : List ℕ). AppendsPart before after text failed)
    (sym (printed_in-append (take count steps) (drop count steps)))
    (AppendsPart-front before after (printed_in (take count steps))
    (printed_in (drop count steps)) failed part))

module _ (setup : Setup) (line : List ℕ) (number : ℕ) (scene : Scene) (rest : Scene → Played)
    (all : Played) (history now later : List Entry) (before after next : SinkTold)
    (r : Reached all (play_line line number (line_meaning setup scene line) rest) history now before
    after) (s : SentSoFar setup r.lines scene) (prints : PrintsLines setup history all)
    (e : scene.past ≡ reverse now) where
  -- the next is taken, and some of it is printed
  AreSentSoFar-part : (failed : Bool)
      → (t : IsTakenSent setup scene (line_meaning setup scene line))
      → TakesPart (steps_of (play_line line number (line_meaning setup scene line) ends_there)) now
      later after next failed
      → AreSentSoFar setup history all false before next
  AreSentSoFar-part failed t part =
      let taken : TakenLine = record { line = line; steps = t.steps } in
      let lines = r.lines ++ taken ∷ [] in
      let steps_are : steps_in lines ≡ steps_in r.lines ++ t.steps =
      flat_map-append (λ (line : TakenLine). line.steps) r.lines (taken ∷ [])
      ∙ ap (λ (these : List Step). steps_in r.lines ++ these) (append-nil t.steps) in
      let lines_are : all.taken ≡ lines ++ (rest t.after).taken =
      ap (λ (played : Played). played.taken) r.whole
      ∙ ap (λ (m : LineMeaning). r.lines ++ (play_line line number m rest).taken) t.is
      ∙ sym (append_assoc r.lines (taken ∷ []) (rest t.after).taken) in
      let shown = subst (λ (m : LineMeaning). (count : ℕ) × AppendsPart after next
      (printed_in (take count (steps_of (play_line line number m ends_there)))) failed) t.is
      (part.count, part.shown) in
      record {
        taken = lines;
        others = (rest t.after).taken;
        lines = lines_are;
        all = λ is. absurd cc;
        sent = sent_over setup history lines t.after
            (SentSoFar-with setup line scene r.lines s t)
            (prints.steps lines (rest t.after).taken lines_are)
            (t.grown ∙ ap (λ (p : Past). reverse (entries_in t.steps) ++ p)
            (e ∙ ap (λ (es : List Entry). reverse es) r.takes.entries)
            ∙ sym (reverse-append (history ++ entries_in (steps_in r.lines)) (entries_in t.steps))
            ∙ ap (λ (es : List Entry). reverse es)
            (append_assoc history (entries_in (steps_in r.lines)) (entries_in t.steps)
            ∙ ap (λ (es : List Entry). history ++ es)
            (sym (entries_in-append (steps_in r.lines) t.steps)
            ∙ ap (λ (these : List Step). entries_in these) (sym steps_are))));
        orders = prints.orders lines (rest t.after).taken lines_are;
        printed = inr (
          failed,
          subst (λ (these : List Step).
              AppendsPart before next (printed_in these) failed) (sym steps_are)
              (subst (λ (text : List ℕ). AppendsPart before next text failed)
              (sym (printed_in-append (steps_in r.lines) t.steps))
              (AppendsPart-append before after next (printed_in (steps_in r.lines))
              (printed_in t.steps) failed r.takes.shown
              (subst (λ (these : List Step). AppendsPart after next (printed_in these) failed)
              (append-nil (t.steps ++ []) ∙ append-nil t.steps)
              (part_front after next ((t.steps ++ []) ++ []) shown.0 failed shown.1)))),
        );
      }

  last_part : (end : ReplayEnd) (failed : Bool)
      → EndsSent setup scene (line_meaning setup scene line) end after next
      → TakesPart (steps_of (play_line line number (line_meaning setup scene line) ends_there)) now
      later after next failed
      → AreSentSoFar setup history all false before next
  last_part end failed (inl t) part = AreSentSoFar-part failed t part
  last_part end failed (inr last) part =
      AreSentSoFar-before setup all (play_line line number (line_meaning setup scene line) rest)
      history now before after scene r s prints e next last.1

  -- a play ends with the next
  pub AreSentSoFar-last : (end : ReplayEnd) → (end ≡ Done → ⊥)
      → IsPlayed (play_line line number (line_meaning setup scene line) ends_there) now later after
      next end
      → EndsSent setup scene (line_meaning setup scene line) end after next
      → AreSentSoFar setup history all (is_played_out end) before next
  AreSentSoFar-last Done other played sent = absurd (other refl)
  AreSentSoFar-last (BadLine at) other played sent =
      AreSentSoFar-whole setup all (play_line line number (line_meaning setup scene line) rest)
      history now before after scene r s prints e true next
      (untaken line number (line_meaning setup scene line) rest now later after next (BadLine at)
      other played refl)
  AreSentSoFar-last (Full weight limit) other played sent =
      AreSentSoFar-whole setup all (play_line line number (line_meaning setup scene line) rest)
      history now before after scene r s prints e true next
      (untaken line number (line_meaning setup scene line) rest now later after next
      (Full weight limit) other played refl)
  AreSentSoFar-last SinkFault other played sent = last_part SinkFault true sent played
  AreSentSoFar-last Memory other played sent = last_part Memory false sent played

-- no line was taken
pub AreSentSoFar-none : (setup : Setup) (history : List Entry) (all : Played) (sink : SinkTold)
    → AreSentSoFar setup history all false sink sink
AreSentSoFar-none setup history all sink = record {
  taken = [];
  others = all.taken;
  lines = refl;
  all = λ whole. absurd cc;
  sent = λ who fits. refl;
  orders = no_orders setup history;
  printed = inr (false, AppendsPart-none sink []);
}
