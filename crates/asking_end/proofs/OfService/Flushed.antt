-- What waits is sent and written.
use Rattle.std.proofs.Common.{◌≡◌, ℕ, Bool, true, false, List, [], ◌++◌, ◌⊎◌, inl, inr, take, drop}
use Rattle.std.proofs.Common.{Option, Some, sym, ap, subst, ◌∙◌, append_assoc}
use Rattle.std.specs.Prelude.{option_map}
use Rattle.std.proofs.lemmas.List.{append-nil, take-append-drop}
use Rattle.outside.specs.Sink.{SinkTold, AppendsAll, AppendsPart}
use Rattle.outside.proofs.Writing.{Appends-append}
use Rattle.outside.specs.Links.LinkAnswers.{LinkAnswer, LinkAnswers}
use Rattle.outside.specs.Links.Links.{LinkTold}
use Rattle.node_server.specs.Links.LinkUses.{HasHeard, UsesLink}
use Rattle.node_server.proofs.OfLinks.Uses.{uses_then, heard_then}
use Rattle.asking_end.specs.declared.end.AskEnd.TheVariants as ends
use Rattle.asking_end.specs.Agendas.{AgendaActs}
use Rattle.asking_end.specs.Askers.{asker_of}
use Rattle.asking_end.specs.Callers.{AskerStands}
use Rattle.asking_end.specs.Service.LinkOctets.{octets_given}
use Rattle.asking_end.specs.Service.Runs.{owes_asked, MayBeUnsaid, MayBeUnshown, IsAskEnd}
use Rattle.asking_end.specs.Service.Sends.{IsLastRefused, is_send_fault, IsLeftBySend, SendsOut}
use Rattle.asking_end.specs.Service.Talking.{RunStart, TalksSoFar, IsFlushed, EndsOver}
use Rattle.asking_end.specs.Service.Terminals.{TerminalTold, IsUnwritten}
use Rattle.asking_end.specs.declared.calling.CallingEnd.{CallingEnd}
use Rattle.asking_end.specs.declared.end.AskEnd.{AskEnd}
use Rattle.asking_end.specs.declared.service.sending.Sent.{Sent}
use Rattle.asking_end.specs.declared.service.sending.Sent.TheVariants.{All, Front, Failed}
use Rattle.asking_end.specs.declared.service.run_end.RunEnd.TheVariants.{Ended, LinkFault}
use Rattle.asking_end.specs.declared.service.run_end.RunEnd.TheVariants.{SinkFault}
use Rattle.asking_end.specs.declared.service.talking.Talk.{Talk}
use Rattle.asking_end.proofs.OfService.EndsHeard.{no_memory}

-- ---- what is owed at the end

pub said_owed : (owed : Bool) (unsaid : List ℕ) (link : LinkTold)
    → (unsaid ≡ []) ⊎ IsLastRefused link → MayBeUnsaid owed unsaid link
said_owed true unsaid link s = s
said_owed false unsaid link s = tt

pub shown_owed : (owed : Bool) (unshown : List ℕ) → unshown ≡ [] → MayBeUnshown owed unshown
shown_owed true unshown e = e
shown_owed false unshown e = tt

pub asking_ended : {E : Type 0} (end : AskEnd E) (by : Option (AskEnd E)) (given : List LinkAnswer)
    → by ≡ Some end → IsAskEnd end by given
asking_ended ends.Finished by given e = inl e
asking_ended ends.PeerEnd by given e = inl e
asking_ended (ends.Refused fault) by given e = inl e
asking_ended ends.Rejected by given e = inl e
asking_ended (ends.ByAgenda other) by given e = inl e
asking_ended (ends.Stray invoke) by given e = inl e
asking_ended ends.Memory by given e = tt

same_end : {E : Type 0} (end : AskEnd E) → Ended end ≡ Ended ends.Memory → end ≡ ends.Memory
same_end end e = cc

pub refused_first : {A B : Type 0} (unsaid : List ℕ) → (unsaid ≡ []) ⊎ (A × B)
    → (unsaid ≡ []) ⊎ A
refused_first unsaid (inl e) = inl e
refused_first unsaid (inr p) = inr p.0

-- a client that has ended, when what it said and showed last is out
pub ends_flushed : {A E : Type 0} (acts : AgendaActs A E ℕ) (start : RunStart A) (t : TerminalTold)
    (talk : Talk A ℕ E) (end : AskEnd E)
    → IsFlushed acts start t talk → talk.asking.end ≡ Some end → EndsOver acts start t (Ended end)
    talk
ends_flushed {E = E} acts start t talk end f e =
    let so : TalksSoFar acts start t talk = f.so_far in record {
      now = so.now;
      given = so.given;
      taken = so.taken;
      lines = so.lines;
      uses = so.uses;
      appends = so.appends;
      timely = so.timely;
      moments = so.moments;
      told = so.told;
      written = so.written;
      unsaid = talk.out.items;
      said = so.said;
      all_said = said_owed (owes_asked end) talk.out.items t.link
          (refused_first talk.out.items f.sent);
      unshown = talk.shown.items;
      shown = so.shown;
      all_shown = shown_owed (owes_asked end) talk.shown.items f.written;
      is = asking_ended end
          (asker_of acts start.title start.agenda (octets_given so.given)).state.end so.given
          (sym so.stands.end ∙ e);
      memory = λ wanting. absurd (no_memory acts start.title start.agenda (octets_given so.given)
          (sym so.stands.end ∙ e ∙ ap (λ (x : AskEnd E). Some x) (same_end end wanting)));
      stands = λ owed. so.stands;
    }

-- ---- what was sent and written

left_by : (sent : Sent) (link : LinkTold) (now : LinkAnswers) (out : List ℕ)
    → is_send_fault sent ≡ false → IsLeftBySend sent link now out
    → (out ≡ []) ⊎ (IsLastRefused link × (now.after_nothing ≡ true))
left_by All link now out e left = inl left
left_by Front link now out e left = inr left
left_by Failed link now out e left = absurd cc

module _ {A E : Type 0} (acts : AgendaActs A E ℕ) (start : RunStart A) (t : TerminalTold)
    (old : Talk A ℕ E) (so : TalksSoFar acts start t old) where
  abbrev first : LinkTold
  first = start.terminal.link

  pub heard_now : HasHeard t.link so.now
  heard_now = heard_then first t.link start.heard so.now so.given so.taken false so.uses

  module _ (after : TerminalTold) (sent : Sent) (out : List ℕ)
      (s : SendsOut t.link after.link so.now old.out.items out sent)
      (unwritten : IsUnwritten t after) where
    uses_sent : (fault : Bool) → is_send_fault sent ≡ fault
        → UsesLink first after.link start.heard s.now so.given (so.taken ++ s.taken) fault
    uses_sent fault e =
        subst (λ (b : Bool).
        UsesLink first after.link start.heard s.now so.given (so.taken ++ s.taken) b) e
        (subst (λ (l : List LinkAnswer).
        UsesLink first after.link start.heard s.now l (so.taken ++ s.taken) (is_send_fault sent))
        (append-nil so.given)
        (uses_then first t.link after.link start.heard so.now s.now so.given [] so.taken s.taken
        (is_send_fault sent) so.uses s.uses))

    appended : AppendsAll start.terminal.sink after.sink so.lines
    appended = subst (λ (k : SinkTold). AppendsAll start.terminal.sink k so.lines)
        (sym unwritten.sink) so.appends

    told_then : after.moments
        ≡ option_map (λ (l : List SinkTold). l ++ so.moments) start.terminal.moments
    told_then = unwritten.moments ∙ so.told

    said_sent : (asker_of acts start.title start.agenda (octets_given so.given)).said
        ≡ (so.taken ++ s.taken) ++ out
    said_sent = so.said ∙ ap (λ (l : List ℕ). so.taken ++ l) s.waited
        ∙ sym (append_assoc so.taken s.taken out)

    -- the link has failed
    pub link_failed : (new : Talk A ℕ E) → is_send_fault sent ≡ true → EndsOver acts start after
        LinkFault new
    link_failed new e = record {
      now = s.now;
      given = so.given;
      taken = so.taken ++ s.taken;
      lines = so.lines;
      uses = uses_sent true e;
      appends = appended;
      timely = so.timely;
      moments = so.moments;
      told = told_then;
      written = so.written;
      unsaid = out;
      said = said_sent;
      all_said = tt;
      unshown = old.shown.items;
      shown = so.shown;
      all_shown = tt;
      is = tt;
      memory = λ e. absurd cc;
      stands = λ e. absurd cc;
    }

    module _ (last : TerminalTold) (link_is : last.link ≡ after.link)
        (moments_are : last.moments ≡ after.moments) where
      uses_shown : is_send_fault sent ≡ false
          → UsesLink first last.link start.heard s.now so.given (so.taken ++ s.taken) false
      uses_shown e = subst (λ (l : LinkTold).
          UsesLink first l start.heard s.now so.given (so.taken ++ s.taken) false)
          (sym link_is) (uses_sent false e)

      -- the sink has failed
      pub sink_failed : (new : Talk A ℕ E) → is_send_fault sent ≡ false
          → AppendsPart after.sink last.sink old.shown.items true
          → EndsOver acts start last SinkFault new
      sink_failed new e p =
          let lines : List ℕ = old.shown.items in record {
            now = s.now;
            given = so.given;
            taken = so.taken ++ s.taken;
            lines = so.lines ++ take p.0 lines;
            uses = uses_shown e;
            appends = Appends-append start.terminal.sink after.sink last.sink so.lines
                (take p.0 lines) true appended p.1;
            timely = so.timely;
            moments = so.moments;
            told = moments_are ∙ told_then;
            written = so.written;
            unsaid = out;
            said = said_sent;
            all_said = tt;
            unshown = drop p.0 lines;
            shown = so.shown
                ∙ ap (λ (l : List ℕ). so.lines ++ l) (sym (take-append-drop p.0 lines))
                ∙ sym (append_assoc so.lines (take p.0 lines) (drop p.0 lines));
            all_shown = tt;
            is = tt;
            memory = λ e. absurd cc;
            stands = λ e. absurd cc;
          }

      -- neither has failed
      pub flushed : (new : Talk A ℕ E) → is_send_fault sent ≡ false
          → AppendsAll after.sink last.sink old.shown.items → new.asking ≡ old.asking
          → new.out.items ≡ out → new.shown.items ≡ [] → IsFlushed acts start last new
      flushed new e appends client out_is shown_is = record {
        so_far = record {
          now = s.now;
          given = so.given;
          taken = so.taken ++ s.taken;
          lines = so.lines ++ old.shown.items;
          uses = uses_shown e;
          appends = Appends-append start.terminal.sink after.sink last.sink so.lines
              old.shown.items false appended appends;
          timely = so.timely;
          moments = so.moments;
          told = moments_are ∙ told_then;
          written = so.written;
          goes = so.goes;
          stands = subst (λ (c : CallingEnd A E).
              AskerStands acts start.title start.agenda (octets_given so.given) c) (sym client)
              so.stands;
          said = said_sent ∙ ap (λ (l : List ℕ). (so.taken ++ s.taken) ++ l) (sym out_is);
          shown = so.shown ∙ sym (append-nil (so.lines ++ old.shown.items))
              ∙ ap (λ (l : List ℕ). (so.lines ++ old.shown.items) ++ l) (sym shown_is);
        };
        sent = subst (λ (l : List ℕ). (l ≡ [])
            ⊎ (IsLastRefused last.link × (s.now.after_nothing ≡ true))) (sym out_is)
            (subst (λ (l : LinkTold). (out ≡ [])
            ⊎ (IsLastRefused l × (s.now.after_nothing ≡ true))) (sym link_is)
            (left_by sent after.link s.now out e s.left));
        written = shown_is;
      }
