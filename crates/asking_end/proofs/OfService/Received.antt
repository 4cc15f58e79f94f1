-- What a link gives is heard.
use Rattle.std.proofs.Common.{◌≡◌, ℕ, ◌+◌, Bool, true, false, List, [], ◌∷◌, ◌++◌, ◌⊎◌, inl, inr}
use Rattle.std.proofs.Common.{Option, Some, None, IfSome, length, refl, sym, ap, subst, ◌∙◌}
use Rattle.std.proofs.Common.{append_assoc, arith, length-append}
use Rattle.std.specs.Prelude.{unwrap_or, option_map}
use Rattle.std.specs.List.{All}
use Rattle.std.proofs.lemmas.List.{append-nil}
use Rattle.std.proofs.lemmas.List.Elements.{All-push}
use Rattle.outside.specs.Sink.{SinkTold, AppendsAll}
use Rattle.outside.specs.declared.links.link.Recv.{Recv}
use Rattle.outside.specs.Links.LinkAnswers.{Received, piece as given_piece, LinkAnswer}
use Rattle.outside.specs.Links.LinkAnswers.{LinkAnswers, ended}
use Rattle.outside.specs.Links.LinkAnswers.{received_of, next_answer, with_answer}
use Rattle.outside.specs.Links.Links.{LinkTold, is_failed_recv}
use Rattle.node_server.specs.Links.GivenItems.{MayGoOn}
use Rattle.node_server.specs.Links.LinkUses.{UsesLink}
use Rattle.node_server.proofs.OfLinks.Uses.{uses_then, recv_uses}
use Rattle.asking_end.specs.declared.end.AskEnd.TheVariants as ends
use Rattle.asking_end.specs.Agendas.{AgendaActs}
use Rattle.asking_end.specs.Askers.{asker_of}
use Rattle.asking_end.specs.Callers.{AskerStands, TakesPiece}
use Rattle.asking_end.specs.Service.LinkOctets.{received_octets, octets_given}
use Rattle.asking_end.specs.Service.Runs.{IsTimely, LeavesMore, AreTimely, AreShown, owes_asked}
use Rattle.asking_end.specs.Service.Runs.{IsEndGiven, IsAskEnd}
use Rattle.asking_end.specs.Service.Sends.{IsLastRefused}
use Rattle.asking_end.specs.Service.Talking.{RunStart, TalksSoFar, IsFlushed, EndsOver, TakenBy}
use Rattle.asking_end.specs.Service.Talking.{TakesOn, HearsPiece}
use Rattle.asking_end.specs.Service.Terminals.{TerminalTold, ReceivesAt}
use Rattle.asking_end.specs.declared.end.AskEnd.{AskEnd}
use Rattle.asking_end.specs.declared.service.run_end.RunEnd.{RunEnd}
use Rattle.asking_end.specs.declared.service.run_end.RunEnd.TheVariants.{Ended, LinkFault}
use Rattle.asking_end.specs.declared.service.running.Intake.{Intake}
use Rattle.asking_end.specs.declared.service.running.Intake.TheVariants.{GoesOn, Ends, Fails}
use Rattle.asking_end.specs.declared.service.talking.Talk.{Talk}
use Rattle.asking_end.proofs.OfService.Flushed.{heard_now, said_owed, shown_owed, asking_ended}
use Rattle.asking_end.proofs.OfService.Flushed.{refused_first}
use Rattle.asking_end.proofs.OfService.Grows.{SaysFirst, says_first}
use Rattle.asking_end.proofs.OfService.Timely.{octets_more, timely_more, shown_more}

-- the client has ended already, or by its peer where nothing more came
peer_ended : {E : Type 0} (o : Option (AskEnd E)) (given : List LinkAnswer) → IsEndGiven given
    → IsAskEnd (unwrap_or o ends.PeerEnd) o given
peer_ended None given e = inr (refl, refl, e)
peer_ended (Some end) given e = asking_ended end (Some end) given refl

by_peer : {E : Type 0} {X : Type 0} (end : AskEnd E) → end ≡ ends.PeerEnd → Ended end ≡ Ended
    ends.Memory → X
by_peer {X} end is wanting = absurd cc

module _ {A E : Type 0} (acts : AgendaActs A E ℕ) (start : RunStart A) (t : TerminalTold)
    (talk : Talk A ℕ E) (f : IsFlushed acts start t talk)
    (lasts : talk.asking.end ≡ None) (after : TerminalTold) (recv : Recv) (buf : List ℕ)
    (got : ReceivesAt t after recv buf) where
  abbrev first : LinkTold
  first = start.terminal.link

  abbrev answer : LinkAnswer
  answer = next_answer (received_of recv buf) f.so_far.now

  abbrev now : LinkAnswers
  now = with_answer (received_of recv buf) f.so_far.now

  abbrev given : List LinkAnswer
  given = f.so_far.given ++ answer ∷ []

  abbrev octets : List ℕ
  octets = octets_given f.so_far.given

  abbrev came : List ℕ
  came = received_octets (received_of recv buf)

  uses_recv : (fault : Bool) → is_failed_recv recv ≡ fault
      → UsesLink first after.link start.heard now given f.so_far.taken fault
  uses_recv fault e =
      let so : TalksSoFar acts start t talk = f.so_far in
      subst (λ (b : Bool). UsesLink first after.link start.heard now given so.taken b) e
      (subst (λ (l : List ℕ).
      UsesLink first after.link start.heard now given l (is_failed_recv recv))
      (append-nil so.taken)
      (uses_then first t.link after.link start.heard so.now now so.given (answer ∷ []) so.taken []
      (is_failed_recv recv) so.uses
      (recv_uses t.link after.link so.now recv buf (heard_now acts start t talk so) got.receives)))

  appended : AppendsAll start.terminal.sink after.sink f.so_far.lines
  appended = subst (λ (k : SinkTold). AppendsAll start.terminal.sink k f.so_far.lines)
      (sym got.sink) f.so_far.appends

  sent_at : (talk.out.items ≡ []) ⊎ (IsLastRefused t.link × (f.so_far.now.after_nothing ≡ true))
      → (answer.after_nothing ≡ true) ⊎ (answer.sent
      ≡ start.heard.sent + length (asker_of acts start.title start.agenda octets).said)
  sent_at (inl e) =
      let so : TalksSoFar acts start t talk = f.so_far in
      inr (so.uses.sent ∙ ap (λ (l : List ℕ). start.heard.sent + length l)
      (sym (so.said ∙ ap (λ (l : List ℕ). so.taken ++ l) e ∙ append-nil so.taken)))
  sent_at (inr p) = inl p.1

  timely_at : IsTimely acts start.title start.agenda start.heard.sent octets answer
  timely_at =
      let so : TalksSoFar acts start t talk = f.so_far in record {
        lasts = sym so.stands.end ∙ lasts;
        most = omega (
          arith,
          so.uses.sent,
          ap length so.said,
          length-append so.taken talk.out.items,
        );
        sent = sent_at f.sent;
      }

  timely_recv : AreTimely acts start.title start.agenda start.heard.sent [] given
  timely_recv = timely_more acts start.title start.agenda start.heard.sent [] f.so_far.given answer
      f.so_far.timely f.so_far.goes timely_at

  -- what is shown so far was written
  abbrev moments : List SinkTold
  moments = f.so_far.moments ++ t.sink ∷ []

  told_recv : after.moments
      ≡ option_map (λ (l : List SinkTold). l ++ moments) start.terminal.moments
  told_recv = got.moments
      ∙ ap (option_map (λ (l : List SinkTold). l ++ t.sink ∷ [])) f.so_far.told
      ∙ one_more start.terminal.moments
    where
      one_more : (o : Option (List SinkTold))
          → option_map (λ (l : List SinkTold). l ++ t.sink ∷ [])
          (option_map (λ (l : List SinkTold). l ++ f.so_far.moments) o)
          ≡ option_map (λ (l : List SinkTold). l ++ moments) o
      one_more None = refl
      one_more (Some l) = ap (λ (k : List SinkTold). Some k)
          (append_assoc l f.so_far.moments (t.sink ∷ []))

  shown_then : (asker_of acts start.title start.agenda octets).shown ≡ f.so_far.lines
  shown_then = f.so_far.shown ∙ ap (λ (l : List ℕ). f.so_far.lines ++ l) f.written
      ∙ append-nil f.so_far.lines

  written_recv : AreShown acts start.title start.agenda start.terminal.sink [] given moments
  written_recv = shown_more acts start.title start.agenda start.terminal.sink [] f.so_far.given
      f.so_far.moments answer t.sink f.so_far.written
      (subst (λ (l : List ℕ). AppendsAll start.terminal.sink t.sink l) (sym shown_then)
      f.so_far.appends)

  goes_recv : MayGoOn (received_of recv buf) → All LeavesMore given
  goes_recv may = All-push LeavesMore f.so_far.given answer f.so_far.goes may

  octets_are : octets_given given ≡ octets ++ came
  octets_are = octets_more f.so_far.given answer

  -- ---- nothing came

  same_octets : came ≡ [] → octets_given given ≡ octets
  same_octets e = octets_are ∙ ap (λ (l : List ℕ). octets ++ l) e ∙ append-nil octets

  same_said : came ≡ [] → (asker_of acts start.title start.agenda (octets_given given)).said
      ≡ f.so_far.taken ++ talk.out.items
  same_said e =
      ap (λ (l : List ℕ). (asker_of acts start.title start.agenda l).said) (same_octets e)
      ∙ f.so_far.said

  same_shown : came ≡ [] → (asker_of acts start.title start.agenda (octets_given given)).shown
      ≡ f.so_far.lines ++ talk.shown.items
  same_shown e =
      ap (λ (l : List ℕ). (asker_of acts start.title start.agenda l).shown) (same_octets e)
      ∙ f.so_far.shown

  pub nothing_came : came ≡ [] → MayGoOn (received_of recv buf) → is_failed_recv recv ≡ false
      → TalksSoFar acts start after talk
  nothing_came e may fine = record {
    now = now;
    given = given;
    taken = f.so_far.taken;
    lines = f.so_far.lines;
    uses = uses_recv false fine;
    appends = appended;
    timely = timely_recv;
    moments = moments;
    told = told_recv;
    written = written_recv;
    goes = goes_recv may;
    stands = subst (λ (l : List ℕ).
        AskerStands acts start.title start.agenda l talk.asking) (sym (same_octets e))
        f.so_far.stands;
    said = same_said e;
    shown = same_shown e;
  }

  pub link_fault : came ≡ [] → is_failed_recv recv ≡ true → EndsOver acts start after LinkFault talk
  link_fault e failed = record {
    now = now;
    given = given;
    taken = f.so_far.taken;
    lines = f.so_far.lines;
    uses = uses_recv true failed;
    appends = appended;
    timely = timely_recv;
    moments = moments;
    told = told_recv;
    written = written_recv;
    unsaid = talk.out.items;
    said = same_said e;
    all_said = tt;
    unshown = talk.shown.items;
    shown = same_shown e;
    all_shown = tt;
    is = tt;
    memory = λ wanting. absurd cc;
    stands = λ owed. absurd cc;
  }

  -- what waits when recv is called waits still, where a send took nothing
  unsaid_after : (talk.out.items ≡ []) ⊎ IsLastRefused after.link
  unsaid_after = subst (λ (o : Option (Option Bool)). (talk.out.items ≡ [])
      ⊎ IfSome o (λ refused. refused ≡ Some true)) (sym got.receives.refused)
      (refused_first talk.out.items f.sent)

  -- nothing more comes
  pub link_ended : (end : AskEnd E) → received_of recv buf ≡ ended → came ≡ []
      → is_failed_recv recv ≡ false → end ≡ unwrap_or talk.asking.end ends.PeerEnd
      → EndsOver acts start after (Ended end) talk
  link_ended end gone e fine is =
      let by : Option (AskEnd E) =
      (asker_of acts start.title start.agenda (octets_given given)).state.end in
      let by_is : talk.asking.end ≡ by =
      f.so_far.stands.end ∙ sym (ap (λ (l : List ℕ).
      (asker_of acts start.title start.agenda l).state.end) (same_octets e)) in record {
        now = now;
        given = given;
        taken = f.so_far.taken;
        lines = f.so_far.lines;
        uses = uses_recv false fine;
        appends = appended;
        timely = timely_recv;
        moments = moments;
        told = told_recv;
        written = written_recv;
        unsaid = talk.out.items;
        said = same_said e;
        all_said = said_owed (owes_asked end) talk.out.items after.link unsaid_after;
        unshown = talk.shown.items;
        shown = same_shown e;
        all_shown = shown_owed (owes_asked end) talk.shown.items f.written;
        is = subst (λ (x : AskEnd E). IsAskEnd x by given)
            (ap (λ (o : Option (AskEnd E)). unwrap_or o ends.PeerEnd) (sym by_is) ∙ sym is)
            (peer_ended by given
            (record { before = f.so_far.given; last = answer; is = refl; ends = gone }));
        memory = λ wanting. by_peer end
            (is ∙ ap (λ (o : Option (AskEnd E)). unwrap_or o ends.PeerEnd) lasts) wanting;
        stands = λ owed. subst (λ (l : List ℕ).
            AskerStands acts start.title start.agenda l talk.asking) (sym (same_octets e))
            f.so_far.stands;
      }

  -- ---- a piece came

  module _ (piece : List ℕ) (is_piece : received_of recv buf ≡ given_piece piece)
      (may : MayGoOn (received_of recv buf)) (fine : is_failed_recv recv ≡ false) where
    with_piece : octets_given given ≡ octets ++ piece
    with_piece = octets_are ∙ ap (λ (r : Received). octets ++ received_octets r) is_piece

    taken_on : (new : Talk A ℕ E) → TakesOn acts piece talk new
        → TakesPiece acts start.title start.agenda octets piece talk.out.items new.out.items
        talk.shown.items new.shown.items new.asking
    taken_on new h = h start.title start.agenda octets f.so_far.stands

    pub piece_heard : (new : Talk A ℕ E) → TakesOn acts piece talk new → TalksSoFar acts start after
        new
    piece_heard new h =
        let so : TalksSoFar acts start t talk = f.so_far in
        let t = taken_on new h in record {
          now = now;
          given = given;
          taken = so.taken;
          lines = so.lines;
          uses = uses_recv false fine;
          appends = appended;
          timely = timely_recv;
          moments = moments;
          told = told_recv;
          written = written_recv;
          goes = goes_recv may;
          stands = subst (λ (l : List ℕ).
              AskerStands acts start.title start.agenda l new.asking) (sym with_piece) t.stands;
          said = ap (λ (l : List ℕ). (asker_of acts start.title start.agenda l).said) with_piece
              ∙ t.says.said.is ∙ ap (λ (l : List ℕ). l ++ t.says.said.added) so.said
              ∙ append_assoc so.taken talk.out.items t.says.said.added
              ∙ ap (λ (l : List ℕ). so.taken ++ l) (sym t.says.said.appended);
          shown = ap (λ (l : List ℕ). (asker_of acts start.title start.agenda l).shown) with_piece
              ∙ t.says.shown.is ∙ ap (λ (l : List ℕ). l ++ t.says.shown.added) so.shown
              ∙ append_assoc so.lines talk.shown.items t.says.shown.added
              ∙ ap (λ (l : List ℕ). so.lines ++ l) (sym t.says.shown.appended);
        }

    -- memory was wanting: what was sent and written so far stands at the front of what the client
    -- says and shows over all that came
    pub piece_lost : (new : Talk A ℕ E) → EndsOver acts start after (Ended ends.Memory) new
    piece_lost new =
        let so : TalksSoFar acts start t talk = f.so_far in
        let g : SaysFirst acts start.title start.agenda octets (octets ++ piece) =
        says_first acts start.title start.agenda octets piece talk.asking so.stands in record {
          now = now;
          given = given;
          taken = so.taken;
          lines = so.lines;
          uses = uses_recv false fine;
          appends = appended;
          timely = timely_recv;
          moments = moments;
          told = told_recv;
          written = written_recv;
          unsaid = talk.out.items ++ g.said;
          said = ap (λ (l : List ℕ). (asker_of acts start.title start.agenda l).said) with_piece
              ∙ g.said_is ∙ ap (λ (l : List ℕ). l ++ g.said) so.said
              ∙ append_assoc so.taken talk.out.items g.said;
          all_said = tt;
          unshown = talk.shown.items ++ g.shown;
          shown = ap (λ (l : List ℕ). (asker_of acts start.title start.agenda l).shown) with_piece
              ∙ g.shown_is ∙ ap (λ (l : List ℕ). l ++ g.shown) so.shown
              ∙ append_assoc so.lines talk.shown.items g.shown;
          all_shown = tt;
          is = tt;
          memory = λ wanting. record {
            before = so.given;
            last = answer;
            octets = piece;
            is = refl;
            came = is_piece;
            unsaid = talk.out.items;
            said = so.said;
            all_said = unsaid_after;
            shown = shown_then;
          };
          stands = λ owed. absurd cc;
        }

    -- what came of it
    pub piece_taken : (intake : Intake E) (new : Talk A ℕ E) → HearsPiece acts intake piece talk new
        → TakenBy acts intake start after new
    piece_taken GoesOn new h = (piece_heard new h.0, h.1)
    piece_taken (Ends end) new h = (piece_heard new h.0, h.1)
    piece_taken (Fails end) new e =
        subst (λ (x : RunEnd E). EndsOver acts start after x new) (sym e) (piece_lost new)
