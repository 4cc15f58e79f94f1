-- What a client says over all octets, as exchanges of which each is checked.
use Rattle.std.proofs.Common.{◌≡◌, ◌≤◌, ℕ, ℤ, true, false, List, [], ◌∷◌, ◌++◌, Option}
use Rattle.std.proofs.Common.{Some, None}
use Rattle.std.proofs.Common.{Result, Ok, Err, map, length, refl, sym, ap, subst, ◌∙◌, inl, inr}
use Rattle.std.proofs.Common.{append_assoc, arith}
use Rattle.std.specs.Prelude.{IfOk, option_map, if◌then◌else◌}
use Rattle.std.specs.List.{All}
use Rattle.std.proofs.lemmas.List.{append-nil, length-append}
use Rattle.std.proofs.lemmas.List.Elements.{All-head, All-nil, All-push}
use Rattle.tpkt_cotp.specs.Places.{End, left, stopped, messages_of, stream_in}
use Rattle.tpkt_cotp.specs.Streams.{Message, asks, confirms, tsdu}
use Rattle.tpkt_cotp.specs.Streams as transport
use Rattle.tpkt_cotp.specs.Written.{connection_request_octets}
use Rattle.tpkt_cotp.specs.declared.turn.Role.TheVariants as sorts
use Rattle.tpkt_cotp.proofs.Streaming.{left_says, stopped_stops}
use Rattle.mms_services.specs.declared.pdu.MmsPdu.{MmsPdu}
use Rattle.mms_services.specs.declared.pdu.MmsPdu.TheVariants as pdus
use Rattle.stack_assoc.specs.declared.input.StackIn.{StackIn}
use Rattle.stack_assoc.specs.declared.messages.fault.StackFault.{StackFault}
use Rattle.stack_assoc.specs.declared.messages.heard.Heard.{Heard}
use Rattle.stack_assoc.specs.declared.wire.setup.AssociationSetup.{AssociationSetup}
use Rattle.stack_assoc.specs.Messages.Messages.{message}
use Rattle.stack_assoc.specs.Arrivals.{Arrival, asked, confirmed, gone, heard, Role, called}
use Rattle.stack_assoc.specs.Arrivals.{calling}
use Rattle.stack_assoc.specs.Expectations.{setup_after, expecting_after}
use Rattle.stack_assoc.specs.Fronts.{StartsWith}
use Rattle.stack_assoc.specs.Handing.{answer_to, stack_in}
use Rattle.stack_assoc.specs.InTurn.{SpellInTurn}
use Rattle.stack_assoc.specs.Tellings.{TellsNext, Tell}
use Rattle.stack_assoc.proofs.FrontsKept.{said_front, stopped_front}
use Rattle.stack_assoc.proofs.OfMessages.OneMessage.{message_read}
use Rattle.stack_assoc.proofs.StreamLaws.{front_front}
use Rattle.bilateral.specs.Rows.{CentreRows, device_of}
use Rattle.tase_conn.specs.Map.Readings.{arrival_heard, broken_at_end}
use Rattle.tase_conn.specs.Map.Replied.{answered_number}
use Rattle.asking_end.specs.declared.asker.Asker.{Asker}
use Rattle.asking_end.specs.declared.asker.Awaiting.{Awaiting}
use Rattle.asking_end.specs.declared.asker.Awaiting.TheVariants as awaits
use Rattle.asking_end.specs.declared.asker.AskMove.{AskMove}
use Rattle.asking_end.specs.declared.asker.AskMove.TheVariants as moves
use Rattle.asking_end.specs.declared.end.AskEnd.{AskEnd}
use Rattle.asking_end.specs.Sayings.{request_pdu, pdu_said}
use Rattle.asking_end.specs.Asking.{request_awaited, awaited_said, number_awaited, is_awaited}
use Rattle.asking_end.specs.Hearings.{input_heeded}
use Rattle.asking_end.specs.Askers.{AskerState, silent, unless_ended, moved, handed_step, with_told}
use Rattle.asking_end.specs.Askers.{asker_step, step_then, arrival_by, message_step, end_step}
use Rattle.asking_end.specs.Askers.{asker_from, asker_start, asker_behind}
use Rattle.asking_end.proofs.HeardSteps.{SaysLater, step-later, step-told, later-then}
use Rattle.asking_end.proofs.HeardSteps.{expecting-later, alike}
use Rattle.centre_client.specs.declared.play.Checkback.{Checkback}
use Rattle.centre_client.specs.declared.play.Doing.{Doing}
use Rattle.centre_client.specs.declared.play.Doing.TheVariants as doings
use Rattle.centre_client.specs.declared.script.Script.{Script}
use Rattle.centre_client.specs.declared.script.Step.{Step}
use Rattle.centre_client.specs.declared.script.StepKind.{StepKind}
use Rattle.centre_client.specs.declared.script.StepKind.TheVariants as kinds
use Rattle.centre_client.specs.Guards.{IsGuardedFirst, AwaitsWrite, IsCheckedBack}
use Rattle.centre_client.specs.Plays.{call_of_first, number_answered, checkback_of}
use Rattle.centre_client.specs.Plays.{select_call}
use Rattle.centre_client.specs.Scripted.{Scripted, script_acts, scripted, title_of}
use Rattle.centre_client.specs.Scripts.{IsScript}
use Rattle.centre_client.specs.StepLines.{IsStep}
use Rattle.centre_client.specs.Checkbacks.{ScriptSaying, silence, says_pdu, says_finish, Exchange}
use Rattle.centre_client.specs.Checkbacks.{saying_octets, octets_exchanged, WritesSelectable}
use Rattle.centre_client.specs.Checkbacks.{IsCheckback, IsChecked, SaysChecked}
use Rattle.centre_client.specs.Clients.{ClientStep, client_of}
use Rattle.centre_client.proofs.Guarded.{checked_before}
use Rattle.centre_client.proofs.PlayedOn.{script_plays}
use Rattle.centre_client.proofs.PlaysHeard.{MayGoOn, input-plays}
use Rattle.centre_client.proofs.WaitsOn.{StandsStill, input_waits}
use Rattle.centre_client.proofs.WritesMeant.{requested, same_said, call_unmeant, operate_meant}
use Rattle.centre_client.proofs.WritesMeant.{answers_request}

abbrev ClientState : Type 0
ClientState = AskerState Scripted Checkback

abbrev AskingMove : Type 0
AskingMove = AskMove Checkback

-- ---- what is said behind a message

-- where this is awaited from now on
abbrev said_awaiting : Awaiting → Asker Scripted → ScriptSaying
said_awaiting awaits.Association q = silence
said_awaiting awaits.Nothing q = silence
said_awaiting awaits.Conclusion q = says_pdu pdus.Conclude
said_awaiting awaits.Release q = says_finish
said_awaiting awaits.Reply q = requested (request_awaited script_acts q)

abbrev said_behind : AskingMove → Asker Scripted → ScriptSaying
said_behind moves.Say q = said_awaiting q.awaiting q
said_behind move q = silence

requested_octets : (setup : AssociationSetup) (pdu : Option MmsPdu)
    → saying_octets setup (requested pdu) ≡ pdu_said setup pdu
requested_octets setup None = refl
requested_octets setup (Some pdu) = refl

awaiting_octets : (setup : AssociationSetup) (awaiting : Awaiting) (q : Asker Scripted)
    → saying_octets setup (said_awaiting awaiting q)
    ≡ awaited_said script_acts setup awaiting q
awaiting_octets setup awaits.Association q = refl
awaiting_octets setup awaits.Nothing q = refl
awaiting_octets setup awaits.Conclusion q = refl
awaiting_octets setup awaits.Release q = refl
awaiting_octets setup awaits.Reply q = requested_octets setup (request_awaited script_acts q)

moved_octets : (q : Asker Scripted) (move : AskingMove) (s : ClientState)
    → saying_octets (setup_after s.told) (said_behind move q) ≡ (moved script_acts q move s).said
moved_octets q moves.Wait s = refl
moved_octets q moves.Say s = awaiting_octets (setup_after s.told) q.awaiting q
moved_octets q (moves.End end) s = refl

-- ---- where the script stands behind exchanges

-- the last that was said is the request that is awaited
record Asks (past : List Exchange) (p : Asker Scripted) : Type 0 where
  pub earlier : List Exchange
  pub last : Exchange
  pub between : List Exchange
  pub is : past ≡ earlier ++ last ∷ between
  pub says : last.says ≡ requested (request_awaited script_acts p)
  pub silent_since : All (λ e. e.says ≡ silence) between

record Stands (rows : CentreRows) (peer : ℕ) (past : List Exchange) (p : Asker Scripted) :
    Type 0 where
  pub play : MayGoOn p
  pub rows_are : p.agenda.rows ≡ rows
  pub peer_is : p.agenda.play.peer ≡ peer
  pub asks : p.awaiting ≡ awaits.Reply → Asks past p

abbrev an_exchange : Arrival → ScriptSaying → Exchange
an_exchange t saying = record { heard = t; says = saying }

-- nothing was said
waits_on : (past : List Exchange) (p : Asker Scripted) (t : Arrival)
    → Asks past p → Asks (past ++ an_exchange t silence ∷ []) p
waits_on past p t a =
    let quiet : Exchange = an_exchange t silence in record {
      earlier = a.earlier;
      last = a.last;
      between = a.between ++ quiet ∷ [];
      is = ap (λ (l : List Exchange). l ++ quiet ∷ []) a.is
          ∙ append_assoc a.earlier (a.last ∷ a.between) (quiet ∷ []);
      says = a.says;
      silent_since = All-push (λ (e : Exchange). e.says ≡ silence) a.between quiet a.silent_since
          refl;
    }

quiet_checked : (rows : CentreRows) (peer : ℕ) (past : List Exchange) (t : Arrival)
    → IsChecked rows peer past (an_exchange t silence)
quiet_checked rows peer past t = λ device pdu e w. absurd cc

asks_reply : (past : List Exchange) (q : Asker Scripted) (t : Arrival)
    → q.awaiting ≡ awaits.Reply
    → Asks (past ++ an_exchange t (said_awaiting q.awaiting q) ∷ []) q
asks_reply past q t e =
    let said : Exchange = an_exchange t (said_awaiting q.awaiting q) in record {
      earlier = past;
      last = said;
      between = [];
      is = refl;
      says = ap (λ (a : Awaiting). said_awaiting a q) e;
      silent_since = All-nil (λ (e : Exchange). e.says ≡ silence);
    }

-- where a reply's number is the one that is awaited, a reply is
reply_awaited : (p : Asker Scripted) (number : Option ℕ)
    → is_awaited (number_awaited p) number ≡ true → p.awaiting ≡ awaits.Reply
reply_awaited p number e = one p.awaiting e
  where
    one : (awaiting : Awaiting)
        → is_awaited (number_awaited (record p { awaiting = awaiting })) number ≡ true
        → awaiting ≡ awaits.Reply
    one awaits.Reply e = refl
    one awaits.Association e = absurd cc
    one awaits.Nothing e = absurd cc
    one awaits.Conclusion e = absurd cc
    one awaits.Release e = absurd cc

-- ---- what is said is checked

-- the request of the step at the front
abbrev request_of : ℕ → CentreRows → ℕ → Doing → List Step → Option MmsPdu
request_of number rows peer doing steps =
    option_map (request_pdu number) (call_of_first rows peer doing steps)

module _ (rows : CentreRows) (peer : ℕ) (past : List Exchange) (p : Asker Scripted) (t : Arrival)
    (input : StackIn) (handed : stack_in t ≡ Some input) (stands : Stands rows peer past p)
    (q : Asker Scripted) (play : MayGoOn q) (rows_are : q.agenda.rows ≡ rows)
    (peer_is : q.agenda.play.peer ≡ peer) (reply : q.awaiting ≡ awaits.Reply)
    (guard : AwaitsWrite q → IsCheckedBack input p q) where
  -- behind the reply to the select of its step
  checkback_heard : (own : ℕ) (value : ℤ) (line : ℕ) (more : List Step)
      → q.agenda.play.rest ≡ record { line = line; kind = kinds.Operate own value } ∷ more
      → IsCheckedBack input p q → IsCheckback rows peer own past t
  checkback_heard own value line more rest_is k =
      let awaited : p.awaiting ≡ awaits.Reply =
      reply_awaited p (answered_number k.pdu) k.awaited in
      let a : Asks past p = stands.asks awaited in
      let rest : p.agenda.play.rest
      ≡ record { line = line; kind = kinds.Operate own value } ∷ more =
      sym k.step ∙ rest_is in
      let want : checkback_of p.agenda.rows p.agenda.play.rest ≡ (device_of rows own).checkback =
      ap (λ (steps : List Step). checkback_of p.agenda.rows steps) rest
      ∙ ap (λ (r : CentreRows). (device_of r own).checkback) stands.rows_are in
      let requests : request_awaited script_acts p
      ≡ Some (request_pdu p.last (select_call rows peer own)) =
      ap (λ (d : Doing). request_of p.last p.agenda.rows p.agenda.play.peer d p.agenda.play.rest)
      k.select
      ∙ ap (λ (steps : List Step).
      request_of p.last p.agenda.rows p.agenda.play.peer doings.Select steps) rest
      ∙ ap (λ (r : CentreRows). Some (request_pdu p.last
      (select_call r p.agenda.play.peer own))) stands.rows_are
      ∙ ap (λ (n : ℕ). Some (request_pdu p.last (select_call rows n own))) stands.peer_is in
      let answer : number_answered (device_of rows own).checkback k.reply
      ≡ Some (device_of rows own).checkback =
      subst (λ (z : ℤ). number_answered z k.reply ≡ Some z) want k.answer in
      let waits : is_awaited (Some p.last) (answered_number k.pdu) ≡ true =
      subst (λ (o : Option ℕ). is_awaited o (answered_number k.pdu) ≡ true)
      (ap (λ (w : Awaiting). number_awaited (record p { awaiting = w })) awaited) k.awaited in
      record {
        earlier = a.earlier;
        select = a.last;
        between = a.between;
        is = a.is;
        number = p.last;
        selects = a.says ∙ ap requested requests;
        silent = a.silent_since;
        pdu = k.pdu;
        came = handed ∙ ap (λ (i : StackIn). Some i) k.is;
        answers = answers_request k.pdu k.reply p.last (device_of rows own).checkback
            (device_of rows own).checkback k.told answer waits;
        reply = k.reply;
        told = k.told;
        checkback = answer;
      }

  -- what the step at the front writes
  step_checked : (device : ℕ) (pdu : MmsPdu) (kind : StepKind) (line : ℕ) (more : List Step)
      → q.agenda.play.doing ≡ doings.Reply
      → q.agenda.play.rest ≡ record { line = line; kind = kind } ∷ more
      → IsStep rows peer kind
      → requested (request_of q.last rows peer doings.Reply
      (record { line = line; kind = kind } ∷ more))
      ≡ says_pdu pdu
      → WritesSelectable rows peer device pdu → IsCheckback rows peer device past t
  step_checked device pdu (kinds.Call call) line more doing rest step e w =
      absurd (call_unmeant rows peer device q.last call step.1
      (subst (WritesSelectable rows peer device)
      (sym (same_said (request_pdu q.last call) pdu e)) w))
  step_checked device pdu (kinds.Operate own value) line more doing rest step e w =
      let same : own ≡ device = operate_meant rows peer device q.last own value step.2
      (subst (WritesSelectable rows peer device) (sym (same_said _ pdu e)) w) in
      let selectable : (device_of rows own).direct ≡ false =
      subst (λ (d : ℕ). (device_of rows d).direct ≡ false) (sym same) w.selectable in
      let awaited : AwaitsWrite q = record {
        reply = reply;
        doing = doing;
        step = subst (λ (r : CentreRows). IsGuardedFirst r q.agenda.play.rest) (sym rows_are)
            (subst (IsGuardedFirst rows) (sym rest) selectable);
      } in
      subst (λ (d : ℕ). IsCheckback rows peer d past t) same
      (checkback_heard own value line more rest (guard awaited))
  step_checked device pdu (kinds.Wait reports) line more doing rest step e w = absurd cc

  reply_checked : (device : ℕ) (pdu : MmsPdu) (steps : List Step)
      → q.agenda.play.doing ≡ doings.Reply → q.agenda.play.rest ≡ steps
      → requested (request_of q.last rows peer doings.Reply steps) ≡ says_pdu pdu
      → WritesSelectable rows peer device pdu → IsCheckback rows peer device past t
  reply_checked device pdu [] doing rest e w = absurd cc
  reply_checked device pdu (step ∷ more) doing rest e w =
      let steps : All (λ (s : Step). IsStep q.agenda.rows q.agenda.play.peer s.kind)
      (step ∷ more) =
      subst (All (λ (s : Step). IsStep q.agenda.rows q.agenda.play.peer s.kind)) rest play.rest in
      let first : IsStep rows peer step.kind =
      subst (λ (r : CentreRows). IsStep r peer step.kind) rows_are
      (subst (λ (n : ℕ). IsStep q.agenda.rows n step.kind) peer_is
      (All-head (λ (s : Step). IsStep q.agenda.rows q.agenda.play.peer s.kind) step more steps)) in
      step_checked device pdu step.kind step.line more doing rest first e w

  select_checked : (device : ℕ) (pdu : MmsPdu) (steps : List Step)
      → requested (request_of q.last rows peer doings.Select steps) ≡ says_pdu pdu
      → WritesSelectable rows peer device pdu → ⊥
  select_checked device pdu [] e w = absurd cc
  select_checked device pdu (step ∷ more) e w = by_kind step.kind step.line e
    where
      by_kind : (kind : StepKind) (line : ℕ)
          → requested (request_of q.last rows peer doings.Select
          (record { line = line; kind = kind } ∷ more)) ≡ says_pdu pdu → ⊥
      by_kind (kinds.Call call) line e = absurd cc
      by_kind (kinds.Operate own value) line e =
          call_unmeant rows peer device q.last (select_call rows peer own) refl
          (subst (WritesSelectable rows peer device) (sym (same_said _ pdu e)) w)
      by_kind (kinds.Wait reports) line e = absurd cc

  waits_checked : (count device : ℕ) (pdu : MmsPdu) (steps : List Step)
      → requested (request_of q.last rows peer (doings.Reports count) steps) ≡ says_pdu pdu → ⊥
  waits_checked count device pdu [] e = absurd cc
  waits_checked count device pdu (step ∷ more) e = by_kind step.kind step.line e
    where
      by_kind : (kind : StepKind) (line : ℕ)
          → requested (request_of q.last rows peer (doings.Reports count)
          (record { line = line; kind = kind } ∷ more)) ≡ says_pdu pdu → ⊥
      by_kind (kinds.Call call) line e = absurd cc
      by_kind (kinds.Operate own value) line e = absurd cc
      by_kind (kinds.Wait reports) line e = absurd cc

  -- of these tables, and of this peer
  at_peer : (doing : Doing) → q.agenda.play.doing ≡ doing
      → request_awaited script_acts q ≡ request_of q.last rows peer doing q.agenda.play.rest
  at_peer doing e =
      ap (λ (d : Doing). request_of q.last q.agenda.rows q.agenda.play.peer d q.agenda.play.rest) e
      ∙ ap (λ (r : CentreRows). request_of q.last r q.agenda.play.peer doing q.agenda.play.rest)
      rows_are
      ∙ ap (λ (n : ℕ). request_of q.last rows n doing q.agenda.play.rest) peer_is

  doing_checked : (doing : Doing) → q.agenda.play.doing ≡ doing
      → IsChecked rows peer past (an_exchange t (requested (request_awaited script_acts q)))
  doing_checked doings.Select is = λ device pdu e w.
      absurd (select_checked device pdu q.agenda.play.rest
      (ap requested (sym (at_peer doings.Select is)) ∙ e) w)
  doing_checked doings.Reply is = λ device pdu e w.
      reply_checked device pdu q.agenda.play.rest is refl
      (ap requested (sym (at_peer doings.Reply is)) ∙ e) w
  doing_checked (doings.Reports count) is = λ device pdu e w.
      absurd (waits_checked count device pdu q.agenda.play.rest
      (ap requested (sym (at_peer (doings.Reports count) is)) ∙ e))

concluded_unmeant : (rows : CentreRows) (peer device : ℕ)
    → WritesSelectable rows peer device pdus.Conclude → ⊥
concluded_unmeant rows peer device w = absurd (cc w.is)

module _ (rows : CentreRows) (peer : ℕ) (past : List Exchange) (p : Asker Scripted) (t : Arrival)
    (input : StackIn) (handed : stack_in t ≡ Some input) (stands : Stands rows peer past p)
    (q : Asker Scripted) (play : MayGoOn q) (rows_are : q.agenda.rows ≡ rows)
    (peer_is : q.agenda.play.peer ≡ peer) (guard : AwaitsWrite q → IsCheckedBack input p q) where
  awaiting_checked : (awaiting : Awaiting) → q.awaiting ≡ awaiting
      → IsChecked rows peer past (an_exchange t (said_awaiting awaiting q))
  awaiting_checked awaits.Association is = quiet_checked rows peer past t
  awaiting_checked awaits.Nothing is = quiet_checked rows peer past t
  awaiting_checked awaits.Conclusion is = λ device pdu e w.
      absurd (concluded_unmeant rows peer device
      (subst (WritesSelectable rows peer device) (sym (same_said pdus.Conclude pdu e)) w))
  awaiting_checked awaits.Release is = λ device pdu e w. absurd cc
  awaiting_checked awaits.Reply is = doing_checked rows peer past p t input handed stands q play
      rows_are peer_is is guard q.agenda.play.doing refl

-- ---- a message

-- what comes of a message, where the script goes on
record Exchanges (rows : CentreRows) (peer : ℕ) (past : List Exchange) (s : ClientState)
    (t : Arrival) : Type 0 where
  pub says : ScriptSaying
  pub octets : (asker_step script_acts t s).said
      ≡ answer_to s.role t ++ saying_octets (setup_after (s.told ++ t ∷ [])) says
  pub checked : IsChecked rows peer past (an_exchange t says)
  pub stands : (asker_step script_acts t s).state.end ≡ None
      → Stands rows peer (past ++ an_exchange t says ∷ []) (asker_step script_acts t s).state.asker

moved_asker : (q : Asker Scripted) (move : AskingMove) (s : ClientState)
    → (moved script_acts q move s).state.asker ≡ q
moved_asker q moves.Wait s = refl
moved_asker q moves.Say s = refl
moved_asker q (moves.End end) s = refl

module _ (rows : CentreRows) (peer : ℕ) (past : List Exchange) (s : ClientState) (t : Arrival)
    (stands : Stands rows peer past s.asker) where
  nothing_handed : stack_in t ≡ None → Exchanges rows peer past s t
  nothing_handed none = record {
    says = silence;
    octets = ap (λ (o : Option StackIn). answer_to s.role t
        ++ (handed_step script_acts o (with_told t s)).said) none;
    checked = quiet_checked rows peer past t;
    stands = λ e. record {
      play = subst MayGoOn (sym asker_is) stands.play;
      rows_are = ap (λ (p : Asker Scripted). p.agenda.rows) asker_is ∙ stands.rows_are;
      peer_is = ap (λ (p : Asker Scripted). p.agenda.play.peer) asker_is ∙ stands.peer_is;
      asks = subst (λ (p : Asker Scripted). p.awaiting ≡ awaits.Reply
          → Asks (past ++ an_exchange t silence ∷ []) p) (sym asker_is)
          (λ awaited. waits_on past s.asker t (stands.asks awaited));
    };
  }
    where
      asker_is : (asker_step script_acts t s).state.asker ≡ s.asker
      asker_is = ap
          (λ (o : Option StackIn). (handed_step script_acts o (with_told t s)).state.asker)
          none

  module _ (input : StackIn) (handed : stack_in t ≡ Some input) where
    abbrev q : Asker Scripted
    q = (input_heeded script_acts input s.asker).0

    abbrev move : AskingMove
    move = (input_heeded script_acts input s.asker).1

    play : MayGoOn q
    play = input-plays input s.asker stands.play

    rows_are : q.agenda.rows ≡ rows
    rows_are = (input_waits input s.asker).rows ∙ stands.rows_are

    peer_is : q.agenda.play.peer ≡ peer
    peer_is = (input_waits input s.asker).peer ∙ stands.peer_is

    move_checked : (m : AskingMove) → move ≡ m
        → IsChecked rows peer past (an_exchange t (said_behind m q))
    move_checked moves.Wait e = quiet_checked rows peer past t
    move_checked moves.Say e = awaiting_checked rows peer past s.asker t input handed stands q
        play rows_are peer_is (checked_before input s.asker e) q.awaiting refl
    move_checked (moves.End end) e = quiet_checked rows peer past t

    move_stands : (m : AskingMove) → move ≡ m
        → (moved script_acts q m (with_told t s)).state.end ≡ None
        → Stands rows peer (past ++ an_exchange t (said_behind m q) ∷ []) q
    move_stands moves.Wait e lasts = record {
      play = play;
      rows_are = rows_are;
      peer_is = peer_is;
      asks = λ reply.
          let same : q ≡ s.asker =
          subst (λ (m : AskingMove). StandsStill m s.asker q) e
          (input_waits input s.asker).same reply in
          let awaited : s.asker.awaiting ≡ awaits.Reply =
          sym (ap (λ (p : Asker Scripted). p.awaiting) same) ∙ reply in
          subst (Asks (past ++ an_exchange t silence ∷ [])) (sym same)
          (waits_on past s.asker t (stands.asks awaited));
    }
    move_stands moves.Say e lasts = record {
      play = play;
      rows_are = rows_are;
      peer_is = peer_is;
      asks = asks_reply past q t;
    }
    move_stands (moves.End end) e lasts = absurd cc

    input_handed : Exchanges rows peer past s t
    input_handed = record {
      says = said_behind move q;
      octets = ap (λ (o : Option StackIn). answer_to s.role t
          ++ (handed_step script_acts o (with_told t s)).said) handed
          ∙ ap (λ (l : List ℕ). answer_to s.role t ++ l)
          (sym (moved_octets q move (with_told t s)));
      checked = move_checked move refl;
      stands = λ lasts.
          let state_is : (asker_step script_acts t s).state
          ≡ (moved script_acts q move (with_told t s)).state =
          ap (λ (o : Option StackIn). (handed_step script_acts o (with_told t s)).state) handed in
          subst (Stands rows peer (past ++ an_exchange t (said_behind move q) ∷ []))
          (sym (ap (λ (x : ClientState). x.asker) state_is
          ∙ moved_asker q move (with_told t s)))
          (move_stands move refl
          (sym (ap (λ (x : ClientState). x.end) state_is) ∙ lasts));
    }

  exchange_of : Exchanges rows peer past s t
  exchange_of = by (stack_in t) refl
    where
      by : (handed : Option StackIn) → stack_in t ≡ handed → Exchanges rows peer past s t
      by None none = nothing_handed none
      by (Some input) handed = input_handed input handed

-- ---- messages in a row

abbrev AreChecked : CentreRows → ℕ → List Exchange → List Exchange → Type 0
AreChecked rows peer past [] = Unit {0}
AreChecked rows peer past (e ∷ more) =
    IsChecked rows peer past e × AreChecked rows peer (past ++ e ∷ []) more

abbrev messages_heard : List Exchange → List Arrival
messages_heard exchanges = map (λ (e : Exchange). e.heard) exchanges

record Exchanged (rows : CentreRows) (peer : ℕ) (past : List Exchange) (s : ClientState)
    (ms : List Message) (r : ClientStep) : Type 0 where
  pub exchanges : List Exchange
  pub front : List Message
  pub others : List Message
  pub are : ms ≡ front ++ others
  pub later : SaysLater (length s.told) s.role r.state.role
  pub heard_in : SpellInTurn (TellsNext r.state.role) s.told (messages_heard exchanges) front
  pub octets : r.said ≡ octets_exchanged r.state.role s.told exchanges
  pub checked : AreChecked rows peer past exchanges

-- no more is heard
unheard : (rows : CentreRows) (peer : ℕ) (past : List Exchange) (s : ClientState)
    (ms : List Message) (r : ClientStep) → r.state.role ≡ s.role → r.said ≡ []
    → Exchanged rows peer past s ms r
unheard rows peer past s ms r role said = record {
  exchanges = [];
  front = [];
  others = ms;
  are = refl;
  later = inl role;
  heard_in = tt;
  octets = said;
  checked = tt;
}

same_answer : (title : Option (List ℕ)) (one other : Option ℕ) (t : Arrival)
    → answer_to (calling title one) t ≡ answer_to (calling title other) t
same_answer title one other (asked r) = refl
same_answer title one other (confirmed c) = refl
same_answer title one other gone = refl
same_answer title one other (heard h) = refl

answer_later : (n : ℕ) (role other : Role) (t : Arrival) → SaysLater n role other
    → answer_to role t ≡ answer_to other t
answer_later n role other t (inl e) = ap (λ (r : Role). answer_to r t) (sym e)
answer_later n role other t (inr g) =
    ap (λ (r : Role). answer_to r t) g.was
    ∙ same_answer g.title None (Some g.count) t
    ∙ ap (λ (r : Role). answer_to r t) (sym g.is)

later_before : (n m : ℕ) (role other : Role) → n ≤ m → SaysLater m role other
    → SaysLater n role other
later_before n m role other le (inl e) = inl e
later_before n m role other le (inr g) = inr (record {
  title = g.title;
  count = g.count;
  was = g.was;
  is = g.is;
  late = omega (arith, g.late);
})

abbrev came : Arrival → Result Arrival StackFault
came t = Ok t

-- what a message of the transport has told
heard_told : (role : Role) (before : List Arrival) (place : ℕ) (octets : List ℕ) (t : Arrival)
    → arrival_by role before (tsdu place octets) ≡ came t
    → TellsNext role before t (tsdu place octets)
heard_told role before place octets t e =
    by (message (expecting_after role before) octets).reading
    (message_read (expecting_after role before) octets).found e
  where
    by : (r : Result Heard StackFault)
        → IfOk r (message (expecting_after role before) octets).says → arrival_heard r ≡ came t
        → TellsNext role before t (tsdu place octets)
    by (Err f) found e = absurd cc
    by (Ok h) found e =
        let same : heard h ≡ t = cc in
        subst (λ (t : Arrival). TellsNext role before t (tsdu place octets)) same found

next_told : (role : Role) (before : List Arrival) (t : Arrival) (m : Message)
    → arrival_by role before m ≡ came t → TellsNext role before t m
next_told role before t (asks q) e =
    let same : asked q ≡ t = cc in
    subst (λ (t : Arrival). TellsNext role before t (asks q)) same refl
next_told role before t (confirms d) e =
    let same : confirmed d ≡ t = cc in
    subst (λ (t : Arrival). TellsNext role before t (confirms d)) same refl
next_told role before t transport.gone e =
    let same : gone ≡ t = cc in
    subst (λ (t : Arrival). TellsNext role before t transport.gone) same tt
next_told role before t (tsdu place octets) e = heard_told role before place octets t e

module _ (rows : CentreRows) (peer : ℕ) (past : List Exchange) (s : ClientState) (m : Message)
    (ms : List Message) (next : ClientState → ClientStep) where
  -- a message more
  heard_more : (t : Arrival) → arrival_by s.role s.told m ≡ came t
      → (e : Exchanges rows peer past s t)
      → Exchanged rows peer (past ++ an_exchange t e.says ∷ [])
      (asker_step script_acts t s).state ms
      (next (asker_step script_acts t s).state)
      → Exchanged rows peer past s (m ∷ ms) (step_then (asker_step script_acts t s) next)
  heard_more t came_is e x =
      let st : ClientState = (asker_step script_acts t s).state in
      let end : Role = (next st).state.role in
      let told : st.told ≡ s.told ++ t ∷ [] = step-told script_acts t s in
      let longer : length s.told ≤ length st.told = omega (
        arith,
        ap length told,
        length-append s.told (t ∷ []),
      ) in
      let later : SaysLater (length s.told) s.role end =
      later-then (length s.told) s.role st.role end
      (step-later (length s.told) script_acts t s (omega arith))
      (later_before (length s.told) (length st.told) st.role end longer x.later) in
      let heard_is : arrival_by end s.told m ≡ came t =
      alike end s.role s.told m (expecting-later s.role end s.told later) ∙ came_is in
      let says : List ℕ = saying_octets (setup_after (s.told ++ t ∷ [])) e.says in
      record {
        exchanges = an_exchange t e.says ∷ x.exchanges;
        front = m ∷ x.front;
        others = x.others;
        are = ap (λ (l : List Message). m ∷ l) x.are;
        later = later;
        heard_in = (
          next_told end s.told t m heard_is,
          subst (λ (b : List Arrival).
              SpellInTurn (TellsNext end) b (messages_heard x.exchanges) x.front) told x.heard_in,
        );
        octets = ap (λ (l : List ℕ). l ++ (next st).said)
            (e.octets ∙ ap (λ (l : List ℕ). l ++ says)
            (answer_later (length s.told) s.role end t later))
            ∙ ap (λ (l : List ℕ). (answer_to end t ++ says) ++ l)
            (x.octets ∙ ap (λ (b : List Arrival). octets_exchanged end b x.exchanges) told);
        checked = (e.checked, x.checked);
      }

  message_heard : (r : Result Arrival StackFault) → arrival_by s.role s.told m ≡ r
      → Stands rows peer past s.asker
      → ((t : Arrival) → (e : Exchanges rows peer past s t)
      → Exchanged rows peer (past ++ an_exchange t e.says ∷ [])
      (asker_step script_acts t s).state ms
      (next (asker_step script_acts t s).state))
      → Exchanged rows peer past s (m ∷ ms) (message_step script_acts next s r)
  message_heard (Ok t) came_is stands rest =
      let e : Exchanges rows peer past s t = exchange_of rows peer past s t stands in
      heard_more t came_is e (rest t e)
  message_heard (Err f) came_is stands rest =
      unheard rows peer past s (m ∷ ms) (message_step script_acts next s (Err f)) refl refl

unless_heard : (rows : CentreRows) (peer : ℕ) (past : List Exchange) (s : ClientState)
    (ms : List Message) (r : ClientStep) (end : Option (AskEnd Checkback)) → s.end ≡ end
    → (s.end ≡ None → Exchanged rows peer past s ms r)
    → Exchanged rows peer past s ms (unless_ended end s r)
unless_heard rows peer past s ms r None e goes = goes e
unless_heard rows peer past s ms r (Some end) e goes =
    unheard rows peer past s ms (silent s) refl refl

end_heard : (rows : CentreRows) (peer : ℕ) (past : List Exchange) (s : ClientState)
    (broken : Option StackFault) → Exchanged rows peer past s [] (end_step broken s)
end_heard rows peer past s None = unheard rows peer past s [] (silent s) refl refl
end_heard rows peer past s (Some f) =
    unheard rows peer past s [] (end_step (Some f) s) refl refl

exchanged_from : (rows : CentreRows) (peer : ℕ) (broken : Option StackFault) (ms : List Message)
    (past : List Exchange) (s : ClientState) → (s.end ≡ None → Stands rows peer past s.asker)
    → Exchanged rows peer past s ms (asker_from script_acts broken ms s)
exchanged_from rows peer broken [] past s stands =
    unless_heard rows peer past s [] (end_step broken s) s.end refl
    (λ lasts. end_heard rows peer past s broken)
exchanged_from rows peer broken (m ∷ ms) past s stands =
    unless_heard rows peer past s (m ∷ ms)
    (message_step script_acts (asker_from script_acts broken ms) s
    (arrival_by s.role s.told m)) s.end refl
    (λ lasts.
    message_heard rows peer past s m ms (asker_from script_acts broken ms)
    (arrival_by s.role s.told m) refl (stands lasts)
    (λ t e. exchanged_from rows peer broken ms (past ++ an_exchange t e.says ∷ [])
    (asker_step script_acts t s).state e.stands))

-- ---- all octets

checked_at : (rows : CentreRows) (peer : ℕ) (past before after : List Exchange) (e : Exchange)
    → AreChecked rows peer past (before ++ e ∷ after) → IsChecked rows peer (past ++ before) e
checked_at rows peer past [] after e all =
    subst (λ (l : List Exchange). IsChecked rows peer l e) (sym (append-nil past)) all.0
checked_at rows peer past (b ∷ before) after e all =
    subst (λ (l : List Exchange). IsChecked rows peer l e) (append_assoc past (b ∷ []) before)
    (checked_at rows peer (past ++ b ∷ []) before after e all.1)

-- conclude was said after so many messages, or not
record IsCalling (title : Option (List ℕ)) (role : Role) : Type 0 where
  pub concluded : Option ℕ
  pub is : role ≡ calling title concluded

abbrev title_or : Option (List ℕ) → Role → Option (List ℕ)
title_or other called = other
title_or other (calling title said) = title

calling_later : (title : Option (List ℕ)) (role : Role) → SaysLater 0 (calling title None) role
    → IsCalling title role
calling_later title role (inl e) = record { concluded = None; is = e }
calling_later title role (inr g) = record {
  concluded = Some g.count;
  is = g.is ∙ ap (λ (name : Option (List ℕ)). calling name (Some g.count))
      (sym (ap (title_or title) g.was));
}

-- the octets begin with all their messages
starts_with_all : (octets : List ℕ)
    → StartsWith sorts.Calling octets (messages_of (stream_in sorts.Calling octets).messages)
starts_with_all octets = by (stream_in sorts.Calling octets).end refl
  where
    by : (end : End) → (stream_in sorts.Calling octets).end ≡ end
        → StartsWith sorts.Calling octets (messages_of (stream_in sorts.Calling octets).messages)
    by (left count) is =
        let said = left_says sorts.Calling octets count is in
        said_front sorts.Calling octets said.0
        (messages_of (stream_in sorts.Calling octets).messages) said.1
    by (stopped f) is =
        stopped_front sorts.Calling octets (messages_of (stream_in sorts.Calling octets).messages) f
        (stopped_stops sorts.Calling octets f is)

abbrev called_first : List ℕ
called_first = connection_request_octets 1

-- whatever octets have come
pub says_checked : (rows : CentreRows) (script : Script) (octets : List ℕ) → IsScript rows script
    → SaysChecked rows script octets (client_of rows script octets).said
unfolding asker_behind
says_checked rows script octets lawful =
    let all : List Message = messages_of (stream_in sorts.Calling octets).messages in
    let broken : Option StackFault = broken_at_end (stream_in sorts.Calling octets).end in
    let start : ClientState =
    asker_start script_acts (title_of rows script) (scripted rows script) in
    let title : Option (List ℕ) = title_of rows script in
    let x : Exchanged rows script.peer [] start all (asker_from script_acts broken all start) =
    exchanged_from rows script.peer broken all [] start (λ lasts. record {
      play = script_plays rows script lawful;
      rows_are = refl;
      peer_is = refl;
      asks = λ awaited. absurd cc;
    }) in
    let role : IsCalling title (asker_from script_acts broken all start).state.role =
    calling_later title (asker_from script_acts broken all start).state.role x.later in
    let starts : StartsWith sorts.Calling octets (x.front ++ x.others) =
    subst (StartsWith sorts.Calling octets) x.are (starts_with_all octets) in
    record {
      exchanges = x.exchanges;
      messages = x.front;
      starts = front_front sorts.Calling octets x.front x.others starts;
      concluded = role.concluded;
      heard = subst (λ (r : Role). Tell r (messages_heard x.exchanges) x.front) role.is x.heard_in;
      is = ap (λ (l : List ℕ). called_first ++ l) x.octets
          ∙ ap (λ (r : Role). called_first ++ octets_exchanged r [] x.exchanges) role.is;
      checked = λ before after e is.
          checked_at rows script.peer [] before after e
          (subst (AreChecked rows script.peer []) is x.checked);
    }
