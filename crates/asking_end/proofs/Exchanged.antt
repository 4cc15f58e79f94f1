-- A calling end whose peer answers each call of its agenda, then its conclude, then its finish.
use Rattle.std.proofs.Common.{◌≡◌, ℕ, zero, suc, ◌+◌, ◌<◌, Bool, true, List, [], ◌∷◌, ◌++◌}
use Rattle.std.proofs.Common.{Option, Some, None, refl, sym, ap, ◌∙◌, subst, arith, append_assoc}
use Rattle.std.proofs.Common.{append-nil}
use Rattle.std.specs.Prelude.{if◌then◌else◌}
use Rattle.std.proofs.lemmas.Bool.{eq-eqb}
use Rattle.tpkt_cotp.specs.Written.{wire}
use Rattle.mms_services.specs.declared.pdu.MmsPdu.{MmsPdu}
use Rattle.mms_services.specs.declared.pdu.MmsPdu.TheVariants as pdus
use Rattle.stack_assoc.specs.declared.wire.setup.AssociationSetup.{AssociationSetup}
use Rattle.stack_assoc.specs.declared.messages.heard.Connecting.{Connecting}
use Rattle.stack_assoc.specs.declared.messages.heard.Heard.TheVariants as heards
use Rattle.stack_assoc.specs.declared.input.StackIn.TheVariants as inputs
use Rattle.stack_assoc.specs.Arrivals.{Arrival, confirmed, heard, calling, first_in, connect_in}
use Rattle.stack_assoc.specs.Arrivals.{or_else}
use Rattle.stack_assoc.specs.Expectations.{setup_after, setup_by, size_by}
use Rattle.stack_assoc.specs.Wire.Setups.{cut_size}
use Rattle.stack_assoc.specs.Wire.Tsdus.{connect_tsdu}
use Rattle.tase_views.specs.declared.reply.ReplyKind.{ReplyKind}
use Rattle.tase_conn.specs.Map.Out.{said}
use Rattle.tase_conn.specs.Map.Replied.{pdu_of_reply, reply_in, answered_number}
use Rattle.asking_end.specs.declared.next.Next.{Next}
use Rattle.asking_end.specs.declared.next.Next.TheVariants as nexts
use Rattle.asking_end.specs.declared.end.AskEnd.TheVariants as ends
use Rattle.asking_end.specs.declared.asker.Awaiting.TheVariants as awaits
use Rattle.asking_end.specs.declared.asker.Asker.{Asker}
use Rattle.asking_end.specs.Agendas.{AgendaActs}
use Rattle.asking_end.specs.Asking.{AskTurn, at_call, went_on, is_awaited, number_awaited}
use Rattle.asking_end.specs.Asking.{move_unawaited, answered, reply_heeded}
use Rattle.asking_end.specs.Hearings.{input_heeded, replied_heeded, input_shown, pdu_shown}
use Rattle.asking_end.specs.Hearings.{reply_shown}
use Rattle.asking_end.specs.Sayings.{pdu_said, finish_said}
use Rattle.asking_end.specs.Askers.{AskerState, AskerStep, asker_start, asker_step}
use Rattle.asking_end.specs.Askers.{asker_steps, moved_by, step_then}
use Rattle.asking_end.specs.Exchanges.{Admission, admitted, number_at, reply_heard, answers_heard}
use Rattle.asking_end.specs.Exchanges.{agenda_behind, shown_behind, wanted_by, AsksSoOften}
use Rattle.asking_end.specs.Exchanges.{request_at, said_behind, FinishesBy}

-- ---- no connect comes to a calling end

still_none : (o more other : Option Connecting) → or_else o more ≡ None → (more ≡ None → other ≡ None)
    → or_else o other ≡ None
still_none None more other e next = next e
still_none (Some c) more other e next = absurd cc

none_behind : (told : List Arrival) (t : Arrival) → first_in connect_in told ≡ None
    → connect_in t ≡ None → first_in connect_in (told ++ (t ∷ [])) ≡ None
none_behind [] t e f = ap (λ (o : Option Connecting). or_else o None) f
none_behind (x ∷ told) t e f =
    still_none (connect_in x) (first_in connect_in told) (first_in connect_in (told ++ (t ∷ []))) e
    (λ rest. none_behind told t rest f)

setup_is : (a : Admission) (told : List Arrival) → first_in connect_in told ≡ None
    → setup_after (admitted a told) ≡ setup_after (admitted a [])
setup_is a told e = ap (setup_by (size_by (Some a.confirm.parameters.size))) e

-- ---- one reply

module _ {A E I : Type 0} (acts : AgendaActs A E I) (agenda : A) (replies : ℕ → ReplyKind)
    (title : Option (List ℕ)) (a : Admission)
    (reply_again : (invoke : ℕ) (reply : ReplyKind)
    → reply_in (pdu_of_reply invoke reply) ≡ Some reply)
    (number_again : (invoke : ℕ) (reply : ReplyKind)
    → answered_number (pdu_of_reply invoke reply) ≡ Some invoke) where
  abbrev asker_at : ℕ → Asker A
  asker_at n = record {
    agenda = agenda_behind acts agenda replies n;
    last = number_at n;
    awaiting = awaits.Reply;
  }

  abbrev state_at : ℕ → List Arrival → AskerState A E
  state_at n told = record {
    asker = asker_at n;
    role = calling title None;
    told = admitted a told;
    end = None;
  }

  abbrev pdu_at : ℕ → MmsPdu
  pdu_at n = pdu_of_reply (number_at n) (replies n)

  abbrev shown_at : ℕ → List I
  shown_at n = acts.reply_shown (number_at n) (replies n) (agenda_behind acts agenda replies n)

  awaited_here : (n : ℕ) → is_awaited (number_awaited (asker_at n)) (Some (number_at n)) ≡ true
  awaited_here n = eq-eqb (number_at n) (number_at n) refl

  heeded_at : (n : ℕ) → input_heeded acts (inputs.Pdu (pdu_at n)) (asker_at n)
      ≡ went_on (agenda_behind acts agenda replies (suc n)) (wanted_by acts agenda replies n)
      (asker_at n)
  heeded_at n =
      let other : AskTurn A E = (asker_at n, move_unawaited (Some (number_at n))) in
      ap (λ (r : Option ReplyKind). replied_heeded acts (pdu_at n) r (asker_at n))
      (reply_again (number_at n) (replies n))
      ∙ ap (λ (k : Option ℕ). reply_heeded acts k (replies n) (asker_at n))
      (number_again (number_at n) (replies n))
      ∙ ap (λ (b : Bool). if b then answered acts (replies n) (asker_at n) else other)
      (awaited_here n)

  shown_is : (n : ℕ) → input_shown acts (inputs.Pdu (pdu_at n)) (asker_at n) ≡ shown_at n
  shown_is n =
      ap (λ (r : Option ReplyKind). pdu_shown acts (pdu_at n) r (asker_at n))
      (reply_again (number_at n) (replies n))
      ∙ ap (λ (k : Option ℕ). reply_shown acts k (replies n) (asker_at n))
      (number_again (number_at n) (replies n))
      ∙ ap (λ (b : Bool). if b then shown_at n else []) (awaited_here n)

  -- by what the agenda wants
  step_by : (n : ℕ) (told : List Arrival) (next : Next E)
      → wanted_by acts agenda replies n ≡ next
      → asker_step acts (reply_heard replies n) (state_at n told)
      ≡ record (moved_by acts
      (went_on (agenda_behind acts agenda replies (suc n)) next (asker_at n))
      (state_at n (told ++ (reply_heard replies n ∷ [])))) { shown = shown_at n }
  step_by n told next wants =
      let s = state_at n (told ++ (reply_heard replies n ∷ [])) in
      let turn : AskTurn A E =
      went_on (agenda_behind acts agenda replies (suc n)) next (asker_at n) in
      ap (λ (m : AskTurn A E). record (moved_by acts m s) {
        shown = input_shown acts (inputs.Pdu (pdu_at n)) (asker_at n);
      }) (heeded_at n ∙ ap (λ (w : Next E).
      went_on (agenda_behind acts agenda replies (suc n)) w (asker_at n)) wants)
      ∙ ap (λ (items : List I). record (moved_by acts turn s) { shown = items }) (shown_is n)

  -- ---- all replies, the conclude's answer and the finish's

  -- behind the last of them
  record Finishes (n more last : ℕ) (told : List Arrival) (step : AskerStep A E I)
      : Type 0 where
    told_is : step.state.told ≡ admitted a (told ++ answers_heard replies n more)
    ends : step.state.end ≡ Some ends.Finished
    stands : step.state.asker.agenda ≡ agenda_behind acts agenda replies (suc last)
    shown : shown_behind acts agenda replies n ++ step.shown
        ≡ shown_behind acts agenda replies (suc last)
    says : step.said ≡ said_behind acts agenda replies (setup_after (admitted a [])) n more

  last_answers : (n : ℕ) (told : List Arrival) → wanted_by acts agenda replies n ≡ nexts.Conclude
      → first_in connect_in told ≡ None
      → Finishes n 0 n told (asker_steps acts (answers_heard replies n 0) (state_at n told))
  last_answers n told concludes none =
      let t = reply_heard replies n in
      let c = heard (heards.Pdu pdus.Concluded) in
      let d = heard heards.Disconnect in
      let setup = setup_after (admitted a []) in
      let first = none_behind told t none refl in
      let second = none_behind (told ++ (t ∷ [])) c first refl in
      subst (λ (s : AskerStep A E I). Finishes n 0 n told
      (step_then s (asker_steps acts (c ∷ d ∷ [])))) (sym (step_by n told nexts.Conclude concludes))
      (record {
        told_is =
            ap (admitted a)
            (append_assoc (told ++ (t ∷ [])) (c ∷ []) (d ∷ [])
            ∙ append_assoc told (t ∷ []) (c ∷ d ∷ []));
        ends = refl;
        stands = refl;
        shown = ap (λ (items : List I). shown_behind acts agenda replies n ++ items)
            (append-nil (shown_at n));
        says =
            ap (λ (at : AssociationSetup). said at pdus.Conclude
            ++ (finish_said (setup_after (admitted a ((told ++ (t ∷ [])) ++ (c ∷ [])))) ++ []))
            (setup_is a (told ++ (t ∷ [])) first)
            ∙ ap (λ (octets : List ℕ). said setup pdus.Conclude ++ octets)
            (append-nil (finish_said (setup_after (admitted a ((told ++ (t ∷ [])) ++ (c ∷ [])))))
            ∙ ap finish_said (setup_is a ((told ++ (t ∷ [])) ++ (c ∷ [])) second));
      })

  all_answers : (n more last : ℕ) (told : List Arrival) → n + more ≡ last
      → ((k : ℕ) → k < last → wanted_by acts agenda replies k ≡ nexts.Ask)
      → wanted_by acts agenda replies last ≡ nexts.Conclude → first_in connect_in told ≡ None
      → Finishes n more last told (asker_steps acts (answers_heard replies n more) (state_at n told))
  all_answers n zero last told is asks concludes none =
      let same : n ≡ last = omega (arith, is) in
      let here : wanted_by acts agenda replies n ≡ nexts.Conclude =
      ap (wanted_by acts agenda replies) same ∙ concludes in
      subst (λ (l : ℕ). Finishes n 0 l told
      (asker_steps acts (answers_heard replies n 0) (state_at n told))) same
      (last_answers n told here none)
  all_answers n (suc more) last told is asks concludes none =
      let t = reply_heard replies n in
      let setup = setup_after (admitted a []) in
      let behind = told ++ (t ∷ []) in
      let first = none_behind told t none refl in
      let next = all_answers (suc n) more last behind (omega (arith, is)) asks concludes first in
      let request = request_at acts agenda replies (suc n) in
      let rest = asker_steps acts (answers_heard replies (suc n) more) (state_at (suc n) behind) in
      subst (λ (s : AskerStep A E I). Finishes n (suc more) last told
      (step_then s (asker_steps acts (answers_heard replies (suc n) more))))
      (sym (step_by n told nexts.Ask (asks n (omega (arith, is)))))
      (record {
        told_is = next.told_is
            ∙ ap (admitted a) (append_assoc told (t ∷ []) (answers_heard replies (suc n) more));
        ends = next.ends;
        stands = next.stands;
        shown = sym (append_assoc (shown_behind acts agenda replies n) (shown_at n) rest.shown)
            ∙ next.shown;
        says =
            ap (λ (at : AssociationSetup). pdu_said at request ++ rest.said)
            (setup_is a behind first)
            ∙ ap (λ (octets : List ℕ). pdu_said setup request ++ octets) next.says;
      })

  -- ---- from the begin

  -- the transport stands
  abbrev waiting : AskerState A E
  waiting = record {
    asker = at_call agenda;
    role = calling title None;
    told = confirmed a.confirm ∷ [];
    end = None;
  }

  abbrev connect_octets : List ℕ
  connect_octets = wire (cut_size a.confirm.parameters.size) (connect_tsdu title)

  abbrev first_said : List ℕ
  first_said = pdu_said (setup_after (admitted a [])) (request_at acts agenda replies 0)

  confirmed_step : asker_step acts (confirmed a.confirm) (asker_start acts title agenda)
      ≡ record { state = waiting; said = connect_octets ++ []; shown = [] }
  confirmed_step = refl

  accepted_step : (acts.begun agenda).1 ≡ nexts.Ask
      → asker_step acts (heard (heards.Accept a.accept)) waiting
      ≡ record { state = state_at 0 []; said = first_said; shown = [] }
  accepted_step begins =
      let s : AskerState A E = record waiting { told = admitted a [] } in
      ap (λ (next : Next E). record (moved_by acts
      (went_on (acts.begun agenda).0 next (at_call agenda)) s) { shown = [] }) begins

  pub finishes_by : (count : ℕ) → AsksSoOften acts agenda replies count
      → FinishesBy acts agenda replies title a count
      (asker_steps acts (admitted a (answers_heard replies 0 count)) (asker_start acts title agenda))
  finishes_by count often =
      let answers = answers_heard replies 0 count in
      let t = heard (heards.Accept a.accept) in
      let rest = asker_steps acts answers (state_at 0 []) in
      let all = all_answers 0 count count [] (omega arith) often.asks often.concludes refl in
      let begun : asker_steps acts (admitted a answers) (asker_start acts title agenda)
      ≡ record {
        state = rest.state;
        said = (connect_octets ++ []) ++ (first_said ++ rest.said);
        shown = rest.shown;
      } =
      ap (λ (s : AskerStep A E I). step_then s (asker_steps acts (t ∷ answers))) confirmed_step
      ∙ ap (λ (s : AskerStep A E I). step_then
      (record { state = waiting; said = connect_octets ++ []; shown = [] })
      (λ _. step_then s (asker_steps acts answers))) (accepted_step often.begins) in
      subst (λ (s : AskerStep A E I). FinishesBy acts agenda replies title a count s) (sym begun)
      (record {
        hears = record { is = begun; told_is = all.told_is };
        ends = all.ends;
        stands = all.stands;
        shown = all.shown;
        says =
            ap (λ (front : List ℕ). front ++ (first_said ++ rest.said)) (append-nil connect_octets)
            ∙ ap (λ (others : List ℕ). connect_octets ++ (first_said ++ others)) all.says;
      })
