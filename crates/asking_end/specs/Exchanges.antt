-- A calling end whose peer answers each call of its agenda, then its conclude, then its finish:
-- message by message, what it hears and says.
use Rattle.std.specs.Prelude.{◌≡◌, ℕ, zero, suc, ◌<◌, List, [], ◌∷◌, ◌++◌, Option, Some}
use Rattle.std.specs.Prelude.{option_map}
use Rattle.tpkt_cotp.specs.declared.tpdu.ConnectConfirm.{ConnectConfirm}
use Rattle.tpkt_cotp.specs.Written.{wire}
use Rattle.mms_services.specs.declared.pdu.MmsPdu.{MmsPdu}
use Rattle.mms_services.specs.declared.pdu.MmsPdu.TheVariants as pdus
use Rattle.stack_assoc.specs.declared.wire.setup.AssociationSetup.{AssociationSetup}
use Rattle.stack_assoc.specs.declared.messages.heard.Accepting.{Accepting}
use Rattle.stack_assoc.specs.declared.messages.heard.Heard.TheVariants as heards
use Rattle.stack_assoc.specs.Arrivals.{Arrival, confirmed, heard}
use Rattle.stack_assoc.specs.Expectations.{setup_after}
use Rattle.stack_assoc.specs.Wire.Setups.{cut_size}
use Rattle.stack_assoc.specs.Wire.Tsdus.{connect_tsdu}
use Rattle.tase_views.specs.declared.reply.ReplyKind.{ReplyKind}
use Rattle.tase_conn.specs.Map.Out.{said}
use Rattle.tase_conn.specs.Map.Replied.{pdu_of_reply}
use Rattle.asking_end.specs.declared.next.Next.{Next}
use Rattle.asking_end.specs.declared.next.Next.TheVariants as nexts
use Rattle.asking_end.specs.declared.end.AskEnd.TheVariants as ends
use Rattle.asking_end.specs.Agendas.{AgendaActs}
use Rattle.asking_end.specs.Asking.{request_behind}
use Rattle.asking_end.specs.Sayings.{request_pdu, pdu_said, finish_said}
use Rattle.asking_end.specs.Askers.{AskerStep, HasHeard}

-- the messages by which an association comes to stand: the transport's and the peer's
pub record Admission : Type 0 where
  pub confirm : ConnectConfirm
  pub accept : Accepting

-- these, and others behind them
abbrev pub admitted : Admission → List Arrival → List Arrival
admitted a told = confirmed a.confirm ∷ heard (heards.Accept a.accept) ∷ told

-- the numbers of requests, that of the first at 0
abbrev pub number_at : ℕ → ℕ
number_at zero = request_behind 0
number_at (suc n) = request_behind (number_at n)

module _ (replies : ℕ → ReplyKind) where
  -- the answer to a request
  abbrev pub reply_heard : ℕ → Arrival
  reply_heard n = heard (heards.Pdu (pdu_of_reply (number_at n) (replies n)))

  -- the answers to the request at a place, to so many behind it, to the conclude and to the finish
  abbrev pub answers_heard : ℕ → ℕ → List Arrival
  answers_heard n zero =
      reply_heard n ∷ heard (heards.Pdu pdus.Concluded) ∷ heard heards.Disconnect ∷ []
  answers_heard n (suc more) = reply_heard n ∷ answers_heard (suc n) more

module _ {A E I : Type 0} (acts : AgendaActs A E I) (agenda : A) (replies : ℕ → ReplyKind) where
  -- the agenda behind so many replies, what has been shown, and what it wants by the next one
  abbrev pub agenda_behind : ℕ → A
  agenda_behind zero = (acts.begun agenda).0
  agenda_behind (suc n) = (acts.replied (number_at n) (replies n) (agenda_behind n)).0

  abbrev pub shown_behind : ℕ → List I
  shown_behind zero = []
  shown_behind (suc n) =
      shown_behind n ++ acts.reply_shown (number_at n) (replies n) (agenda_behind n)

  abbrev pub wanted_by : ℕ → Next E
  wanted_by n = (acts.replied (number_at n) (replies n) (agenda_behind n)).1

  -- it asks by the association that stands and by each of so many replies, and concludes by the next
  pub record AsksSoOften (count : ℕ) : Type 0 where
    pub begins : (acts.begun agenda).1 ≡ nexts.Ask
    pub asks : (k : ℕ) → k < count → wanted_by k ≡ nexts.Ask
    pub concludes : wanted_by count ≡ nexts.Conclude

  -- the request behind so many replies
  abbrev pub request_at : ℕ → Option MmsPdu
  request_at n = option_map (request_pdu (number_at n)) (acts.call (agenda_behind n))

  -- what is said behind the answer to the request at a place, where so many come behind it
  abbrev pub said_behind : AssociationSetup → ℕ → ℕ → List ℕ
  said_behind setup n zero = said setup pdus.Conclude ++ finish_said setup
  said_behind setup n (suc more) =
      pdu_said setup (request_at (suc n)) ++ said_behind setup (suc n) more

  -- all that is said behind the connect request of the transport, where so many requests come
  -- behind the first
  abbrev pub all_said : Option (List ℕ) → Admission → ℕ → List ℕ
  all_said title a count =
      let setup = setup_after (admitted a []) in
      wire (cut_size a.confirm.parameters.size) (connect_tsdu title)
      ++ (pdu_said setup (request_at 0) ++ said_behind setup 0 count)

  -- it has heard all answers, has shown what its agenda shows of the replies, has said each request
  -- once the one before was answered, and has finished
  pub record FinishesBy (title : Option (List ℕ)) (a : Admission) (count : ℕ)
      (step : AskerStep A E I) : Type 0 where
    pub hears : HasHeard acts title agenda (admitted a (answers_heard replies 0 count)) step
    pub ends : step.state.end ≡ Some ends.Finished
    pub stands : step.state.asker.agenda ≡ agenda_behind (suc count)
    pub shown : step.shown ≡ shown_behind (suc count)
    pub says : step.said ≡ all_said title a count
