-- The answers of recv of a link, each with what the link had sent before it.
use Rattle.std.specs.Prelude.{Bool, true, false, ℕ, ◌+◌, List, ◌∷◌, [], ◌++◌, take, eqb, Option}
use Rattle.std.specs.Prelude.{Some, unwrap_or}
use Rattle.outside.specs.declared.sink.WriteEnd.{WriteEnd}
use Rattle.outside.specs.declared.sink.WriteEnd.TheVariants.{Took, Failed as SendFailed}
use Rattle.outside.specs.declared.links.link.Recv.{Recv}
use Rattle.outside.specs.declared.links.link.Recv.TheVariants.{Got, Idle, End, Failed}

-- what recv gave: these octets; nothing yet; that nothing more will come; a fault
pub data Received : Type 0 where
  piece : List ℕ → Received
  idle : Received
  ended : Received
  failed : Received

-- what a call of recv gave, of its buffer
abbrev pub received_of : Recv → List ℕ → Received
received_of (Got count) buf = piece (take count buf)
received_of Idle buf = idle
received_of End buf = ended
received_of Failed buf = failed

-- an answer of recv
pub record LinkAnswer : Type 0 where
  pub received : Received
  -- how many octets send had taken before it
  pub sent : ℕ
  -- whether the call of send or recv directly before it was a send that took nothing
  pub after_nothing : Bool

-- the answers of recv, in order, and what the next one will have with it
pub record LinkAnswers : Type 0 where
  pub answers : List LinkAnswer
  -- how many octets send has taken
  pub sent : ℕ
  -- whether the last call of send or recv was a send that took nothing
  pub after_nothing : Bool

-- the next answer
abbrev pub next_answer : Received → LinkAnswers → LinkAnswer
next_answer received before =
    record { received = received; sent = before.sent; after_nothing = before.after_nothing }

-- one answer more
abbrev pub with_answer : Received → LinkAnswers → LinkAnswers
with_answer received before = record {
  answers = before.answers ++ next_answer received before ∷ [];
  sent = before.sent;
  after_nothing = false;
}

-- how many octets a send took
abbrev pub count_taken : WriteEnd → ℕ
count_taken (Took count) = count
count_taken SendFailed = 0

-- whether a send took nothing now
abbrev pub took_nothing : WriteEnd → Bool
took_nothing (Took count) = eqb count 0
took_nothing SendFailed = false

-- whether a send took nothing now or failed
abbrev pub took_none : WriteEnd → Bool
took_none (Took count) = eqb count 0
took_none SendFailed = true

-- one send more
abbrev pub with_send : WriteEnd → LinkAnswers → LinkAnswers
with_send end before = record {
  answers = before.answers;
  sent = before.sent + count_taken end;
  after_nothing = took_nothing end;
}

-- how many answers recv has given, and how many it had given at the first close, where one came
pub record LinkClose : Type 0 where
  pub answered : ℕ
  pub closed : Option ℕ

-- one answer more
abbrev pub answered_more : LinkClose → LinkClose
answered_more before = record { answered = before.answered + 1; closed = before.closed }

-- a close, which counts where it is the first
abbrev pub with_close : LinkClose → LinkClose
with_close before = record {
  answered = before.answered;
  closed = Some (unwrap_or before.closed before.answered);
}
