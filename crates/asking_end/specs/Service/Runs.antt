-- An asking end that is run over a terminal: a link, and a sink for what it shows.
use Rattle.std.specs.Prelude.{◌≡◌, ℕ, ◌+◌, ◌≤◌, Bool, true, false, List, [], ◌∷◌, ◌++◌, ◌⊎◌}
use Rattle.std.specs.Prelude.{length, Option, Some, None, option_map}
use Rattle.outside.specs.Sink.{SinkTold, Appends, AppendsAll}
use Rattle.outside.specs.Links.LinkAnswers.{LinkAnswer, LinkAnswers, piece, ended}
use Rattle.outside.specs.Links.Links.{LinkTold}
use Rattle.node_server.specs.Links.GivenItems.{MayGoOn}
use Rattle.node_server.specs.Links.LinkUses.{UsesLink}
use Rattle.asking_end.specs.declared.end.AskEnd.{AskEnd}
use Rattle.asking_end.specs.declared.end.AskEnd.TheVariants as ends
use Rattle.asking_end.specs.declared.calling.CallingEnd.{CallingEnd}
use Rattle.asking_end.specs.declared.service.run_end.RunEnd.{RunEnd}
use Rattle.asking_end.specs.declared.service.run_end.RunEnd.TheVariants as runs
use Rattle.asking_end.specs.Agendas.{AgendaActs}
use Rattle.asking_end.specs.Askers.{asker_of}
use Rattle.asking_end.specs.Callers.{AskerStands}
use Rattle.asking_end.specs.Service.LinkOctets.{received_octets, octets_given}
use Rattle.asking_end.specs.Service.Sends.{IsLastRefused}
use Rattle.asking_end.specs.Service.Terminals.{TerminalTold}

-- ---- when it receives

-- by the octets that were received before an answer of recv the asking end hadn't ended, and the
-- link had taken no more than it says for these, and all of it, but where the call directly before
-- it was a send that took nothing
pub record IsTimely {A E : Type 0} (acts : AgendaActs A E ℕ) (title : Option (List ℕ)) (agenda : A)
    (first : ℕ) (octets : List ℕ)
    (answer : LinkAnswer) : Type 0 where
  pub lasts : (asker_of acts title agenda octets).state.end ≡ None
  pub most : answer.sent ≤ first + length (asker_of acts title agenda octets).said
  pub sent : (answer.after_nothing ≡ true)
      ⊎ (answer.sent ≡ first + length (asker_of acts title agenda octets).said)

-- it is no end and no fault
abbrev pub LeavesMore : LinkAnswer → Type 0
LeavesMore answer = MayGoOn answer.received

-- each of these answers came so, behind these octets, and none behind an end or a fault
abbrev pub AreTimely : {A E : Type 0} → AgendaActs A E ℕ → Option (List ℕ) → A → ℕ → List ℕ → List
    LinkAnswer → Type 0
AreTimely acts title agenda first octets [] = Unit {0}
AreTimely acts title agenda first octets (answer ∷ more) = IsTimely acts title agenda first octets
    answer
    × ((more ≡ []) ⊎ LeavesMore answer)
    × AreTimely acts title agenda first (octets ++ received_octets answer.received) more

-- when each of these answers came, the sink had taken all that the asking end shows for the octets
-- that were received before it
abbrev pub AreShown : {A E : Type 0} → AgendaActs A E ℕ → Option (List ℕ) → A → SinkTold → List ℕ
    → List LinkAnswer → List SinkTold
    → Type 0
AreShown acts title agenda first octets [] [] = Unit {0}
AreShown acts title agenda first octets [] (sink ∷ sinks) = ⊥
AreShown acts title agenda first octets (answer ∷ more) [] = ⊥
AreShown acts title agenda first octets (answer ∷ more) (sink ∷ sinks) =
    AppendsAll first sink (asker_of acts title agenda octets).shown
    × AreShown acts title agenda first (octets ++ received_octets answer.received) more sinks

-- ---- how it ends

abbrev pub is_link_fault : {E : Type 0} → RunEnd E → Bool
is_link_fault runs.LinkFault = true
is_link_fault end = false

abbrev pub is_sink_fault : {E : Type 0} → RunEnd E → Bool
is_sink_fault runs.SinkFault = true
is_sink_fault end = false

-- whether all that the asking end says and shows is owed: not after a fault or want of memory
abbrev pub owes_asked : {E : Type 0} → AskEnd E → Bool
owes_asked ends.Memory = false
owes_asked end = true

abbrev pub owes_all : {E : Type 0} → RunEnd E → Bool
owes_all (runs.Ended end) = owes_asked end
owes_all end = false

-- where all is owed nothing is unsaid, or the last send took nothing
abbrev pub MayBeUnsaid : Bool → List ℕ → LinkTold → Type 0
MayBeUnsaid true unsaid link = (unsaid ≡ []) ⊎ IsLastRefused link
MayBeUnsaid false unsaid link = Unit {0}

-- where all is owed nothing is unshown
abbrev pub MayBeUnshown : Bool → List ℕ → Type 0
MayBeUnshown true unshown = unshown ≡ []
MayBeUnshown false unshown = Unit {0}

-- the last answer was that nothing more will come
pub record IsEndGiven (given : List LinkAnswer) : Type 0 where
  pub before : List LinkAnswer
  pub last : LinkAnswer
  pub is : given ≡ before ++ last ∷ []
  pub ends : last.received ≡ ended

-- the asking end has ended so by what was received, or it hadn't ended where nothing more came;
-- want of
-- memory is no end that is received
abbrev pub IsAskEnd : {E : Type 0} → AskEnd E → Option (AskEnd E) → List LinkAnswer → Type 0
IsAskEnd ends.Memory by given = Unit {0}
IsAskEnd end by given =
    (by ≡ Some end) ⊎ ((by ≡ None) × (end ≡ ends.PeerEnd) × IsEndGiven given)

abbrev pub IsRunEnd : {E : Type 0} → RunEnd E → Option (AskEnd E) → List LinkAnswer → Type 0
IsRunEnd (runs.Ended end) by given = IsAskEnd end by given
IsRunEnd end by given = Unit {0}

-- Memory was wanting for the piece that came last, which is lost: what was taken and shown is all
-- that the asking end says and shows over the octets before it.
pub record IsPieceLost {A E : Type 0} (acts : AgendaActs A E ℕ) (title : Option (List ℕ))
    (agenda : A) (given : List LinkAnswer)
    (taken lines : List ℕ) (gone : LinkTold) : Type 0 where
  pub before : List LinkAnswer
  pub last : LinkAnswer
  pub octets : List ℕ
  pub is : given ≡ before ++ last ∷ []
  pub came : last.received ≡ piece octets
  pub unsaid : List ℕ
  pub said : (asker_of acts title agenda (octets_given before)).said ≡ taken ++ unsaid
  pub all_said : MayBeUnsaid true unsaid gone
  pub shown : (asker_of acts title agenda (octets_given before)).shown ≡ lines

-- ---- all of it

-- an asking end that calls by this title, and began with this agenda, is run over a terminal up to
-- this end, at which it stands so
pub record TalksOver {A E : Type 0} (acts : AgendaActs A E ℕ) (title : Option (List ℕ)) (agenda : A)
    (before after : TerminalTold)
    (first : LinkAnswers) (end : RunEnd E) (c : CallingEnd A E) : Type 0 where
  -- what the link had heard then
  pub now : LinkAnswers
  -- what recv gave, what send took, and what was shown
  pub given : List LinkAnswer
  pub taken : List ℕ
  pub lines : List ℕ
  pub uses : UsesLink before.link after.link first now given taken (is_link_fault end)
  pub appends : Appends before.sink after.sink lines (is_sink_fault end)
  pub timely : AreTimely acts title agenda first.sent [] given
  -- what the sink told at each recv
  pub moments : List SinkTold
  pub told : after.moments ≡ option_map (λ told. told ++ moments) before.moments
  pub written : AreShown acts title agenda before.sink [] given moments
  -- what was taken and shown is all that the asking end says and shows over the octets that were
  -- received, but for these
  pub unsaid : List ℕ
  pub said : (asker_of acts title agenda (octets_given given)).said ≡ taken ++ unsaid
  pub all_said : MayBeUnsaid (owes_all end) unsaid after.link
  pub unshown : List ℕ
  pub shown : (asker_of acts title agenda (octets_given given)).shown ≡ lines ++ unshown
  pub all_shown : MayBeUnshown (owes_all end) unshown
  pub is : IsRunEnd end (asker_of acts title agenda (octets_given given)).state.end given
  -- by want of memory it ends only at a piece that it has received
  pub memory : end ≡ runs.Ended ends.Memory
      → IsPieceLost acts title agenda given taken lines after.link
  -- where it ends by neither a fault nor want of memory, it stands at all octets that were received
  pub stands : owes_all end ≡ true → AskerStands acts title agenda (octets_given given) c
