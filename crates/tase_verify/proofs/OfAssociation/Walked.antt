-- The octets of events, one event more.
use Rattle.std.proofs.Common.{◌≡◌, List, [], ◌∷◌, ◌++◌, refl, sym, ap, ◌∙◌, append_assoc}
use Rattle.std.proofs.lemmas.List.{append-nil}
use Rattle.tase_conn.specs.Map.Turns.{Turn}
use Rattle.tase_conn.specs.Map.Out.{Talk}
use Rattle.tase_verify.specs.declared.association.answered.AnsweredEvent.{AnsweredEvent}
use Rattle.tase_verify.specs.Association.Saying.{added, turns_behind_event, octets_by_events}
use Rattle.std.specs.Prelude.{ℕ}

-- what is left of the turns behind these events
abbrev pub turns_behind_all : List Turn → List AnsweredEvent → List Turn
turns_behind_all turns [] = turns
turns_behind_all turns (told ∷ others) =
    turns_behind_all (turns_behind_event told.event turns) others

pub left_more : (turns : List Turn) (answered : List AnsweredEvent) (last : AnsweredEvent)
    → turns_behind_all turns (answered ++ last ∷ [])
    ≡ turns_behind_event last.event (turns_behind_all turns answered)
left_more turns [] last = refl
left_more turns (told ∷ answered) last =
    left_more (turns_behind_event told.event turns) answered last

pub octets_more : (talk : Talk) (turns : List Turn) (answered : List AnsweredEvent)
    (last : AnsweredEvent)
    → octets_by_events talk turns (answered ++ last ∷ [])
    ≡ octets_by_events talk turns answered ++ added talk (turns_behind_all turns answered) last
octets_more talk turns [] last = append-nil (added talk turns last)
octets_more talk turns (told ∷ answered) last =
    let rest = turns_behind_event told.event turns in
    ap (λ (os : List ℕ). added talk turns told ++ os) (octets_more talk rest answered last)
    ∙ sym (append_assoc (added talk turns told) (octets_by_events talk rest answered)
    (added talk (turns_behind_all rest answered) last))
