-- What a client says and shows over messages that come behind others.
use Rattle.std.proofs.Common.{◌≡◌, ℕ, List, [], ◌∷◌, ◌++◌, Option, Some, None, refl, sym, ap, subst}
use Rattle.std.proofs.Common.{◌∙◌, append_assoc}
use Rattle.std.proofs.lemmas.List.{append-nil}
use Rattle.std.proofs.lemmas.Grind.{flat_map-append}
use Rattle.tpkt_cotp.specs.Places.{stream_from}
use Rattle.stack_assoc.specs.Arrivals.{Arrival, asked, confirmed, gone, heard}
use Rattle.stack_assoc.specs.Handing.{stack_in, handed_out, answer_to, answers_to}
use Rattle.stack_assoc.specs.declared.input.StackIn.{StackIn}
use Rattle.asking_end.specs.Agendas.{AgendaActs}
use Rattle.asking_end.specs.Askers.{AskerState, AskerStep, silent, step_then, unless_ended}
use Rattle.asking_end.specs.Askers.{input_step, handed_step, with_told, asker_step, asker_steps}
use Rattle.asking_end.specs.Askers.{asker_start, HasHeard, asker_behind}
use Rattle.asking_end.specs.Hearings.{input_heeded}
use Rattle.asking_end.specs.declared.end.AskEnd.{AskEnd}
use Rattle.asking_end.proofs.HeardSteps.{step-told, moved-told, with_step, a_step, joined}
use Rattle.asking_end.proofs.HeardSteps.{then_silent, not_longer, opened, unless_open}

-- ---- messages behind others

pub steps_on : {A E I : Type 0} (acts : AgendaActs A E I) (later ts : List Arrival)
    (s : AskerState A E)
    → (asker_steps acts ts s).state.told ≡ s.told ++ ts
    → asker_steps acts (ts ++ later) s
    ≡ step_then (asker_steps acts ts s) (asker_steps acts later)
steps_on acts later [] s told = refl
steps_on {A = A} {E = E} {I = I} acts later (t ∷ ts) s told =
    let r : AskerStep A E I = asker_step acts t s in
    let y : AskerStep A E I = step_then r (asker_steps acts ts) in
    let next : AskerState A E → AskerStep A E I = asker_steps acts later in
    let heard_is : r.state.told ≡ s.told ++ t ∷ [] = step-told acts t s in
    opened s s.end (step_then r (asker_steps acts (ts ++ later))) y next
    (s.told ++ t ∷ ts) told (not_longer s.told t ts)
    (λ e.
    let told_is : y.state.told ≡ s.told ++ t ∷ ts =
    subst (λ (o : Option (AskEnd E)). (unless_ended o s y).state.told ≡ s.told ++ t ∷ ts) e told in
    let rest : asker_steps acts (ts ++ later) r.state
    ≡ step_then (asker_steps acts ts r.state) (asker_steps acts later) =
    steps_on acts later ts r.state
    (told_is ∙ sym (append_assoc s.told (t ∷ []) ts)
    ∙ ap (λ (b : List Arrival). b ++ ts) (sym heard_is)) in
    ap (with_step r) rest
    ∙ joined r (asker_steps acts ts r.state)
    (asker_steps acts later (asker_steps acts ts r.state).state))

-- what was heard, and these messages behind it
pub heard_on : {A E I : Type 0} (acts : AgendaActs A E I) (title : Option (List ℕ)) (agenda : A)
    (told later : List Arrival)
    (step next : AskerStep A E I) → HasHeard acts title agenda told step
    → asker_steps acts later step.state ≡ next → next.state.told ≡ step.state.told ++ later
    → HasHeard acts title agenda (told ++ later) (with_step step next)
heard_on {A = A} {E = E} {I = I} acts title agenda told later step next h is said = record {
  is = steps_on acts later told (asker_start acts title agenda)
      (ap (λ (r : AskerStep A E I). r.state.told) h.is ∙ h.told_is)
      ∙ ap (λ (r : AskerStep A E I). step_then r (asker_steps acts later)) h.is
      ∙ ap (with_step step) is;
  told_is = said ∙ ap (λ (b : List Arrival). b ++ later) h.told_is;
}

-- ---- messages of which nothing is handed out

abbrev pub quiet_step : {A E I : Type 0} → List Arrival → AskerState A E → AskerStep A E I
quiet_step told s = record {
  state = record s { told = s.told ++ told };
  said = answers_to s.role told;
  shown = [];
}

quiet_more : {A E I : Type 0} (acts : AgendaActs A E I) (t : Arrival) (ts : List Arrival)
    (s : AskerState A E)
    → asker_step acts t s ≡ quiet_step (t ∷ []) s → s.end ≡ None
    → asker_steps acts ts (with_told t s) ≡ quiet_step ts (with_told t s)
    → asker_steps acts (t ∷ ts) s ≡ quiet_step (t ∷ ts) s
quiet_more {A = A} {E = E} {I = I} acts t ts s one e rest =
    unless_open s s.end (step_then (asker_step acts t s) (asker_steps acts ts)) e
    ∙ ap (λ (r : AskerStep A E I). step_then r (asker_steps acts ts)) one
    ∙ ap (with_step {I = I} (quiet_step (t ∷ []) s)) rest
    ∙ ap (λ (told : List Arrival). a_step {I = I} (record s { told = told })
    ((answer_to s.role t ++ []) ++ answers_to s.role ts) []) (append_assoc s.told (t ∷ []) ts)
    ∙ ap (λ (said : List ℕ). a_step {I = I} (record s { told = s.told ++ t ∷ ts })
    (said ++ answers_to s.role ts) []) (append-nil (answer_to s.role t))

pub quiet_steps : {A E I : Type 0} (acts : AgendaActs A E I) (told : List Arrival)
    (s : AskerState A E)
    → handed_out told ≡ [] → s.end ≡ None → asker_steps acts told s ≡ quiet_step told s
quiet_steps {I = I} acts [] s quiet e =
    ap (λ (told : List Arrival). a_step {I = I} (record s { told = told }) [] [])
    (sym (append-nil s.told))
quiet_steps acts (asked r ∷ ts) s quiet e =
    quiet_more acts (asked r) ts s refl e (quiet_steps acts ts (with_told (asked r) s) quiet e)
quiet_steps acts (confirmed c ∷ ts) s quiet e =
    quiet_more acts (confirmed c) ts s refl e
    (quiet_steps acts ts (with_told (confirmed c) s) quiet e)
quiet_steps acts (gone ∷ ts) s quiet e = absurd cc
quiet_steps acts (heard h ∷ ts) s quiet e = absurd cc

-- ---- messages of which the last one hands something out

-- what is handed out is heard, behind these messages
abbrev pub input_steps : {A E I : Type 0} → AgendaActs A E I → StackIn → List Arrival → AskerState A
    E → AskerStep A E I
input_steps {A = A} {E = E} {I = I} acts input later s =
    let r : AskerStep A E I = input_step acts input (record s { told = s.told ++ later }) in
    a_step r.state (answers_to s.role later ++ r.said) r.shown

abbrev told_step : {A E I : Type 0} → AgendaActs A E I → Option StackIn → Arrival → AskerState A E
    → AskerStep A E I
told_step {A = A} {E = E} {I = I} acts handed t s =
    let r : AskerStep A E I = handed_step acts handed (with_told t s) in
    a_step r.state (answer_to s.role t ++ r.said) r.shown

last_step : {A E I : Type 0} (acts : AgendaActs A E I) (t : Arrival) (input : StackIn)
    (s : AskerState A E)
    → stack_in t ≡ Some input → s.end ≡ None
    → asker_steps acts (t ∷ []) s ≡ told_step acts (Some input) t s
last_step acts t input s is e =
    unless_open s s.end (step_then (asker_step acts t s) (asker_steps acts [])) e
    ∙ then_silent (asker_step acts t s) (silent (asker_step acts t s).state) refl
    ∙ ap (λ (handed : Option StackIn). told_step acts handed t s) is

-- what it says and shows is joined
abbrev input_at : {A E I : Type 0} → AgendaActs A E I → StackIn → AskerState A E → List ℕ → List ℕ
    → List Arrival → AskerStep A E I
input_at {A = A} {E = E} {I = I} acts input s first last told =
    let r : AskerStep A E I = input_step acts input (record s { told = told }) in
    a_step r.state (first ++ (last ++ r.said)) r.shown

pub handed_steps : {A E I : Type 0} (acts : AgendaActs A E I) (passed : List Arrival)
    (last : Arrival) (input : StackIn)
    (s : AskerState A E) → handed_out passed ≡ [] → stack_in last ≡ Some input → s.end ≡ None
    → asker_steps acts (passed ++ last ∷ []) s ≡ input_steps acts input (passed ++ last ∷ []) s
handed_steps {A = A} {E = E} {I = I} acts passed last input s quiet is e =
    let q : AskerStep A E I = quiet_step passed s in
    let calm : asker_steps acts passed s ≡ q = quiet_steps acts passed s quiet e in
    let first : List ℕ = answers_to s.role passed in
    let answer : List ℕ = answer_to s.role last in
    let all : List Arrival = s.told ++ (passed ++ last ∷ []) in
    let r : AskerStep A E I = input_step acts input (record s { told = all }) in
    let answers : answers_to s.role (passed ++ last ∷ []) ≡ first ++ answer =
    flat_map-append (answer_to s.role) passed (last ∷ [])
    ∙ ap (λ (l : List ℕ). first ++ l) (append-nil answer) in
    steps_on acts (last ∷ []) passed s (ap (λ (r : AskerStep A E I). r.state.told) calm)
    ∙ ap (λ (r : AskerStep A E I). step_then r (asker_steps acts (last ∷ []))) calm
    ∙ ap (with_step q) (last_step acts last input q.state is e)
    ∙ ap (input_at acts input s first answer) (append_assoc s.told passed (last ∷ []))
    ∙ ap (λ (said : List ℕ). a_step r.state said r.shown) (sym (append_assoc first answer r.said))
    ∙ ap (λ (said : List ℕ). a_step r.state (said ++ r.said) r.shown) (sym answers)

pub input-told : {A E I : Type 0} (acts : AgendaActs A E I) (input : StackIn) (later : List Arrival)
    (s : AskerState A E)
    → (input_steps acts input later s).state.told ≡ s.told ++ later
input-told acts input later s = moved-told acts (input_heeded acts input s.asker).0
    (input_heeded acts input s.asker).1 (record s { told = s.told ++ later })

-- ---- before anything has come

pub nothing_behind : {A E I : Type 0} (acts : AgendaActs A E I) (title : Option (List ℕ))
    (agenda : A)
    → asker_behind acts title agenda [] ≡ silent (asker_start acts title agenda)
unfolding asker_behind stream_from
nothing_behind acts title agenda = refl
