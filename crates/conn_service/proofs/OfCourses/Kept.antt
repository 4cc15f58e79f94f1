-- A connection serves from its beginning on, and with what its link gives, whatever other seats do.
use Rattle.std.proofs.Common.{◌≡◌, ℕ, false, List, [], ◌∷◌, ◌++◌, Option, None}
use Rattle.std.proofs.Common.{refl, sym, ap, subst, ◌∙◌, reverse}
use Rattle.std.proofs.lemmas.Bool.{false≢true}
use Rattle.stack_assoc.specs.Arrivals.{Arrival}
use Rattle.bilateral.specs.Rows.{CentreRows}
use Rattle.tase_views.specs.declared.event.EventKind.{EventKind}
use Rattle.tase_views.specs.History.{Past}
use Rattle.tase_conn.specs.Map.Inputs.{Item, IsLinkInput, text_given, link_has_ended}
use Rattle.tase_conn.specs.Map.Turns.{Turn}
use Rattle.tase_conn.specs.Map.Out.{early_octets}
use Rattle.tase_conn.specs.Map.Sent.{events_by}
use Rattle.tase_conn.specs.declared.stage.PendingEvent.TheVariants as askeds
use Rattle.tase_conn.specs.declared.stage.Progress.{Progress}
use Rattle.tase_conn.specs.declared.stage.Progress.TheVariants as progresses
use Rattle.tase_conn.specs.declared.stage.Stage.{Stage}
use Rattle.tase_conn.specs.declared.stage.Stage.TheVariants as stages
use Rattle.tase_conn.specs.Talking.{Talking}
use Rattle.tase_conn.specs.Places.{ConnStandsAt, Reach, has_begun}
use Rattle.tase_conn.specs.Taken.{TakesIn}
use Rattle.conn_service.specs.Courses.Serving.{AreOthers, IsWaiting, SaysEarly, SaysOpen, SaysBy, Serves, IsAllSaid}
use Rattle.conn_service.specs.Courses.Serving.{IsSaidButOwed}
use Rattle.conn_service.proofs.OfCourses.Seats.{others_none, others_seat, others_sent, others_opened, goes_at}
use Rattle.conn_service.proofs.OfCourses.Seats.{closed_still}
use Rattle.conn_service.proofs.OfCourses.TurnLists.{one_item_more}

-- ---- at the beginning

unbegun : (stage : Stage) → false ≡ has_begun stage → stage ≡ stages.Early
unbegun stages.Early e = refl
unbegun (stages.Open peer detail) e = absurd (false≢true e)
unbegun (stages.Closed peer) e = absurd (false≢true e)

pub begun_serves : (rows : CentreRows) (past : Past) (who : ℕ) (v : Talking)
    → events_by who past ≡ [] → ConnStandsAt rows [] [] [] v
    → v.progress ≡ progresses.Running askeds.Nothing → Serves rows past who [] [] None v
begun_serves rows past who v none stands p =
    let r = goes_at stands p in
    let early = unbegun v.stage (ap (λ (x : Reach). x.begun) r.reached) in
    record {
      told = [];
      turns = [];
      input = tt;
      stands = stands;
      waits = subst (λ (x : Progress). IsWaiting x None) (sym p) tt;
      answered = [];
      are = refl;
      asked = ap (λ (es : List EventKind). reverse es) none;
      says = subst (λ (x : Stage). SaysBy x v.progress rows past who [] [] [] []) (sym early)
          (subst (λ (x : Progress). SaysBy stages.Early x rows past who [] [] [] []) (sym p)
          (none, refl));
    }

-- ---- with an item more

early_more : (progress : Progress) (rows : CentreRows) (items : List Item) (item : Item)
    (told : List Arrival) (answered : List Turn) (octets : List ℕ)
    → SaysEarly progress rows items told answered octets
    → SaysEarly progress rows (items ++ item ∷ []) told answered octets
early_more (progresses.Running asked) rows items item told answered octets says = says
early_more progresses.Refused rows items item told answered octets says = absurd says
early_more (progresses.Leaving end asked) rows items item told answered octets says = absurd says
early_more (progresses.Ended end) rows items item told answered octets says =
    one_item_more (λ text ended rest. octets ≡ early_octets rows text) items item answered says
early_more (progresses.Cut end) rows items item told answered octets says = absurd says

pub open_more : (rows : CentreRows) (past : Past) (who : ℕ) (items : List Item) (item : Item)
    (answered : List Turn) (octets : List ℕ) → SaysOpen rows past who items answered octets
    → SaysOpen rows past who (items ++ item ∷ []) answered octets
open_more rows past who items item answered octets says = record {
  key = says.key;
  seat = says.seat;
  octets = one_item_more (IsAllSaid rows past says.key octets) items item answered says.octets;
}

says_more : (stage : Stage) (progress : Progress) (rows : CentreRows) (past : Past) (who : ℕ)
    (items : List Item) (item : Item) (told : List Arrival) (answered : List Turn) (octets : List ℕ)
    → SaysBy stage progress rows past who items told answered octets
    → SaysBy stage progress rows past who (items ++ item ∷ []) told answered octets
says_more stages.Early progress rows past who items item told answered octets says =
    (says.0, early_more progress rows items item told answered octets says.1)
says_more (stages.Open peer detail) progress rows past who items item told answered octets says =
    open_more rows past who items item answered octets says
says_more (stages.Closed peer) progress rows past who items item told answered octets says =
    record {
      key = says.key;
      opened = says.opened;
      closed = says.closed;
      octets = one_item_more (IsSaidButOwed progress rows past says.key octets) items item answered
          says.octets;
    }

pub taken_serves : (rows : CentreRows) (past : Past) (who : ℕ) (items : List Item) (item : Item)
    (octets : List ℕ) (old new : Talking)
    → (s : Serves rows past who items octets None old) → IsLinkInput (items ++ item ∷ [])
    → ConnStandsAt rows (items ++ item ∷ []) s.told s.turns new → TakesIn old new
    → Serves rows past who (items ++ item ∷ []) octets None new
taken_serves rows past who items item octets old new s input stands takes =
    let all = items ++ item ∷ [] in
    let p : new.progress ≡ old.progress = ap (λ (v : Talking). v.progress) takes in
    let st : new.stage ≡ old.stage = ap (λ (v : Talking). v.stage) takes in
    record {
      told = s.told;
      turns = s.turns;
      input = input;
      stands = stands;
      waits = subst (λ (x : Progress). IsWaiting x None) (sym p) s.waits;
      answered = s.answered;
      are = s.are;
      asked = s.asked;
      says = subst (λ (x : Stage). SaysBy x new.progress rows past who all s.told s.answered octets)
          (sym st)
          (subst (λ (x : Progress). SaysBy old.stage x rows past who all s.told s.answered octets)
          (sym p) (says_more old.stage old.progress rows past who items item s.told s.answered
          octets s.says));
    }

-- ---- with entries of other seats

pub open_beside : (rows : CentreRows) (past others : Past) (who : ℕ) (items : List Item)
    (answered : List Turn) (octets : List ℕ) → AreOthers who others
    → SaysOpen rows past who items answered octets
    → SaysOpen rows (others ++ past) who items answered octets
open_beside rows past others who items answered octets a says =
    let key = says.key in
    record {
      key = key;
      seat = others_seat who others past a ∙ says.seat;
      octets = λ more i rest t.
          let before = says.octets more i rest t in
          let same = others_sent rows who others past key (text_given (items ++ more))
          (link_has_ended (items ++ more)) a says.seat in
          (before.0 ∙ sym same.0, same.1 ∙ before.1);
    }

says_beside : (stage : Stage) (progress : Progress) (rows : CentreRows) (past others : Past)
    (who : ℕ) (items : List Item) (told : List Arrival) (answered : List Turn) (octets : List ℕ)
    → AreOthers who others → SaysBy stage progress rows past who items told answered octets
    → SaysBy stage progress rows (others ++ past) who items told answered octets
says_beside stages.Early progress rows past others who items told answered octets a says =
    (others_none who others past a ∙ says.0, says.1)
says_beside (stages.Open peer detail) progress rows past others who items told answered octets a
    says =
    open_beside rows past others who items answered octets a says
says_beside (stages.Closed peer) progress rows past others who items told answered octets a says =
    let key = says.key in
    record {
      key = key;
      opened = others_opened who others past a ∙ says.opened;
      closed = (closed_still rows key others past [] false says.closed).0;
      octets = λ more i rest t. says.octets more i rest t
          ∙ sym (closed_still rows key others past (text_given (items ++ more))
          (link_has_ended (items ++ more)) says.closed).1;
    }

pub others_serve : (rows : CentreRows) (past others : Past) (who : ℕ) (items : List Item)
    (octets : List ℕ) (waiting : Option EventKind) (v : Talking)
    → Serves rows past who items octets waiting v → AreOthers who others
    → Serves rows (others ++ past) who items octets waiting v
others_serve rows past others who items octets waiting v s a = record {
  told = s.told;
  turns = s.turns;
  input = s.input;
  stands = s.stands;
  waits = s.waits;
  answered = s.answered;
  are = s.are;
  asked = ap (λ (es : List EventKind). reverse es) (others_none who others past a) ∙ s.asked;
  says = says_beside v.stage v.progress rows past others who items s.told s.answered octets a
      s.says;
}
