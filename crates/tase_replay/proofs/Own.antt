-- The scene behind a line of its own, and behind one of a link.
use Rattle.std.proofs.Common.{◌≡◌, ℕ, Bool, true, List, [], ◌∷◌, ◌++◌, reverse, Option, get_or}
use Rattle.std.proofs.Common.{Some, None, sym, ap, subst, ◌∙◌}
use Rattle.std.specs.Prelude.{if◌then◌else◌, option_map}
use Rattle.std.proofs.lemmas.Option.{get_or_from_slice_get}
use Rattle.bilateral.specs.Rows.{CentreRows}
use Rattle.conn_service.specs.TaseConn.Talking.{Talking}
use Rattle.tase_views.specs.Setup.{Setup}
use Rattle.tase_views.specs.declared.event.Entry.{Entry}
use Rattle.tase_views.specs.Outcomes.{refusal_of}
use Rattle.conn_service.proofs.NodeCore.OfNode.Outcomes.{reverse_push}
use Rattle.tase_replay.specs.declared.entries.LineRequest.{LineRequest}
use Rattle.tase_replay.specs.declared.links.Seats.{Seats}
use Rattle.tase_replay.specs.Links.{SeatItem, asking_in, asking_seen, items_of}
use Rattle.tase_replay.specs.Play.{Scene, LineMeaning, entry_meaning, scene_by}
use Rattle.tase_replay.specs.Play.{bad}
use Rattle.tase_replay.specs.Play.{received, is_unfit, linked_by, served_item}
use Rattle.conn_service.specs.TaseConn.PeerEnd.{peer_end}
use Rattle.tase_replay.specs.Standing.{IsScene, NotesUse, Finds, Awaits, LinkGoesOn}
use Rattle.tase_replay.proofs.Entering.{accepted_so}
use Rattle.tase_replay.proofs.Seating.{own_unlinked, own_sits}

-- behind an entry that the node takes
pub own_scene : (setup : Setup) (scene : Scene) (entry : Entry) (history now : List Entry)
    (old new : Seats) → IsScene setup.centre history scene old → NotesUse entry.who old true new
    → refusal_of setup scene.past entry.who entry.event ≡ None → now ≡ history ++ entry ∷ []
    → IsScene setup.centre now (scene_by scene (entry_meaning setup scene entry)) new
own_scene setup scene entry history now old new s n allowed grown =
    let own = own_unlinked setup.centre scene entry.who old new n s.sits in
    subst (λ (m : LineMeaning). IsScene setup.centre now (scene_by scene m) new)
    (sym (accepted_so setup scene entry None own allowed)) (record {
      past_is = ap (λ (p : List Entry). entry ∷ p) s.past_is ∙ sym (reverse_push history entry)
          ∙ ap reverse (sym grown);
      sits = own_sits setup.centre scene entry old new n s.sits;
    })

-- ---- any line that isn't skipped

-- what was read of it is what it asks
pub asked_so : (rows centre : CentreRows) (line : List ℕ) (found : Option LineRequest) (asked : LineRequest)
    → centre ≡ rows → found ≡ Some asked → option_map asking_seen found ≡ asking_in centre line
    → asking_in rows line ≡ Some (asking_seen asked)
asked_so rows centre line found asked e f is =
    ap (λ (r : CentreRows). asking_in r line) (sym e) ∙ sym is
    ∙ ap (λ (o : Option LineRequest). option_map asking_seen o) f

pub unasked_so : (rows centre : CentreRows) (line : List ℕ) (found : Option LineRequest)
    → centre ≡ rows → found ≡ None → option_map asking_seen found ≡ asking_in centre line
    → asking_in rows line ≡ None
unasked_so rows centre line found e f is =
    ap (λ (r : CentreRows). asking_in r line) (sym e) ∙ sym is
    ∙ ap (λ (o : Option LineRequest). option_map asking_seen o) f

-- a link's line, whose seat may not be used by one
pub received_bad : (setup : Setup) (scene : Scene) (given : SeatItem)
    → is_unfit given.who scene ≡ true → received setup scene given ≡ bad
received_bad setup scene given unfit =
    let items = items_of given.who scene.given ++ given.item ∷ [] in
    ap (λ (b : Bool). if b then bad else linked_by setup.centre scene given (peer_end setup.centre items)
    (served_item setup scene given) (served_item setup scene given).refusal) unfit

-- the connection of a seat at its place
pub goes_there : (rows : CentreRows) (scene : Scene) (who place : ℕ) (seats : Seats)
    (conn : Talking) → (a : Awaits rows scene seats who place)
    → conn ≡ get_or seats.conns.items place conn → LinkGoesOn rows scene who conn
goes_there rows scene who place seats conn a e =
    let same : get_or seats.conns.items place conn ≡ a.conn =
    get_or_from_slice_get seats.conns.items place a.conn conn a.there in
    subst (λ (v : Talking). LinkGoesOn rows scene who v) (sym (e ∙ same)) a.goes

-- what a seat has, where it was looked for by the rows of a centre
pub found_so : (rows centre : CentreRows) (scene : Scene) (who : ℕ) (seats : Seats)
    (found : Option ℕ) (place : ℕ) → centre ≡ rows → found ≡ Some place
    → Finds centre scene who seats found → Awaits rows scene seats who place
found_so rows centre scene who seats found place e f h =
    subst (λ (r : CentreRows). Awaits r scene seats who place) e
    (subst (λ (o : Option ℕ). Finds centre scene who seats o) f h)

pub none_so : (rows : CentreRows) (scene : Scene) (who : ℕ) (seats : Seats) (found : Option ℕ)
    → found ≡ None → Finds rows scene who seats found → is_unfit who scene ≡ true
none_so rows scene who seats found f h =
    subst (λ (o : Option ℕ). Finds rows scene who seats o) f h
