-- How the serving of a link begins.
use Rattle.std.proofs.Common.{◌≡◌, ℕ, false, List, [], ◌++◌}
use Rattle.std.proofs.Common.{Option, Some, None, IfSome, refl, sym, ap, subst, inl, inr}
use Rattle.std.specs.Prelude.{reverse, unwrap_or}
use Rattle.outside.specs.Links.LinkAnswers.{LinkAnswers}
use Rattle.outside.specs.Links.Links.{LinkTold}
use Rattle.share_turn.specs.Entries.{own}
use Rattle.tase_views.specs.declared.event.EventKind.{EventKind}
use Rattle.tase_conn.specs.Map.Linked.{link_octets}
use Rattle.tase_conn.specs.declared.stage.ConnEnd.TheVariants as conn_ends
use Rattle.tase_conn.specs.declared.stage.PendingEvent.TheVariants as askeds
use Rattle.tase_conn.specs.declared.stage.Progress.TheVariants as progresses
use Rattle.tase_conn.specs.Talking.{Talking, pending_of, IsResting}
use Rattle.tase_conn.specs.Places.{ConnStandsAt}
use Rattle.conn_service.specs.Courses.Serving.{Serves}
use Rattle.conn_service.proofs.OfCourses.Kept.{begun_serves}
use Rattle.conn_service.proofs.OfCourses.Seats.{none_open}
use Rattle.conn_service.specs.Sends.{close_of}
use Rattle.node_server.specs.declared.turn.turn_node.NodeSetup.{NodeSetup}
use Rattle.node_server.specs.Turn.Logged.{past_in}
use Rattle.node_server.specs.NodeCalls.{NodeLog}
use Rattle.node_server.proofs.OfSeats.Since.{events_none}
use Rattle.node_server.proofs.OfSeats.Peers.{fresh_peer}
use Rattle.node_server.specs.Links.ServedLinks.{ServesUpTo}
use Rattle.node_server.specs.Links.Turns.{IsInTurn}
use Rattle.node_server.proofs.OfLinks.Uses.{uses_none}

-- ---- the link

-- what it has heard, where it tells
abbrev heard_by : Option LinkAnswers → LinkAnswers
heard_by hearing = unwrap_or hearing (record { answers = []; sent = 0; after_nothing = false })

heard_so : (hearing : Option LinkAnswers) → IfSome hearing (λ h. h ≡ heard_by hearing)
heard_so None = tt
heard_so (Some h) = refl

module _ (setup : NodeSetup) (who : ℕ) (log : NodeLog) (link : LinkTold)
    (none : own who log ≡ []) where
  -- nothing was received yet, and memory was wanting
  pub none_given : ServesUpTo setup who log link link conn_ends.Memory
  none_given =
      let past = past_in log in
      let first : LinkAnswers = heard_by link.hearing in
      let silent = events_none who log none in record {
        given = [];
        taken = [];
        waiting = [];
        first = first;
        now = first;
        has_failed = false;
        uses = uses_none link first (heard_so link.hearing);
        failed = tt;
        acted = [];
        acted_is = inl refl;
        sends = record {
          events = inr (
            conn_ends.Memory,
            refl,
            record {
              later = [];
              before = past;
              past_is = refl;
              others = [];
              asks_are = ap (λ (es : List EventKind). reverse es ++ []) (sym silent);
              whole = tt;
              cause = tt;
              closed = ap (λ found. close_of found) (sym (none_open past who silent));
              none_open = none_open past who silent;
            },
          );
          said = record {
            first = [];
            parting = [];
            are = refl;
            front = record { others = link_octets setup.centre past who []; are = refl };
            aborts = record { others = _; are = refl };
          };
        };
        in_turn = tt;
        waits = inl refl;
      }

  -- the first turn may come
  pub begun_turn : (v : Talking) → ConnStandsAt setup.centre [] [] [] v → IsResting v
      → v.progress ≡ progresses.Running askeds.Nothing → pending_of v ≡ []
      → IsInTurn setup who log link link v
  begun_turn v stands resting running silent =
      let past = past_in log in
      let first : LinkAnswers = heard_by link.hearing in
      let quiet = events_none who log none in record {
        stands = record {
          way = record {
            given = [];
            taken = [];
            first = first;
            now = first;
            uses = uses_none link first (heard_so link.hearing);
            has_given = tt;
            serves = subst (λ (l : List ℕ). Serves setup.centre past who [] l None v) (sym silent)
                (begun_serves setup.centre past who v quiet stands running);
            in_turn = tt;
            running = running;
            peer = fresh_peer setup.centre past who v stands running quiet;
          };
          more = tt;
          resting = resting;
        };
        even = inl silent;
      }
