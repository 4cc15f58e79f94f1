-- What the words of the load run's scenario ask for.
use Rattle.std.proofs.Common.{◌≡◌, ℕ, ◌+◌, ◌<◌, ◌≤◌, leb, ◌∷◌, Some, None}
use Rattle.std.proofs.Common.{refl, ap, ◌∙◌, arith}
use Rattle.std.specs.Prelude.{decimal, option_and_then, option_map}
use Rattle.std.proofs.lemmas.Bool.{cond-true, le-leb}
use Rattle.plain_text.specs.Numbers.{if_passes}
use Rattle.plain_text.proofs.Decimal.{number_in-of_decimal}
use Rattle.bilateral.specs.Rows.{place_of_peer}
use Rattle.tase_views.specs.declared.call.CallKind.{CallKind}
use Rattle.tase_views.specs.declared.event.EventKind.TheVariants.{Open, Request, Take, Update, Tick}
use Rattle.texts.specs.Events.CallWords.{call_words}
use Rattle.tase_replay.specs.CallIn.{call_of_words}
use Rattle.tase_replay.specs.Lines.{entry_by, seat_in}
use Rattle.tase_replay.specs.Links.{asking_of, an_event}
use Rattle.tase_replay.proofs.CallRead.{call_in-spelled}
use Rattle.commands.specs.Load.Rows.{load_rows}
use Rattle.commands.proofs.OfLoad.LoadPast.{value_of_round}
use Rattle.commands.proofs.OfLoad.LoadCalls.{peer_found, update_read, tick_read, define_call}
use Rattle.commands.proofs.OfLoad.LoadCalls.{next_set_call, enable_call, define_spelled}
use Rattle.commands.proofs.OfLoad.LoadCalls.{next_set_spelled, enable_spelled}
use Rattle.commands.proofs.OfLoad.LoadLines.{open_words, say_words, update_words, tick_words}
use Rattle.commands.proofs.OfLoad.LoadLines.{take_words}

-- the seat of peer k
seat_read : (k : ℕ) → k < 64 → seat_in (decimal (k + 1)) ≡ Some (k + 1)
seat_read k known =
    ap (λ n. option_and_then (if_passes (leb 1))
    (option_and_then (if_passes (λ m. leb m 4294967295)) n))
    (number_in-of_decimal (k + 1) (omega (arith, known)))
    ∙ ap (option_and_then (if_passes (leb 1)))
    (cond-true (leb (k + 1) 4294967295) (Some (k + 1)) None
    (le-leb (k + 1) 4294967295 (omega (arith, known))))
    ∙ cond-true (leb 1 (k + 1)) (Some (k + 1)) None (le-leb 1 (k + 1) (omega arith))

pub open_asked : (k : ℕ) → k < 64
    → asking_of load_rows (open_words k) ≡ Some (an_event (entry_by (Open k) (k + 1)))
open_asked k known =
    ap (λ seat. option_map an_event (option_and_then (λ w. option_map
    (λ peer. entry_by (Open peer) w) (place_of_peer load_rows (75 ∷ decimal k))) seat))
    (seat_read k known)
    ∙ ap (λ peer. option_map an_event (option_map (λ p. entry_by (Open p) (k + 1)) peer))
    (peer_found k known)

say_asked : (k : ℕ) (call : CallKind) → k < 64 → call_of_words (call_words call) ≡ Some call
    → asking_of load_rows (say_words k call) ≡ Some (an_event (entry_by (Request call) (k + 1)))
say_asked k call known read =
    ap (λ seat. option_map an_event (option_and_then (λ w. option_map
    (λ c. entry_by (Request c) w) (call_of_words (call_words call))) seat))
    (seat_read k known)
    ∙ ap (λ c. option_map an_event (option_map (λ found. entry_by (Request found) (k + 1)) c)) read

pub define_asked : (k : ℕ) → k < 64
    → asking_of load_rows (say_words k (define_call k))
    ≡ Some (an_event (entry_by (Request (define_call k)) (k + 1)))
define_asked k known =
    let spelled = define_spelled k known in
    say_asked k (define_call k) known
    ((call_in-spelled (call_words (define_call k)) (define_call k)).1
    (record { spelled = refl; lawful = spelled.lawful; textual = spelled.textual }, refl))

pub next_set_asked : (k : ℕ) → k < 64
    → asking_of load_rows (say_words k (next_set_call k))
    ≡ Some (an_event (entry_by (Request (next_set_call k)) (k + 1)))
next_set_asked k known =
    let spelled = next_set_spelled k known in
    say_asked k (next_set_call k) known
    ((call_in-spelled (call_words (next_set_call k)) (next_set_call k)).1
    (record { spelled = refl; lawful = spelled.lawful; textual = spelled.textual }, refl))

pub enable_asked : (k : ℕ) → k < 64
    → asking_of load_rows (say_words k (enable_call k))
    ≡ Some (an_event (entry_by (Request (enable_call k)) (k + 1)))
enable_asked k known =
    let spelled = enable_spelled k known in
    say_asked k (enable_call k) known
    ((call_in-spelled (call_words (enable_call k)) (enable_call k)).1
    (record { spelled = refl; lawful = spelled.lawful; textual = spelled.textual }, refl))

pub update_asked : (m r : ℕ) → m < 2000 → r ≤ 2000
    → asking_of load_rows (update_words m r)
    ≡ Some (an_event (entry_by (Update m (value_of_round r)) 0))
update_asked m r below few =
    ap (λ event. option_map an_event (option_map (λ e. entry_by e 0) event))
    (update_read m r below few)

pub tick_asked : (now : ℕ) → now ≤ 2000000
    → asking_of load_rows (tick_words now) ≡ Some (an_event (entry_by (Tick now) 0))
tick_asked now early =
    ap (λ event. option_map an_event (option_map (λ e. entry_by e 0) event)) (tick_read now early)

pub take_asked : (k : ℕ) → k < 64
    → asking_of load_rows (take_words k) ≡ Some (an_event (entry_by Take (k + 1)))
take_asked k known =
    ap (λ seat. option_map an_event (option_map (entry_by Take) seat)) (seat_read k known)
