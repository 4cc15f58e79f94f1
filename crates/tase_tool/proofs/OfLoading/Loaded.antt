-- The load run's scenario is taken to its end.
use Rattle.std.proofs.Common.{◌≡◌, ℕ, ◌+◌, ◌*◌, ◌%◌, ◌<◌, ◌≤◌, List, [], ◌∷◌, ◌++◌, refl, sym, ap}
use Rattle.std.proofs.Common.{subst, ◌∙◌, arith, append-nil, ◌==◌, Some}
use Rattle.std.specs.Prelude.{codes, decimal}
use Rattle.std.specs.List.{list_any}
use Rattle.plain_text.specs.Octets.{hex_text}
use Rattle.tase_views.specs.declared.event.Entry.{Entry}
use Rattle.tase_views.specs.declared.event.EventKind.TheVariants.{Open, Request, Take, Update, Tick}
use Rattle.tase_views.specs.declared.call.CallKind.{CallKind}
use Rattle.tase_views.specs.Setup.{Setup}
use Rattle.tase_views.specs.Weights.{weight}
use Rattle.texts.specs.Events.CallWords.{call_words}
use Rattle.tase_replay.specs.Lines.{entry_by}
use Rattle.tase_replay.specs.Links.{SeatItem, asking_of, an_event}
use Rattle.tase_replay.specs.Play.{Scene, first_scene, done, scenario_of}
use Rattle.commands.specs.declared.load.scenario.TheConstants.{MOST_ROUNDS}
use Rattle.commands.specs.Load.Generated.{each_below, load_open, load_define, load_next_set}
use Rattle.commands.specs.Load.Generated.{load_enable, load_opening, load_update, load_tick}
use Rattle.commands.specs.Load.Generated.{load_take, load_round, load_scenario, update_line}
use Rattle.commands.specs.Load.Rows.{load_rows}
use Rattle.commands.specs.Words.Words.{limit_of, no_options}
use Rattle.commands.proofs.OfLoad.LoadPast.{IsAt, IsTaken, at_first, at_more, value_of_round}
use Rattle.commands.proofs.OfLoad.LoadPast.{open_taken, request_taken, take_taken, update_taken}
use Rattle.commands.proofs.OfLoad.LoadPast.{tick_taken}
use Rattle.commands.proofs.OfLoad.LoadCalls.{define_call, next_set_call, enable_call, IsSpelled}
use Rattle.commands.proofs.OfLoad.LoadCalls.{define_spelled, next_set_spelled, enable_spelled}
use Rattle.commands.proofs.OfLoad.LoadLines.{line_of, say_words, open_clean, say_clean}
use Rattle.commands.proofs.OfLoad.LoadLines.{update_clean, tick_clean, take_clean, open-line}
use Rattle.commands.proofs.OfLoad.LoadLines.{define-line, next_set-line, enable-line, update-line}
use Rattle.commands.proofs.OfLoad.LoadLines.{tick-line, take-line}
use Rattle.commands.proofs.OfLoad.LoadWeights.{open_light, define_light, next_set_light}
use Rattle.commands.proofs.OfLoad.LoadWeights.{enable_light, update_light, tick_light, take_light}
use Rattle.tase_tool.specs.Saying.{setup_of}
use Rattle.tase_tool.proofs.OfLoading.Takes.{GoesOn, Takes, Takes-append, Takes-between}
use Rattle.tase_tool.proofs.OfLoading.Takes.{Takes-below, Takes-line}
use Rattle.tase_tool.proofs.OfLoading.Asked.{open_asked, define_asked, next_set_asked, enable_asked}
use Rattle.tase_tool.proofs.OfLoading.Asked.{update_asked, tick_asked, take_asked}

abbrev pub load_setup : Setup
load_setup = setup_of load_rows (limit_of no_options)

-- no link has given anything, and the history is that of a load run
record StandsAt (opened now most : ℕ) (scene : Scene) : Type 0 where
  given : scene.given ≡ []
  past : IsAt opened now most scene.past

stands_more : (opened now most more : ℕ) → most ≤ more → (scene : Scene)
    → StandsAt opened now most scene → StandsAt opened now more scene
stands_more opened now most more few scene here = record {
  given = here.given;
  past = at_more opened now most more scene.past few here.past;
}

goes_on : (opened now most : ℕ) (scene : Scene) (entry : Entry) → scene.given ≡ []
    → IsTaken load_setup scene.past entry opened now most
    → GoesOn load_setup (StandsAt opened now most) scene entry
goes_on opened now most scene entry given taken = record {
  apart = ap (λ (items : List SeatItem). list_any (λ item. item.who == entry.who) items) given;
  taken = taken.taken;
  behind = record { given = given; past = taken.behind };
}

-- a line by its text
by_text : (P Q : Scene → Type 0) (text line : List ℕ) → text ≡ line → Takes load_setup P line Q
    → Takes load_setup P text Q
by_text P Q text line same takes = subst (λ t. Takes load_setup P t Q) (sym same) takes

-- ---- lines of a peer

module _ (k : ℕ) (known : k < 64) (now most more : ℕ)
    (limit : more ≤ limit_of no_options) where
  open_takes : most + 30 ≤ more
      → Takes load_setup (StandsAt k now most) (load_open k) (StandsAt (k + 1) now more)
  open_takes few =
      by_text (StandsAt k now most) (StandsAt (k + 1) now more) (load_open k) _ (open-line k)
      (Takes-line load_setup (StandsAt k now most) (StandsAt (k + 1) now more) (codes "open")
      (decimal (k + 1) ∷ (75 ∷ decimal k) ∷ []) (entry_by (Open k) (k + 1))
      (open_clean k known) refl (open_asked k known)
      (λ scene here. goes_on (k + 1) now more scene (entry_by (Open k) (k + 1)) here.given
      (open_taken load_setup refl scene.past k now most more here.past limit known
      (omega (arith, few, open_light k known)))))

  say_takes : (call : CallKind) (text : List ℕ) → text ≡ line_of (say_words k call)
      → IsSpelled call
      → asking_of load_rows (say_words k call) ≡ Some (an_event (entry_by (Request call) (k + 1)))
      → most + weight (Request call) ≤ more
      → Takes load_setup (StandsAt (k + 1) now most) text (StandsAt (k + 1) now more)
  say_takes call text same spelled asked few =
      by_text (StandsAt (k + 1) now most) (StandsAt (k + 1) now more) text _ same
      (Takes-line load_setup (StandsAt (k + 1) now most) (StandsAt (k + 1) now more)
      (codes "say") (decimal (k + 1) ∷ call_words call) (entry_by (Request call) (k + 1))
      (say_clean k call known spelled) refl asked
      (λ scene here. goes_on (k + 1) now more scene (entry_by (Request call) (k + 1)) here.given
      (request_taken load_setup refl scene.past (k + 1) now most more here.past limit (k + 1) call
      (omega arith) (omega arith) few)))

  take_takes : most + 10 ≤ more
      → Takes load_setup (StandsAt 64 now most) (load_take k) (StandsAt 64 now more)
  take_takes few =
      by_text (StandsAt 64 now most) (StandsAt 64 now more) (load_take k) _ (take-line k)
      (Takes-line load_setup (StandsAt 64 now most) (StandsAt 64 now more) (codes "take")
      (decimal (k + 1) ∷ []) (entry_by Take (k + 1)) (take_clean k known) refl (take_asked k known)
      (λ scene here. goes_on 64 now more scene (entry_by Take (k + 1)) here.given
      (take_taken load_setup refl scene.past 64 now most more here.past limit (k + 1)
      (omega arith) (omega (arith, known)) (omega (arith, few, take_light)))))

-- all lines by which peer k is opened
opening_takes : (k : ℕ) → k < 64
    → Takes load_setup (StandsAt k 0 (5000 * k)) (load_opening k)
    (StandsAt (k + 1) 0 (5000 * (k + 1)))
opening_takes k known =
    let start = StandsAt k 0 (5000 * k) in
    let first = StandsAt (k + 1) 0 (5000 * k + 30) in
    let second = StandsAt (k + 1) 0 (5000 * k + 4530) in
    let third = StandsAt (k + 1) 0 (5000 * k + 4630) in
    let end = StandsAt (k + 1) 0 (5000 * (k + 1)) in
    Takes-append load_setup start third end (load_open k ++ load_define k ++ load_next_set k)
    (load_enable k)
    (Takes-append load_setup start second third (load_open k ++ load_define k) (load_next_set k)
    (Takes-append load_setup start first second (load_open k) (load_define k)
    (open_takes k known 0 (5000 * k) (5000 * k + 30) (omega (arith, known)) (omega arith))
    (say_takes k known 0 (5000 * k + 30) (5000 * k + 4530) (omega (arith, known)) (define_call k)
    (load_define k) (define-line k known) (define_spelled k known) (define_asked k known)
    (omega (arith, define_light k known))))
    (say_takes k known 0 (5000 * k + 4530) (5000 * k + 4630) (omega (arith, known))
    (next_set_call k) (load_next_set k) (next_set-line k known) (next_set_spelled k known)
    (next_set_asked k known) (omega (arith, next_set_light k known))))
    (say_takes k known 0 (5000 * k + 4630) (5000 * (k + 1)) (omega (arith, known))
    (enable_call k) (load_enable k) (enable-line k known) (enable_spelled k known)
    (enable_asked k known) (omega (arith, enable_light k known)))

-- ---- a round

module _ (before : ℕ) (early : before < MOST_ROUNDS) where
  abbrev updating : ℕ → Scene → Type 0
  updating i = StandsAt 64 (1000 * before) (320000 + 5000 * before + 100 * i)

  update_takes : (i : ℕ) → i < 40
      → Takes load_setup (updating i) (load_update before i) (updating (i + 1))
  update_takes i few =
      let m = (40 * before + i) % 2000 in
      let r = before + 1 in
      let most = 320000 + 5000 * before + 100 * i in
      let more = 320000 + 5000 * before + 100 * (i + 1) in
      let below : m < 2000 = omega arith in
      let within : r ≤ 2000 = omega (arith, early) in
      let event = Update m (value_of_round r) in
      by_text (updating i) (updating (i + 1)) (update_line m r) _ (update-line m r)
      (Takes-line load_setup (updating i) (updating (i + 1)) (codes "update")
      ((80 ∷ decimal m) ∷ (100 ∷ decimal r) ∷ hex_text (0 ∷ []) ∷ decimal r ∷ decimal 0 ∷ [])
      (entry_by event 0)
      (update_clean m r below within) refl (update_asked m r below within)
      (λ scene here. goes_on 64 (1000 * before) more scene (entry_by event 0) here.given
      (update_taken load_setup refl scene.past 64 (1000 * before) most more here.past
      (omega (arith, early, few)) m r below (omega (arith, update_light m r below within)))))

  abbrev ticked : ℕ → Scene → Type 0
  ticked k = StandsAt 64 (1000 * (before + 1)) (320000 + 5000 * before + 4030 + 10 * k)

  tick_takes : Takes load_setup (updating 40) (load_tick before) (ticked 0)
  tick_takes =
      let now = 1000 * (before + 1) in
      let most = 320000 + 5000 * before + 100 * 40 in
      let more = 320000 + 5000 * before + 4030 + 10 * 0 in
      let within : now ≤ 2000000 = omega (arith, early) in
      by_text (updating 40) (ticked 0) (load_tick before) _ (tick-line before)
      (Takes-line load_setup (updating 40) (ticked 0) (codes "tick") (decimal now ∷ [])
      (entry_by (Tick now) 0) (tick_clean now within) refl (tick_asked now within)
      (λ scene here. goes_on 64 now more scene (entry_by (Tick now) 0) here.given
      (tick_taken load_setup refl scene.past 64 (1000 * before) most more here.past
      (omega (arith, early)) now (omega arith) (omega (arith, within))
      (omega (arith, tick_light now within)))))

  takes_take : (k : ℕ) → k < 64 → Takes load_setup (ticked k) (load_take k) (ticked (k + 1))
  takes_take k known =
      take_takes k known (1000 * (before + 1)) (320000 + 5000 * before + 4030 + 10 * k)
      (320000 + 5000 * before + 4030 + 10 * (k + 1)) (omega (arith, early, known)) (omega arith)

  round_takes : Takes load_setup (StandsAt 64 (1000 * before) (320000 + 5000 * before))
      (load_round before)
      (StandsAt 64 (1000 * (before + 1)) (320000 + 5000 * (before + 1)))
  round_takes =
      Takes-between load_setup _ (updating 0) (ticked 64) _ (load_round before)
      (stands_more 64 (1000 * before) (320000 + 5000 * before)
      (320000 + 5000 * before + 100 * 0) (omega arith))
      (stands_more 64 (1000 * (before + 1)) (320000 + 5000 * before + 4030 + 10 * 64)
      (320000 + 5000 * (before + 1)) (omega arith))
      (Takes-append load_setup (updating 0) (ticked 0) (ticked 64)
      (each_below (load_update before) 40 ++ load_tick before) (each_below load_take 64)
      (Takes-append load_setup (updating 0) (updating 40) (ticked 0)
      (each_below (load_update before) 40) (load_tick before)
      (Takes-below load_setup updating (load_update before) 40 update_takes) tick_takes)
      (Takes-below load_setup ticked load_take 64 takes_take))

-- ---- the scenario

abbrev opened_by : ℕ → Scene → Type 0
opened_by k = StandsAt k 0 (5000 * k)

abbrev played_by : ℕ → Scene → Type 0
played_by r = StandsAt 64 (1000 * r) (320000 + 5000 * r)

scenario_takes : (rounds : ℕ) → rounds ≤ MOST_ROUNDS
    → Takes load_setup (opened_by 0) (load_scenario rounds) (played_by rounds)
scenario_takes rounds few =
    Takes-append load_setup (opened_by 0) (played_by 0) (played_by rounds)
    (each_below load_opening 64) (each_below load_round rounds)
    (Takes-below load_setup opened_by load_opening 64 opening_takes)
    (Takes-below load_setup played_by load_round rounds
    (λ before below. round_takes before (omega (arith, below, few))))

pub scenario_done : (rounds : ℕ) → rounds ≤ MOST_ROUNDS
    → (scenario_of load_setup (load_scenario rounds)).end ≡ done
scenario_done rounds few =
    ap (λ text. (scenario_of load_setup text).end) (sym (append-nil (load_scenario rounds)))
    ∙ scenario_takes rounds few [] (first_scene []) 1 (record { given = refl; past = at_first })
    (λ later next there. refl)
