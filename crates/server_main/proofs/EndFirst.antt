-- Of several ends the first is answered.
use Rattle.std.proofs.Common.{◌≡◌, ℕ, Bool, true, false, ◌||◌, refl, sym, ap, subst, ◌∙◌}
use Rattle.std.proofs.Common.{Option, Some, None}
use Rattle.node_server.specs.declared.feed_end.FeedEnd.{FeedEnd}
use Rattle.node_server.specs.declared.feed_end.FeedEnd.TheVariants as feed_ends
use Rattle.server_main.specs.declared.run.seats.FeedSeat.{FeedSeat}
use Rattle.server_main.specs.declared.run.seats.Seats.{Seats}
use Rattle.server_main.specs.declared.fullness.Fullness.{Fullness}
use Rattle.server_main.specs.declared.work_end.WorkEnd.{WorkEnd}
use Rattle.server_main.specs.declared.serve_end.ServeEnd.{ServeEnd}
use Rattle.server_main.specs.declared.serve_end.ServeEnd.TheVariants as ends
use Rattle.server_main.specs.ServedParts.{IsAllDone, fails_outside, first_full, full_at}
use Rattle.server_main.specs.ServedParts.{bad_line_fed, bad_line_of, is_read_out, has_read_out}
use Rattle.server_main.specs.ServedParts.{EndsBy, is_refused_work, is_listener_work}
use Rattle.server_main.specs.ServedParts.{has_source_fault, has_clock_fault}
use Rattle.server_main.specs.Ending.{EndsPlain, EndsUnfull, EndsInside}

whole-done : (work : WorkEnd) (failed : Bool) (seats : Seats) → failed ≡ false
    → IsAllDone work false seats → IsAllDone work failed seats
whole-done work failed seats is done =
    subst (λ (b : Bool). IsAllDone work b seats) (sym is) done

done-whole : (work : WorkEnd) (failed : Bool) (seats : Seats)
    → IsAllDone work failed seats → IsAllDone work false seats
done-whole work failed seats done =
    subst (λ (b : Bool). IsAllDone work b seats) done.whole done

-- a feed that was read to its end has no bad line
read-good : {A : Type 0} (feed : Option FeedSeat) (line : ℕ) → bad_line_of feed ≡ Some line
    → has_read_out feed ≡ true → A
read-good {A} None line bad read = absurd (let e : false ≡ true = read in cc)
read-good {A} (Some fed) line bad read = read-fed fed.end bad read
  where
    read-fed : (end : FeedEnd) → bad_line_fed end ≡ Some line → is_read_out end ≡ true → A
    read-fed feed_ends.Ended told is = absurd (let e : None ≡ Some line = told in cc)
    read-fed feed_ends.StopLine told is = absurd (let e : None ≡ Some line = told in cc)
    read-fed other told is = absurd (let e : false ≡ true = is in cc)

none-quiet : (a b c : Bool) → (a || (b || (true || c))) ≡ false → ⊥
none-quiet true b c e = absurd cc
none-quiet false true c e = absurd cc
none-quiet false false c e = absurd cc

not-plant : (work : WorkEnd) (failed : Bool) (seats : Seats)
    → fails_outside work failed seats ≡ false → failed ≡ false
not-plant work true seats fails =
    absurd (none-quiet (is_refused_work work) (is_listener_work work)
    (has_source_fault seats.feed || has_clock_fault seats.ticks) fails)
not-plant work false seats fails = refl

module _ (work : WorkEnd) (failed : Bool) (seats : Seats) where
  pub ends-outside : fails_outside work failed seats ≡ true → EndsBy work failed seats ends.Outside
  ends-outside fails = record {
    outside_only = λ e. fails;
    outside = λ e. refl;
    full_only = λ weight limit e. absurd cc;
    full = λ weight limit quiet e. absurd cc;
    bad_feed_only = λ line e. absurd cc;
    bad_feed = λ line quiet none e. absurd cc;
    done_only = λ e. absurd cc;
    done = λ still room all. absurd (cc (fails, still));
    memory_only = λ e. absurd cc;
  }

some-same : {A : Type 0} (a b : A) → Some a ≡ Some b → a ≡ b
some-same a b e = cc

same-full : (full : Fullness) (weight limit : ℕ)
    → ends.Full full.weight full.limit ≡ ends.Full weight limit → full ≡ full_at weight limit
same-full full weight limit e =
    let heavy : full.weight ≡ weight = cc in
    let most : full.limit ≡ limit = cc in
    ap (λ (n : ℕ). full_at n full.limit) heavy ∙ ap (λ (n : ℕ). full_at weight n) most

same-line : (line other : ℕ) → ends.BadFeed line ≡ ends.BadFeed other → line ≡ other
same-line line other e = cc

module _ (work : WorkEnd) (failed : Bool) (seats : Seats)
    (quiet : fails_outside work failed seats ≡ false) where
  loud : {A : Type 0} → fails_outside work failed seats ≡ true → A
  loud {A} fails = absurd (cc (quiet, fails))

  ends-full : (full : Fullness) → first_full work seats ≡ Some full
      → EndsBy work failed seats (ends.Full full.weight full.limit)
  ends-full full is = record {
    outside_only = λ e. absurd cc;
    outside = λ fails. loud fails;
    full_only = λ weight limit e. is ∙ ap (λ (f : Fullness). Some f)
        (same-full full weight limit e);
    full = λ weight limit still e. ap (λ (f : Fullness). ends.Full f.weight f.limit)
        (some-same full (full_at weight limit) (sym is ∙ e));
    bad_feed_only = λ line e. absurd cc;
    bad_feed = λ line still none e. absurd (cc (is, none));
    done_only = λ e. absurd cc;
    done = λ still none all. absurd (cc (is, none));
    memory_only = λ e. absurd cc;
  }

  module _ (room : first_full work seats ≡ None) where
    no-room : {A : Type 0} (full : Fullness) → first_full work seats ≡ Some full → A
    no-room {A} full is = absurd (cc (room, is))

    ends-bad : (line : ℕ) → bad_line_of seats.feed ≡ Some line
        → EndsBy work failed seats (ends.BadFeed line)
    ends-bad line is = record {
      outside_only = λ e. absurd cc;
      outside = λ fails. loud fails;
      full_only = λ weight limit e. absurd cc;
      full = λ weight limit still e. no-room (full_at weight limit) e;
      bad_feed_only = λ other e. (room, is ∙ ap (λ (n : ℕ). Some n) (same-line line other e));
      bad_feed = λ other still none e. ap (λ (n : ℕ). ends.BadFeed n)
          (some-same line other (sym is ∙ e));
      done_only = λ e. absurd cc;
      done = λ still none all. read-good seats.feed line is all.read;
      memory_only = λ e. absurd cc;
    }

    ends-plain : (end : ServeEnd) → bad_line_of seats.feed ≡ None → EndsPlain work seats end
        → EndsBy work failed seats end
    ends-plain ends.Done good plain = record {
      outside_only = λ e. absurd cc;
      outside = λ fails. loud fails;
      full_only = λ weight limit e. absurd cc;
      full = λ weight limit still e. no-room (full_at weight limit) e;
      bad_feed_only = λ line e. absurd cc;
      bad_feed = λ line still none e. absurd (cc (good, e));
      done_only = λ e. whole-done work failed seats (not-plant work failed seats quiet) plain;
      done = λ still none all. refl;
      memory_only = λ e. absurd cc;
    }
    ends-plain ends.Memory good plain = record {
      outside_only = λ e. absurd cc;
      outside = λ fails. loud fails;
      full_only = λ weight limit e. absurd cc;
      full = λ weight limit still e. no-room (full_at weight limit) e;
      bad_feed_only = λ line e. absurd cc;
      bad_feed = λ line still none e. absurd (cc (good, e));
      done_only = λ e. absurd cc;
      done = λ still none all. absurd (plain (done-whole work failed seats all));
      memory_only = λ e all. plain (done-whole work failed seats all);
    }
    ends-plain ends.Outside good plain = absurd plain
    ends-plain (ends.Full weight limit) good plain = absurd plain
    ends-plain (ends.BadFeed line) good plain = absurd plain

    ends-unfull : (bad : Option ℕ) (end : ServeEnd) → bad_line_of seats.feed ≡ bad
        → EndsUnfull bad work seats end → EndsBy work failed seats end
    ends-unfull (Some line) end is ended =
        subst (λ (e : ServeEnd). EndsBy work failed seats e) (sym ended) (ends-bad line is)
    ends-unfull None end is ended = ends-plain end is ended

  by-full : (full : Option Fullness) (end : ServeEnd) → first_full work seats ≡ full
      → EndsInside full work seats end → EndsBy work failed seats end
  by-full (Some full) end is ended =
      subst (λ (e : ServeEnd). EndsBy work failed seats e) (sym ended) (ends-full full is)
  by-full None end is ended = ends-unfull is (bad_line_of seats.feed) end refl ended

  pub ends-inside : (end : ServeEnd) → EndsInside (first_full work seats) work seats end
      → EndsBy work failed seats end
  ends-inside end ended = by-full (first_full work seats) end refl ended
