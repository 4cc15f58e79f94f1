-- What a line leaves of a player that skips it, or that ends at it with nothing printed.
use Rattle.std.proofs.Common.{◌≡◌, ℕ, List, [], refl, inl, inr}
use Rattle.outside.specs.Sink.{SinkTold}
use Rattle.tase_replay.specs.declared.playing.Player.{Player}
use Rattle.tase_replay.specs.declared.playing.ReplayEnd.{ReplayEnd}
use Rattle.tase_replay.specs.declared.playing.ReplayEnd.TheVariants.{Done, BadLine, Memory}
use Rattle.tase_replay.specs.Play.{Scene, LineMeaning, bad, gives, play_line, ends_there}
use Rattle.tase_replay.specs.Players.{StandsIn, Plays, PlaysLine}
use Rattle.tase_replay.proofs.Entering.{IsPlayed-bad, IsPlayed-none}
use Rattle.tase_replay.proofs.Sending.{none_stays}
use Rattle.tase_replay.proofs.Taking.{TakesAll-none}

module _ {K : Type 0} (told : K → SinkTold) (number : ℕ) (scene : Scene) where
  pub plays_skipped : (player : Player K) → StandsIn scene player
      → PlaysLine told number scene (gives [] scene) player player Done
  plays_skipped player s = record {
    played = λ line. (refl, TakesAll-none player.node.now.history (told player.sink.now));
    stands = λ done. s;
    sent = inl (record {
      steps = [];
      after = scene;
      is = refl;
      stays = none_stays player.node.now.setup scene;
      grown = refl;
    });
  }

  -- it ends there
  pub plays_last : (meaning : LineMeaning) (old new : Player K) (end : ReplayEnd)
      → (end ≡ Done → ⊥) → told new.sink.now ≡ told old.sink.now
      → ((line : List ℕ) → Plays told (play_line line number meaning ends_there) old new end)
      → PlaysLine told number scene meaning old new end
  plays_last meaning old new end last still played = record {
    played = played;
    stands = λ done. absurd (last done);
    sent = inr (last, still);
  }

  -- at a bad line
  pub plays_bad : (meaning : LineMeaning) (old new : Player K)
      → new.node.now.history ≡ old.node.now.history → told new.sink.now ≡ told old.sink.now
      → meaning ≡ bad → PlaysLine told number scene meaning old new (BadLine number)
  plays_bad meaning old new kept still is =
      plays_last meaning old new (BadLine number) (λ done. absurd cc) still
      (λ line. rw (kept, still) (IsPlayed-bad line number meaning old.node.now.history
      (told old.sink.now) is))

  -- for want of memory
  pub plays_none : (meaning : LineMeaning) (old new : Player K)
      → new.node.now.history ≡ old.node.now.history → told new.sink.now ≡ told old.sink.now
      → PlaysLine told number scene meaning old new Memory
  plays_none meaning old new kept still =
      plays_last meaning old new Memory (λ done. absurd cc) still
      (λ line. rw (kept, still) (IsPlayed-none line number meaning old.node.now.history
      (told old.sink.now)))
