-- What became of the links that accept gave.
use Rattle.std.proofs.Common.{◌≡◌, ℕ, ◌+◌, Bool, false, List, [], ◌∷◌, ◌++◌, length, refl, sym}
use Rattle.std.proofs.Common.{ap, ◌∙◌, append_assoc, length-append, arith, Option, Some, None}
use Rattle.std.proofs.lemmas.List.{append-nil}
use Rattle.std.specs.Option.{option_map}
use Rattle.outside.specs.Links.Jobs.{SpawnerTold}
use Rattle.outside.specs.Links.Links.{LinkTold}
use Rattle.outside.specs.Links.Listeners.{ListenerTold, AcceptsLink, with_link}

-- jobs were started behind those that were pending; accept gave as many links as there are of these
-- jobs, and of links that were turned away
pub record GivenSoFar {J : Type 0} (before after : ListenerTold) (jobs later : SpawnerTold J)
    (turned : ℕ) : Type 0 where
  pub started : List J
  pub pending : later.pending ≡ jobs.pending ++ started
  pub accepted : after.accepted
      ≡ option_map (λ count. count + (turned + length started)) before.accepted

-- ---- what is told in options

same_given : (accepted : Option ℕ) → accepted ≡ option_map (λ count. count + 0) accepted
same_given None = refl
same_given (Some count) = ap (λ (n : ℕ). Some n) {x = count} {y = count + 0} (omega arith)

none_given : (accepted : Option ℕ)
    → option_map (with_link None) accepted ≡ option_map (λ count. count + 0) accepted
none_given None = refl
none_given (Some count) = same_given (Some count)

one_given : (link : LinkTold) (accepted : Option ℕ)
    → option_map (with_link (Some link)) accepted ≡ option_map (λ count. count + 1) accepted
one_given link None = refl
one_given link (Some count) = refl

both_given : (m n more : ℕ) (accepted : Option ℕ) → more ≡ m + n
    → option_map (λ count. count + n) (option_map (λ count. count + m) accepted)
    ≡ option_map (λ count. count + more) accepted
both_given m n more None is = refl
both_given m n more (Some count) is =
    ap (λ (n : ℕ). Some n) {x = count + m + n} {y = count + more} (omega (arith, is))

-- ---- one call

module _ {J : Type 0} (before after : ListenerTold) (jobs later : SpawnerTold J) where
  -- no link was given
  pub given-none : (failed : Bool) → AcceptsLink before after None failed → later ≡ jobs
      → GivenSoFar before after jobs later 0
  given-none failed accepts same = record {
    started = [];
    pending = ap (λ (s : SpawnerTold J). s.pending) same ∙ sym (append-nil jobs.pending);
    accepted = accepts.accepted ∙ none_given before.accepted;
  }

  -- a job was started for the link that was given
  pub given-started : (link : LinkTold) (job : J) → AcceptsLink before after (Some link) false
      → later ≡ record jobs { pending = jobs.pending ++ job ∷ [] }
      → GivenSoFar before after jobs later 0
  given-started link job accepts starts = record {
    started = job ∷ [];
    pending = ap (λ (s : SpawnerTold J). s.pending) starts;
    accepted = accepts.accepted ∙ one_given link before.accepted;
  }

  -- the link that was given was turned away
  pub given-turned : (given : ListenerTold) (link : LinkTold) (faults : ℕ)
      → AcceptsLink before given (Some link) false → after.accepted ≡ given.accepted
      → later ≡ record jobs { faults = faults } → GivenSoFar before after jobs later 1
  given-turned given link faults accepts same counted = record {
    started = [];
    pending = ap (λ (s : SpawnerTold J). s.pending) counted ∙ sym (append-nil jobs.pending);
    accepted = same ∙ (accepts.accepted ∙ one_given link before.accepted);
  }

-- accept wasn't called
pub given-same : {J : Type 0} (listener : ListenerTold) (jobs : SpawnerTold J)
    → GivenSoFar listener listener jobs jobs 0
given-same {J} listener jobs = record {
  started = [];
  pending = sym (append-nil jobs.pending);
  accepted = same_given listener.accepted;
}

-- ---- one after another

pub given-then : {J : Type 0} (a b c : ListenerTold) (k l m : SpawnerTold J) (xs ys : ℕ)
    → GivenSoFar a b k l xs → GivenSoFar b c l m ys → GivenSoFar a c k m (xs + ys)
given-then {J} a b c k l m xs ys first then =
    let long = length-append first.started then.started in
    record {
      started = first.started ++ then.started;
      pending = then.pending ∙ (ap (λ (j : List J). j ++ then.started) first.pending
          ∙ append_assoc k.pending first.started then.started);
      accepted = then.accepted
          ∙ (ap (option_map (λ count. count + (ys + length then.started))) first.accepted
          ∙ both_given (xs + length first.started) (ys + length then.started) _ a.accepted
          (omega (arith, long)));
    }
