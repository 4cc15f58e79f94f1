-- Octets that a sink took, some after others.
use Rattle.std.proofs.Common.{◌≡◌, ℕ, ◌+◌, ◌≤◌, min, Bool, true, false, List, [], ◌++◌, length, take, drop, Option, Some, None, refl, sym, ◌∙◌, ap, subst, arith, append_assoc, length-append}
use Rattle.std.specs.Prelude.{option_map, Result, Ok, Err}
use Rattle.std.proofs.lemmas.List.{append-nil, take_min, take-append-le, take_all}
use Rattle.std.proofs.Math.Seq.{take-add, take-append-add}
use Rattle.outside.specs.Octets.{Adds}
use Rattle.outside.specs.declared.sink.SinkFailed.{SinkFailed}
use Rattle.outside.specs.Sink.{SinkTold, Appends, AppendsPart, WritesAll}
use Rattle.outside.proofs.Calling.{GoesOn-none, GoesOn-then}

-- no octets
pub Adds-none : (told : Option (List ℕ)) → Adds told told []
Adds-none None = refl
Adds-none (Some octets) = ap Some (sym (append-nil octets))

-- some, and then others
pub Adds-append : (before mid after : Option (List ℕ)) (first next : List ℕ)
    → Adds before mid first → Adds mid after next → Adds before after (first ++ next)
Adds-append before mid after first next one two =
    two ∙ ap (option_map (λ told. told ++ next)) one ∙ both before
  where
    both : (told : Option (List ℕ)) → option_map (λ told. told ++ next)
        (option_map (λ told. told ++ first) told)
        ≡ option_map (λ told. told ++ (first ++ next)) told
    both None = refl
    both (Some octets) = ap Some (append_assoc octets first next)

-- a sink to which nothing was written
pub Appends-none : (sink : SinkTold) → Appends sink sink [] false
Appends-none sink = record {
  taken = Adds-none sink.taken;
  held = omega arith;
  calls = GoesOn-none sink.calls;
  faults = refl;
  name = refl;
}

-- some octets, and then others
pub Appends-append : (before mid after : SinkTold) (first next : List ℕ) (failed : Bool)
    → Appends before mid first false → Appends mid after next failed
    → Appends before after (first ++ next) failed
Appends-append before mid after first next failed one two = record {
  taken = Adds-append before.taken mid.taken after.taken first next one.taken two.taken;
  held = omega (arith, one.held, two.held, length-append first next);
  calls = GoesOn-then before.calls mid.calls after.calls failed one.calls two.calls;
  faults = rw (← one.faults) two.faults;
  name = two.name ∙ one.name;
}

-- the same octets, spelled otherwise
pub Appends-as : (before after : SinkTold) (first next : List ℕ) (failed : Bool) → first ≡ next
    → Appends before after first failed → Appends before after next failed
Appends-as before after first next failed same appends =
    subst (λ (octets : List ℕ). Appends before after octets failed) same appends

-- some octets, and then a write that failed
pub Appends-failed : (before mid after : SinkTold) (octets : List ℕ)
    → Appends before mid octets false → Appends mid after [] true → Appends before after octets true
Appends-failed before mid after octets one two =
    Appends-as before after (octets ++ []) octets true (append-nil octets)
    (Appends-append before mid after octets [] true one two)

-- one more write of the octets that are left
pub Appends-more : (before mid after : SinkTold) (octets : List ℕ) (sent count : ℕ)
    → Appends before mid (take sent octets) false
    → Appends mid after (take count (drop sent octets)) false
    → Appends before after (take (sent + count) octets) false
Appends-more before mid after octets sent count one two =
    Appends-as before after (take sent octets ++ take count (drop sent octets))
    (take (sent + count) octets) false (sym (take-add sent count octets))
    (Appends-append before mid after (take sent octets)
    (take count (drop sent octets)) false one two)

-- all of them are a front part
pub AppendsPart-all : (before after : SinkTold) (octets : List ℕ) (failed : Bool)
    → Appends before after octets failed → AppendsPart before after octets failed
AppendsPart-all before after octets failed all = (
  length octets,
  Appends-as before after octets (take (length octets) octets) failed
      (sym (take_all (length octets) octets (omega arith))) all,
)

-- a sink to which nothing was written took a front part
pub AppendsPart-none : (sink : SinkTold) (octets : List ℕ) → AppendsPart sink sink octets false
AppendsPart-none sink octets = (0, Appends-none sink)

-- octets, and then a front part of others
pub AppendsPart-append : (before mid after : SinkTold) (first next : List ℕ) (failed : Bool)
    → Appends before mid first false → AppendsPart mid after next failed
    → AppendsPart before after (first ++ next) failed
AppendsPart-append before mid after first next failed all part = (
  length first + part.0,
  Appends-as before after (first ++ take part.0 next)
      (take (length first + part.0) (first ++ next)) failed
      (sym (take-append-add first next part.0))
      (Appends-append before mid after first (take part.0 next) failed all part.1),
)

take-front : (count : ℕ) (first next : List ℕ)
    → take (min count (length first)) (first ++ next) ≡ take count first
take-front count first next =
    let within : min count (length first) ≤ length first = omega arith in
    take-append-le (min count (length first)) first next within ∙ take_min count first

-- a front part of some octets is one of these with others after them
pub AppendsPart-front : (before after : SinkTold) (first next : List ℕ) (failed : Bool)
    → AppendsPart before after first failed → AppendsPart before after (first ++ next) failed
AppendsPart-front before after first next failed part = (
  min part.0 (length first),
  Appends-as before after (take part.0 first) (take (min part.0 (length first)) (first ++ next))
      failed (sym (take-front part.0 first next)) part.1,
)

-- octets that went out, and then the writing of others
pub WritesAll-then : (before mid after : SinkTold) (first next : List ℕ)
    (result : Result (Unit {0}) SinkFailed) → Appends before mid first false
    → WritesAll mid after next result → WritesAll before after (first ++ next) result
WritesAll-then before mid after first next (Ok done) one two =
    Appends-append before mid after first next false one two
WritesAll-then before mid after first next (Err failed) one two =
    AppendsPart-append before mid after first next true one two
