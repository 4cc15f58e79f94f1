-- Reads of a piece after another.
use Rattle.std.proofs.Common.{◌≡◌, ◌⊎◌, ℕ, ◌+◌, ◌<◌, ◌≤◌, Bool, true, false, List, [], ◌++◌, length, take, drop, Option, Some, None, inl, inr, refl, sym, ◌∙◌, ap, subst, append_assoc, arith, length-append, length-take, take-append-drop}
use Rattle.std.specs.Prelude.{option_map, Vec, Ok, Err}
use Rattle.std.proofs.lemmas.List.{append-nil, take_at, drop-drop}
use Rattle.std.proofs.Math.Seq.{take-add, take-append_seam}
use Rattle.std.specs.declared.alloc.AllocError.{AllocError}
use Rattle.std.specs.declared.alloc.Global.{Global}
use Rattle.outside.specs.declared.source.ReadEnd.TheVariants.{Got, End, Failed}
use Rattle.outside.specs.declared.text.TextEnd.TheVariants.{Failed as TextFailed, Long}
use Rattle.outside.specs.declared.text.TheConstants.{PIECE}
use Rattle.outside.specs.Calls.{called, GoesOn}
use Rattle.outside.specs.Octets.{Adds, TakesOctets}
use Rattle.outside.specs.Source.{SourceTold, ReadsSource}
use Rattle.outside.specs.Text.{ReadsText}
use Rattle.outside.proofs.Calling.{called-called, GoesOn-none, GoesOn-then}
use Rattle.outside.proofs.Writing.{Adds-none, Adds-append}

pub Takes-none : (told : Option (List ℕ)) → TakesOctets told told []
Takes-none None = refl
Takes-none (Some octets) = refl

pub Takes-append : (before mid after : Option (List ℕ)) (first next : List ℕ)
    → TakesOctets before mid first → TakesOctets mid after next → TakesOctets before after (first ++ next)
Takes-append before mid after first next one two =
    one ∙ ap (option_map (λ told. first ++ told)) two ∙ both after
  where
    both : (told : Option (List ℕ)) → option_map (λ told. first ++ told)
        (option_map (λ told. next ++ told) told) ≡ option_map (λ told. (first ++ next) ++ told) told
    both None = refl
    both (Some octets) = ap Some (sym (append_assoc first next octets))

-- what no read, or reads that gave octets, leave of whether the last answered the end
abbrev pub NotEnded : Option Bool → Option Bool → Type 0
NotEnded before now = (now ≡ before) ⊎ (now ≡ option_map (λ _. false) before)

NotEnded-then : (before mid after : Option Bool) (end : Bool) → NotEnded before mid
    → after ≡ option_map (λ _. end) mid → after ≡ option_map (λ _. end) before
NotEnded-then before mid after end (inl none) then = then ∙ ap (option_map (λ _. end)) none
NotEnded-then before mid after end (inr some) then =
    then ∙ ap (option_map (λ _. end)) some ∙ twice before
  where
    twice : (told : Option Bool) → option_map (λ _. end) (option_map (λ _. false) told)
        ≡ option_map (λ _. end) told
    twice None = refl
    twice (Some ended) = refl

-- these octets were read, and there is more to read
pub record HasRead (before now : SourceTold) (octets : List ℕ) : Type 0 where
  pub took : TakesOctets before.left now.left octets
  pub gave : Adds before.given now.given octets
  pub ended : NotEnded before.ended now.ended
  pub calls : GoesOn before.calls now.calls false
  pub faults : now.faults ≡ before.faults
  pub name : now.name ≡ before.name

-- before the first
pub HasRead-none : (source : SourceTold) → HasRead source source []
HasRead-none source = record {
  took = Takes-none source.left;
  gave = Adds-none source.given;
  ended = inl refl;
  calls = GoesOn-none source.calls;
  faults = refl;
  name = refl;
}

-- one more
pub HasRead-more : (before mid after : SourceTold) (octets buf : List ℕ) (count : ℕ)
    → HasRead before mid octets → ReadsSource mid after (Got count) buf
    → HasRead before after (octets ++ take count buf)
HasRead-more before mid after octets buf count so_far read = record {
  took = Takes-append before.left mid.left after.left octets (take count buf) so_far.took read.took;
  gave =
      Adds-append before.given mid.given after.given octets (take count buf) so_far.gave read.gave;
  ended = inr (NotEnded-then before.ended mid.ended after.ended false so_far.ended read.ended);
  calls = GoesOn-then before.calls mid.calls after.calls false so_far.calls (inr read.calls);
  faults = read.faults ∙ so_far.faults;
  name = read.name ∙ so_far.name;
}

-- a read that gave nothing
last_took : (before mid after : Option (List ℕ)) (octets : List ℕ) → TakesOctets before mid octets
    → TakesOctets mid after [] → TakesOctets before after octets
last_took before mid after octets one two =
    subst (λ (l : List ℕ). TakesOctets before after l) (append-nil octets)
    (Takes-append before mid after octets [] one two)

last_gave : (before mid after : Option (List ℕ)) (octets : List ℕ) → Adds before mid octets
    → Adds mid after [] → Adds before after octets
last_gave before mid after octets one two =
    subst (λ (l : List ℕ). Adds before after l) (append-nil octets)
    (Adds-append before mid after octets [] one two)

-- all octets were read, and the text is within its limit
pub reads_all : (before mid after : SourceTold) (text : Vec ℕ Global) (buf : List ℕ) (limit : ℕ)
    → HasRead before mid text.items → ReadsSource mid after End buf → length text.items ≤ limit
    → ReadsText before after limit (Ok (Ok text)) text.items
reads_all before mid after text buf limit so_far read within = record {
  took = last_took before.left mid.left after.left text.items so_far.took read.took;
  gave = last_gave before.given mid.given after.given text.items so_far.gave read.gave;
  most = omega (arith, within);
  text = (refl, within, read.spent);
  ended = NotEnded-then before.ended mid.ended after.ended true so_far.ended read.ended;
  calls = GoesOn-then before.calls mid.calls after.calls true so_far.calls read.calls;
  faults = read.faults ∙ so_far.faults;
  name = read.name ∙ so_far.name;
}

-- reading failed
pub reads_failed : (before mid after : SourceTold) (octets buf : List ℕ) (limit : ℕ)
    → HasRead before mid octets → ReadsSource mid after Failed buf → length octets ≤ limit
    → ReadsText before after limit (Ok (Err TextFailed)) octets
reads_failed before mid after octets buf limit so_far read within = record {
  took = last_took before.left mid.left after.left octets so_far.took read.took;
  gave = last_gave before.given mid.given after.given octets so_far.gave read.gave;
  most = omega (arith, within);
  text = within;
  ended = NotEnded-then before.ended mid.ended after.ended false so_far.ended read.ended;
  calls = GoesOn-then before.calls mid.calls after.calls true so_far.calls read.calls;
  faults = rw (← so_far.faults) read.faults;
  name = read.name ∙ so_far.name;
}

size : (octets buf : List ℕ) (count : ℕ) → count ≤ length buf
    → length (octets ++ take count buf) ≡ length octets + count
size octets buf count fits =
    omega (arith, length-append octets (take count buf), length-take count buf, fits)

-- too many came
pub reads_long : (before mid after : SourceTold) (octets buf : List ℕ) (count limit : ℕ)
    → HasRead before mid octets → ReadsSource mid after (Got count) buf → length octets ≤ limit
    → length buf ≡ PIECE → limit < length octets + count
    → ReadsText before after limit (Ok (Err Long)) (octets ++ take count buf)
reads_long before mid after octets buf count limit so_far read within piece long =
    let more = HasRead-more before mid after octets buf count so_far read in
    let fits : count ≤ length buf = read.count.1 in
    record {
      took = more.took;
      gave = more.gave;
      most = omega (arith, size octets buf count fits, piece, within, fits);
      text = omega (arith, size octets buf count fits, long);
      ended = NotEnded-then before.ended mid.ended after.ended false so_far.ended read.ended;
      calls = long_calls so_far.calls;
      faults = more.faults;
      name = more.name;
    }
  where
    long_calls : GoesOn before.calls mid.calls false
        → after.calls ≡ option_map (called false) before.calls
    long_calls (inl none) = read.calls ∙ ap (option_map (called false)) none
    long_calls (inr some) =
        read.calls ∙ ap (option_map (called false)) some ∙ called-called false before.calls

-- memory ran out
pub reads_no_memory : (before mid after : SourceTold) (octets buf : List ℕ) (count limit : ℕ)
    (error : AllocError)
    → HasRead before mid octets → ReadsSource mid after (Got count) buf → length octets + count ≤ limit
    → ReadsText before after limit (Err error) (octets ++ take count buf)
reads_no_memory before mid after octets buf count limit error so_far read within =
    let more = HasRead-more before mid after octets buf count so_far read in
    let fits : count ≤ length buf = read.count.1 in
    record {
      took = more.took;
      gave = more.gave;
      most = omega (arith, size octets buf count fits, within);
      text = tt;
      ended = more.ended;
      calls = more.calls;
      faults = more.faults;
      name = more.name;
    }

pub reads_nothing : (source : SourceTold) (limit : ℕ) (error : AllocError)
    → ReadsText source source limit (Err error) []
reads_nothing source limit error =
    let none = HasRead-none source in
    record {
      took = none.took;
      gave = none.gave;
      most = omega arith;
      text = tt;
      ended = none.ended;
      calls = none.calls;
      faults = refl;
      name = refl;
    }

-- what a copy of a front part into a buffer leaves behind it
pub front_copied : (octets buf copied : List ℕ) (start n : ℕ)
    → copied ≡ take n (drop start octets) → n ≤ length (drop start octets)
    → drop start octets ≡ take n (copied ++ drop n buf) ++ drop (start + n) octets
front_copied octets buf copied start n is fits =
    sym (take-append-drop n (drop start octets))
    ∙ ap (λ (l : List ℕ). l ++ drop n (drop start octets))
    (sym (take_at copied (drop n buf) n long ∙ is))
    ∙ ap (λ (l : List ℕ). take n (copied ++ drop n buf) ++ l) (drop-drop n start octets)
  where
    long : length copied ≡ n
    long = omega (arith, ap length is, length-take n (drop start octets))

-- the octets given with those that were copied
pub given_copied : (octets buf copied : List ℕ) (place count : ℕ)
    → copied ≡ take count (drop place octets) → count ≤ length (drop place octets)
    → take (place + count) octets ≡ take place octets ++ take count (copied ++ drop count buf)
given_copied octets buf copied place count same fits =
    let size : length copied ≡ count = ap length same
    ∙ omega (arith, length-take count (drop place octets)) in
    let front : take count (copied ++ drop count buf)
    ≡ copied = ap (λ n. take n (copied ++ drop count buf)) (sym size)
    ∙ take-append_seam copied (drop count buf) in
    take-add place count octets ∙ ap (λ (l : List ℕ). take place octets ++ l) (sym (front ∙ same))
