-- What a sink with a buffer took, and what the sink behind it took.
use Rattle.std.proofs.Common.{◌≡◌, ℕ, ◌+◌, ◌-◌, ◌≤◌, Bool, true, false, List, [], ◌++◌, length, take, Option, Some, None, refl, sym, ◌∙◌, ap, subst, arith, append_assoc, length-append, length-take}
use Rattle.std.specs.Prelude.{option_map, Ok, Err}
use Rattle.std.proofs.lemmas.List.{append-nil}
use Rattle.std.proofs.Math.Seq.{take-append_seam, take-append-add}
use Rattle.outside.specs.declared.sink.SinkFailed.{SinkFailed}
use Rattle.outside.specs.Octets.{Adds}
use Rattle.outside.specs.Sink.{SinkTold, Appends, AppendsAll, AppendsPart}
use Rattle.outside.specs.Buffered.{buffered_told, HandsOn}
use Rattle.outside.proofs.Calling.{GoesOn-none}
use Rattle.outside.proofs.Writing.{Appends-append, Appends-as}

-- octets that were gathered
pub buffered_gathers : (sink : SinkTold) (gathered piece : List ℕ)
    → Appends (buffered_told sink gathered) (buffered_told sink (gathered ++ piece)) piece false
buffered_gathers sink gathered piece = record {
  taken = added sink.taken;
  held = omega (arith, length-append gathered piece);
  calls = GoesOn-none sink.calls;
  faults = refl;
  name = refl;
}
  where
    added : (told : Option (List ℕ)) → Adds (option_map (λ octets. octets ++ gathered) told)
        (option_map (λ octets. octets ++ (gathered ++ piece)) told) piece
    added None = refl
    added (Some octets) = ap Some (sym (append_assoc octets gathered piece))

-- octets of which a front part went on, and with it what a write took that went straight on
pub buffered_hands : (before after : SinkTold) (gathered front rest : List ℕ) (failed : Bool)
    → gathered ≡ front ++ rest → Appends before after front failed
    → Appends (buffered_told before gathered) (buffered_told after rest) [] failed
buffered_hands before after gathered front rest failed split appends = record {
  taken = subst (λ (told : Option (List ℕ)). Adds
      (option_map (λ octets. octets ++ gathered) before.taken)
      (option_map (λ octets. octets ++ rest) told) []) (sym appends.taken) (added before.taken);
  held = omega (arith, ap length split, length-append front rest, appends.held);
  calls = appends.calls;
  faults = appends.faults;
  name = appends.name;
}
  where
    added : (told : Option (List ℕ)) → Adds (option_map (λ octets. octets ++ gathered) told)
        (option_map (λ octets. octets ++ rest) (option_map (λ octets. octets ++ front) told)) []
    added None = refl
    added (Some octets) = ap Some (append_assoc octets front rest
        ∙ ap (λ (l : List ℕ). octets ++ l) (sym split) ∙ sym (append-nil (octets ++ gathered)))

-- a sink with a buffer in which nothing is gathered
pub buffered_empty : (sink : SinkTold) → Appends sink (buffered_told sink []) [] false
buffered_empty sink = record {
  taken = refl;
  held = omega arith;
  calls = GoesOn-none sink.calls;
  faults = refl;
  name = refl;
}

pub unbuffered_empty : (sink : SinkTold) → Appends (buffered_told sink []) sink [] false
unbuffered_empty sink = record {
  taken = added sink.taken;
  held = omega arith;
  calls = GoesOn-none sink.calls;
  faults = refl;
  name = refl;
}
  where
    added : (told : Option (List ℕ)) → Adds (option_map (λ octets. octets ++ []) told) told []
    added None = refl
    added (Some octets) = ap Some (sym (append-nil (octets ++ []) ∙ append-nil octets))

-- a write that went straight on, with nothing gathered
pub buffered_passes : (before after : SinkTold) (octets : List ℕ) (failed : Bool)
    → Appends before after octets failed
    → Appends (buffered_told before []) (buffered_told after []) octets failed
buffered_passes before after octets failed appends =
    let on : Appends (buffered_told before []) after ([] ++ octets) failed =
    Appends-append (buffered_told before []) before after [] octets failed
    (unbuffered_empty before) appends in
    record {
      taken = subst (λ (told : Option (List ℕ)). Adds (buffered_told before []).taken told octets)
          (sym (no_more after.taken)) on.taken;
      held = omega (arith, on.held);
      calls = on.calls;
      faults = on.faults;
      name = on.name;
    }
  where
    no_more : (told : Option (List ℕ)) → option_map (λ octets. octets ++ []) told ≡ told
    no_more None = refl
    no_more (Some octets) = ap Some (append-nil octets)

-- what is gathered and lost is the end of what was written: the sink behind took a front part of
-- that
pub unbuffered : (before sink : SinkTold) (gathered octets : List ℕ) (failed : Bool)
    → before.held ≡ 0 → Appends before (buffered_told sink gathered) octets failed
    → AppendsPart before sink octets failed
unbuffered before sink gathered octets failed held appends = (
  length octets - length gathered,
  record {
    taken = taken before.taken sink.taken appends.taken;
    held = omega (
      arith,
      length-take (length octets - length gathered) octets,
      held,
      fewer,
      appends.held,
    );
    calls = appends.calls;
    faults = appends.faults;
    name = appends.name;
  },
)
  where
    fewer : length gathered ≤ length octets
    fewer = omega (arith, held, appends.held)

    cut : (t o : List ℕ) → t ++ gathered ≡ o ++ octets
        → t ≡ o ++ take (length octets - length gathered) octets
    cut t o same =
        let size : length t ≡ length o + (length octets - length gathered) =
        omega (arith, ap length same, length-append t gathered, length-append o octets, fewer) in
        sym (take-append_seam t gathered) ∙ ap (λ (l : List ℕ). take (length t) l) same
        ∙ ap (λ n. take n (o ++ octets)) size
        ∙ take-append-add o octets (length octets - length gathered)

    taken : (b s : Option (List ℕ)) → Adds b (option_map (λ octets. octets ++ gathered) s) octets
        → Adds b s (take (length octets - length gathered) octets)
    taken None None told = refl
    taken None (Some t) told = cc
    taken (Some o) None told = cc
    taken (Some o) (Some t) told = ap Some (cut t o (let same = told in cc))

-- all that was written went out
pub handed_all : (before now after : SinkTold) (gathered rest octets : List ℕ) (done : Unit {0})
    → Appends before (buffered_told now gathered) octets false
    → HandsOn now after gathered rest (Ok done) → AppendsAll before after octets
handed_all before now after gathered rest octets done written handed =
    let all : AppendsAll now after gathered = handed.0 in
    let on : Appends (buffered_told now gathered) (buffered_told after []) [] false =
    buffered_hands now after gathered gathered [] false (sym (append-nil gathered)) all in
    let one : Appends before (buffered_told after []) (octets ++ []) false =
    Appends-append before (buffered_told now gathered)
    (buffered_told after []) octets [] false written on in
    Appends-as before after ((octets ++ []) ++ []) octets false
    (append-nil (octets ++ []) ∙ append-nil octets)
    (Appends-append before (buffered_told after []) after (octets ++ []) [] false one
    (unbuffered_empty after))

-- after a fault a front part of it did
pub handed_part : (before now after : SinkTold) (gathered rest octets : List ℕ)
    (failed : SinkFailed)
    → before.held ≡ 0 → Appends before (buffered_told now gathered) octets false
    → HandsOn now after gathered rest (Err failed)
    → AppendsPart before after octets true
handed_part before now after gathered rest octets failed held written handed =
    let on : Appends (buffered_told now gathered) (buffered_told after rest) [] true =
    buffered_hands now after gathered handed.0 rest true handed.1 handed.2 in
    unbuffered before after rest octets true held (
    Appends-as before (buffered_told after rest) (octets ++ []) octets true (append-nil octets)
    (Appends-append before (buffered_told now gathered)
    (buffered_told after rest) octets [] true written on)
    )
