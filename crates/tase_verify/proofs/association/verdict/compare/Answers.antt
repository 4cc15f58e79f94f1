use Rattle.std.proofs.Common.{◌≡◌, ◌<◌, ◌≤◌, ◌-◌, ◌+◌, ℕ, List, ◌∙◌, sym, ap, take, drop, length}
use Rattle.std.proofs.Common.{arith, rules}
use Rattle.std.proofs.lemmas.List.{length-take-le, length-drop}
use Rattle.std.specs.Prelude.{slice_get}
use Rattle.tase_verify.specs.declared.association.verdict.Verdict.TheVariants as verdicts
use Rattle.tase_verify.specs.Association.Verdicts.{common, verdict_from}
use Rattle.tase_verify.proofs.OfAssociation.Fronts.{goes_on, stops}
use Rattle.tase_verify.proofs.association.verdict.compare.Goals as goal

pub returns-then-same-count : goal.returns-then-same-count
returns-then-same-count c =
    let count = c.next-count.result in
    let piece = take count c.next-count.new.piece in
    let rest = c.loop-pieces.rest.now in
    let place = length c.args.want.now - length rest in
    let size : length piece ≡ count = length-take-le count c.next-count.new.piece
    c.next-count.ensures.within in
    let value : c.common-same.result ≡ common piece rest = c.common-same.ensures.value in
    let short : common piece rest < length piece = omega (arith, value, size) in
    c.difference.ensures
    ∙ ap (λ (k : ℕ). verdicts.Differs (place + k) (slice_get piece k) (slice_get rest k)) value
    ∙ sym (stops place piece c.next-count.new.self rest short)
    ∙ ap (λ (os : List ℕ). verdict_from place os rest) (sym c.next-count.ensures.octets)
    ∙ sym c.loop-pieces.invariant.verdict

pub loop-pieces-preserved : goal.loop-pieces-preserved
loop-pieces-preserved c =
    let count = c.next-count.result in
    let piece = take count c.next-count.new.piece in
    let rest = c.loop-pieces.rest.now in
    let behind = c.split_at.result.1.now in
    let place = length c.args.want.now - length rest in
    let size : length piece ≡ count = length-take-le count c.next-count.new.piece
    c.next-count.ensures.within in
    let value : c.common-same.result ≡ common piece rest = c.common-same.ensures.value in
    let got : c.common-same.result ≤ length piece = c.common-same.ensures.got in
    let want : c.common-same.result ≤ length rest = c.common-same.ensures.want in
    let same : common piece rest ≡ length piece = omega (arith, value, size, got) in
    let back : behind ≡ drop count rest = c.split_at.ensures.back in
    let left : length behind ≡ length rest - count =
    ap (λ (os : List ℕ). length os) back ∙ length-drop count rest in
    let within = c.loop-pieces.invariant.within in
    let on : place + length piece ≡ length c.args.want.now - length behind =
    omega (arith, left, size, want, within, value, same) in
    record {
      within = omega (arith, left, within);
      verdict = c.loop-pieces.invariant.verdict
          ∙ ap (λ (os : List ℕ). verdict_from place os rest) c.next-count.ensures.octets
          ∙ goes_on place piece c.next-count.new.self rest same
          ∙ ap (λ (n : ℕ). verdict_from n c.next-count.new.self (drop (length piece) rest)) on
          ∙ ap (λ (n : ℕ). verdict_from (length c.args.want.now - length behind)
          c.next-count.new.self (drop n rest)) size
          ∙ ap (λ (os : List ℕ). verdict_from (length c.args.want.now - length behind)
          c.next-count.new.self os) (sym back);
      room = search rules;
    }
