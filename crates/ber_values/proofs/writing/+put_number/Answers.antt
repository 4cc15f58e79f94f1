use Rattle.std.proofs.Common.{◌++◌, ◌∷◌, [], ◌-◌, ◌/◌, ◌%◌, ◌<◌, ◌∙◌, sym, ap, List, ℕ, append_assoc, arith}
use Rattle.ber_values.specs.Writing.{octets_of}
use Rattle.ber_values.proofs.Written.{octets_of-more}
use Rattle.ber_values.proofs.writing.+put_number.Goals as goal

pub returns-clause-ok : goal.returns-clause-ok
returns-clause-ok t c =
    let old = c.args.out.now.items in
    let n = c.args.number in
    let k = c.args.count in
    let some : 0 < k = omega arith in
    c.in_ok-push.ensures.items
    ∙ ap (λ (xs : List ℕ). xs ++ (n % 256 ∷ [])) c.in_ok-put_number.ensures.ok
    ∙ append_assoc old (octets_of (k - 1) (n / 256)) (n % 256 ∷ [])
    ∙ ap (λ (xs : List ℕ). old ++ xs) (sym (octets_of-more k n some))
