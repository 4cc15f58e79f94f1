use Rattle.std.proofs.Common.{◌≡◌, ◌≤◌, ℕ, List, length, take, drop, Some, sym, ap, ◌∙◌, arith}
use Rattle.std.proofs.lemmas.Grind.{common_steps}
use Rattle.std.proofs.lemmas.List.{take_rest}
use Rattle.outside.specs.States.{TextState}
use Rattle.outside.proofs.Reading.{front_copied, given_copied}
use Rattle.outside.proofs.text_source.TextSourceSource.read.Goals as goal

pub returns-clause-reads : goal.returns-clause-reads
returns-clause-reads c =
    let octets = c.self.inside.octets.items in
    let rest = take_rest octets c.self.inside.at in
    let left : c.args.self.now.left ≡ drop c.self.inside.at octets = ap (λ (s : TextState). s.left)
    (sym c.self.view_is) in
    let given : c.args.self.now.given
    ≡ take c.self.inside.at octets = ap (λ (s : TextState). s.given) (sym c.self.view_is) in
    let copied : c.copy_from_slice.new.self
    ≡ take c.min-count.result (drop c.self.inside.at octets) =
    rw (c.deref-2.ensures.value, rest) at c.copy_from_slice.ensures.after in
    let count = rw (c.deref-2.ensures.value, rest) at c.min-count.ensures in
    let fits : c.min-count.result ≤ length (drop c.self.inside.at octets) = omega (arith, count) in
    record {
      took = ap (λ (l : List ℕ). Some l)
          (left ∙ front_copied octets c.args.buf.now c.copy_from_slice.new.self c.self.inside.at
          c.min-count.result copied fits);
      gave = rw given (ap (λ (l : List ℕ). Some l)
          (given_copied octets c.args.buf.now c.copy_from_slice.new.self c.self.inside.at
          c.min-count.result copied fits));
      count = grind (arith, common_steps);
      spent = grind (arith, common_steps);
      ended = grind (arith, common_steps);
      calls = grind (arith, common_steps);
      faults = grind (arith, common_steps);
      name = grind (arith, common_steps);
    }
