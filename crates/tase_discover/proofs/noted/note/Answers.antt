use Rattle.std.proofs.Common.{◌≡◌, ℕ, List, ◌||◌, bytes_eq, rules, subst}
use Rattle.tase_discover.specs.Noted.{is_noted}
use Rattle.tase_discover.proofs.Noting.{noted_more}
use Rattle.tase_discover.proofs.noted.note.Goals as goal

pub returns : goal.returns
returns c = λ q.
    let same : c.in_ok-copy.copy.items ≡ c.args.octets.now = search rules in
    subst (λ (octets : List ℕ). is_noted c.insert.new.self q
    ≡ (bytes_eq q octets || is_noted c.args.noted.now q)) same
    (noted_more c.args.noted.now.keys c.insert.new.self.keys c.in_ok-copy.copy
    c.in_ok-insert.field-0 q c.in_ok-insert.ensures.added c.in_ok-insert.ensures.keys)
