use Rattle.std.proofs.Common.{◌≡◌, ℕ, List, [], ◌∷◌, true, subst, arith}
use Rattle.std.proofs.lemmas.Bool.{ne_eqb}
use Rattle.node_server.specs.FeedReading.{FeedPlace, yet_fed}
use Rattle.node_server.specs.declared.feed_end.FeedEnd.TheVariants.{LongLine}
use Rattle.node_server.proofs.FeedRead.{long-taken}
use Rattle.node_server.proofs.feed_reader.FeedReader.grow.Goals as goal

pub returns-then-len-gt-LINE_LIMIT : goal.returns-then-len-gt-LINE_LIMIT
returns-then-len-gt-LINE_LIMIT c = record {
  says = λ rows. (
    subst (λ (place : FeedPlace). (more : List ℕ)
        → yet_fed rows true place (c.args.octet ∷ more)
        ≡ record { events = []; end = LongLine c.self.inside.number }) c.self.view_is
        (long-taken rows
        (record { held = c.self.inside.held.items; number = c.self.inside.number })
        c.self.invariant.0 c.args.octet (ne_eqb c.args.octet 10 c.requires) (omega arith)),
    tt,
  );
}
