use Rattle.std.proofs.Common.{refl, inl, inr, rules}
use Rattle.outside.proofs.byte_sink.ByteSinkSink.write.Goals as goal
use Rattle.outside.proofs.byte_sink.ByteSinkSink.write.Goals.{then-self-eq0-via-then-self-eq0, then-self-eq0-via-else-self-eq0+then-contains}

pub returns-then-self-eq0-clause-fails : goal.returns-then-self-eq0-clause-fails
returns-then-self-eq0-clause-fails c =
    rw (← c.self.view_is) (
      λ _. elim c.then-self-eq0.branch [
        | then-self-eq0-via-then-self-eq0 w ↦ inr (search rules)
        | then-self-eq0-via-else-self-eq0+then-contains w ↦ inl (search rules)
      ],
      λ _. refl,
    )
