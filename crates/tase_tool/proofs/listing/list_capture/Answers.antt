use Rattle.std.proofs.Common.{sym, subst}
use Rattle.std.specs.Prelude.{IsOk, refl}
use Rattle.tase_tool.proofs.Lacking.{refused_told}
use Rattle.tase_tool.proofs.listing.list_capture.Goals as goal

pub returns-in-Ok-clause-memory : goal.returns-in-Ok-clause-memory
returns-in-Ok-clause-memory g c =
    λ lack. subst (λ spelled. IsOk spelled) (sym c.in-Ok.ensures) refl

pub returns-in-Err-clause-memory : goal.returns-in-Err-clause-memory
returns-in-Err-clause-memory g c =
    λ lack. absurd (refused_told c.refuse_line.result c.refuse_line.ensures.answers lack)
