-- What is told of a verdict.
use Rattle.std.proofs.Common.{◌≡◌, ◌≢◌, ◌⊎◌, inl, inr, [], refl}
use Rattle.commands.specs.declared.io.status.Status.{Status}
use Rattle.commands.specs.declared.io.status.Status.TheVariants.{Usage, Outside, Memory}
use Rattle.tase_verify.specs.declared.association.verdict.Verdict.{Verdict}
use Rattle.tase_verify.specs.declared.association.verdict.Verdict.TheVariants.{Equal, Differs}
use Rattle.tase_verify.specs.declared.association.verdict.Verdict.TheVariants.{Stray}
use Rattle.tase_tool.specs.Verifying.{verdict_said}

pub verdict_alone : (verdict : Verdict) → (verdict_said verdict).files ≡ []
verdict_alone Equal = refl
verdict_alone (Differs place got want) = refl
verdict_alone (Stray number) = refl

-- its status is neither that of other words nor that of want of memory
pub verdict_answered : (verdict : Verdict) (status : Status)
    → (status ≡ (verdict_said verdict).status) ⊎ (status ≡ Outside)
    → (status ≢ Usage) × (status ≢ Memory)
verdict_answered Equal status (inl same) = (λ usage. absurd cc, λ lack. absurd cc)
verdict_answered (Differs place got want) status (inl same) =
    (λ usage. absurd cc, λ lack. absurd cc)
verdict_answered (Stray number) status (inl same) = (λ usage. absurd cc, λ lack. absurd cc)
verdict_answered verdict status (inr lost) = (λ usage. absurd cc, λ lack. absurd cc)
