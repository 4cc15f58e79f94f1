use Rattle.presentation_profile.proofs.PpdusWritten.{ppdu-begins}
use Rattle.presentation_profile.proofs.laws.written_ppdus_are_read.Goals as goal

pub returns : goal.returns
returns c e p body at writable held right size =
    ppdu-begins e p body at writable held right size
