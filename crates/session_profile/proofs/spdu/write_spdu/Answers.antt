use Rattle.std.proofs.Common.{Result, Ok, Err, OnOk}
use Rattle.session_profile.proofs.Written.{written_spelled}
use Rattle.session_profile.proofs.spdu.write_spdu.Goals as goal

-- what holds anyway
anyway : {T E : Type 0} (r : Result T E) (P : Type 0) → P → OnOk r P
anyway (Ok x) P holds = holds
anyway (Err e) P holds = tt

pub returns-clause-spelled : goal.returns-clause-spelled
returns-clause-spelled c =
    anyway c.or_undo.result _
    (written_spelled c.args.spdu.now c.args.body.now c.put_spdu-done.ensures.writable c.requires.fits)
