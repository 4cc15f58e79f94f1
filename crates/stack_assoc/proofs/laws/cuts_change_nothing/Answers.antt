use Rattle.stack_assoc.proofs.StreamLaws.{told_alike}
use Rattle.stack_assoc.proofs.laws.cuts_change_nothing.Goals as goal

pub returns : goal.returns
returns c = λ role octets told others one other a b. told_alike c.messages_have_one_reading.ensures
    role octets told others one.fault other.fault one other a.stands.reads b.stands.reads a.all b.all
