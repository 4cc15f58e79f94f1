use Rattle.mms_data.proofs.NameRead.{identifier_answered}
use Rattle.mms_data.proofs.object_name.octets.identifier_of.Goals as goal

pub returns-clause-named : goal.returns-clause-named
unfolding Rattle.mms_data.specs.NameOctets.identifier
returns-clause-named c = identifier_answered c.args.part.now.head c.args.part.now.contents.now
    c.visible_within.result c.visible_within.ensures
