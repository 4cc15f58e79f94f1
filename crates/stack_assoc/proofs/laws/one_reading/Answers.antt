use Rattle.stack_assoc.proofs.StreamLaws.{tells_or_stops, tells_once, stops_once, never_both}
use Rattle.stack_assoc.proofs.laws.one_reading.Goals as goal

pub returns-clause-always : goal.returns-clause-always
returns-clause-always c = tells_or_stops c.messages_have_one_reading.ensures

pub returns-clause-tells : goal.returns-clause-tells
returns-clause-tells c = tells_once c.messages_have_one_reading.ensures

pub returns-clause-stops : goal.returns-clause-stops
returns-clause-stops c = stops_once c.messages_have_one_reading.ensures

pub returns-clause-never_both : goal.returns-clause-never_both
returns-clause-never_both c = never_both c.messages_have_one_reading.ensures
