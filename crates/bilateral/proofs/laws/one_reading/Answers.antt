use Rattle.std.specs.Str.Lines.{lines}
use Rattle.bilateral.specs.Reading.{centre_in}
use Rattle.bilateral.proofs.OneReading.{not_value_and_error, one_value, one_error}
use Rattle.bilateral.proofs.Spelled.{either_answer, spells-if, fault-if, spelled-found, bad-found}
use Rattle.bilateral.proofs.laws.one_reading.Goals as goal

pub returns-clause-either : goal.returns-clause-either
returns-clause-either c = λ text. either_answer text

pub returns-clause-not_both : goal.returns-clause-not_both
returns-clause-not_both c = λ text rows fault first second.
    not_value_and_error (centre_in text) rows fault (spelled-found (lines text) rows first)
    (bad-found (lines text) fault second)

pub returns-clause-one_centre : goal.returns-clause-one_centre
returns-clause-one_centre c = λ text a b first second.
    one_value (centre_in text) a b (spelled-found (lines text) a first)
    (spelled-found (lines text) b second)

pub returns-clause-one_fault : goal.returns-clause-one_fault
returns-clause-one_fault c = λ text a b first second.
    one_error (centre_in text) a b (bad-found (lines text) a first)
    (bad-found (lines text) b second)

pub returns-clause-reader_finds_centres : goal.returns-clause-reader_finds_centres
returns-clause-reader_finds_centres c = λ text rows.
    (spells-if text rows, spelled-found (lines text) rows)

pub returns-clause-reader_finds_faults : goal.returns-clause-reader_finds_faults
returns-clause-reader_finds_faults c = λ text fault.
    (fault-if text fault, bad-found (lines text) fault)
