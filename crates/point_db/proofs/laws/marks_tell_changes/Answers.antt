use Rattle.point_db.proofs.Serials.{last-within, changed-from, changed-last}
use Rattle.point_db.proofs.Marks.{few_changes, serial_kept, changed_since, since_changed}
use Rattle.point_db.proofs.laws.marks_tell_changes.Goals as goal

pub returns-clause-marks : goal.returns-clause-marks
returns-clause-marks c = last-within

pub returns-clause-above : goal.returns-clause-above
returns-clause-above c = λ kinds past point serial.
    (changed-from kinds past point serial, changed-last kinds past point serial)

pub returns-clause-rises : goal.returns-clause-rises
returns-clause-rises c = serial_kept

pub returns-clause-updates : goal.returns-clause-updates
returns-clause-updates c = few_changes

pub returns-clause-since : goal.returns-clause-since
returns-clause-since c = λ kinds since past point few.
    (changed_since kinds since past point, since_changed kinds since past point few)
