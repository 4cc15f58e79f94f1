use Rattle.std.proofs.Common.{Option, ap}
use Rattle.std.specs.List.{cons_option}
use Rattle.tase_views.specs.View.{Seen, View, view_by}
use Rattle.tase_views.specs.Outcomes.{answer_to}
use Rattle.tase_views.specs.Reports.{reports_pending}
use Rattle.tase_views.proofs.laws.unseen_moves_change_nothing.Goals as goal

pub returns-clause-view : goal.returns-clause-view
returns-clause-view c = λ rows owns peer moves move unseen.
    ap (λ (o : Option Seen). cons_option o (view_by rows owns peer moves)) unseen

pub returns-clause-answer : goal.returns-clause-answer
returns-clause-answer c = λ rows owns moves move key sort unseen.
    ap (λ (o : Option Seen). let v : View = cons_option o (view_by rows owns key.peer moves) in
    answer_to (owns key.peer) v key sort) unseen

pub returns-clause-reports : goal.returns-clause-reports
returns-clause-reports c = λ rows owns peer ordinal moves move unseen.
    ap (λ (o : Option Seen). let v : View = cons_option o (view_by rows owns peer moves) in
    reports_pending (owns peer) v ordinal) unseen
