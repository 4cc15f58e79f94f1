use Rattle.std.proofs.Common.{ap, ◌∙◌}
use Rattle.tase_views.specs.OwnTables.{OwnTables}
use Rattle.tase_views.specs.View.{View, view_by}
use Rattle.tase_views.specs.Answers.{reply_to}
use Rattle.tase_views.specs.Reports.{reports_pending}
use Rattle.tase_views.proofs.OwnRefusals.{own_refusal-association}
use Rattle.tase_views.proofs.laws.two_worlds.Goals as goal

pub returns-clause-reply : goal.returns-clause-reply
returns-clause-reply c = λ here there owns others moves more peer other ordinal call tables view.
    ap (λ (t : OwnTables). reply_to t (view_by here owns peer moves) ordinal call) tables
    ∙ ap (λ (v : View). reply_to (others other) v ordinal call) view

pub returns-clause-reports : goal.returns-clause-reports
returns-clause-reports c = λ here there owns others moves more peer other ordinal tables view.
    ap (λ (t : OwnTables). reports_pending t (view_by here owns peer moves) ordinal) tables
    ∙ ap (λ (v : View). reports_pending (others other) v ordinal) view

pub returns-clause-refusal : goal.returns-clause-refusal
returns-clause-refusal c = own_refusal-association
