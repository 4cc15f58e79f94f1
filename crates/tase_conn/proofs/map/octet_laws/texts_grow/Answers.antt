use Rattle.tase_conn.proofs.OfMap.Growing.{left_more, sent_more, sent_fixed, sent_concluded}
use Rattle.tase_conn.proofs.map.octet_laws.texts_grow.Goals as goal

pub returns-clause-left : goal.returns-clause-left
returns-clause-left c rows past key text more ended s =
    left_more rows past key text more ended s

pub returns-clause-open : goal.returns-clause-open
returns-clause-open c rows past key text more ended unclosed s =
    sent_more rows past key text more ended unclosed s

pub returns-clause-fixed : goal.returns-clause-fixed
returns-clause-fixed c rows past key text more ended closed s f =
    sent_fixed rows past key text more ended closed s f

pub returns-clause-concluded : goal.returns-clause-concluded
returns-clause-concluded c rows past key text more ended later closed s left now =
    sent_concluded rows past key text more ended later closed s left now
