use Rattle.conn_service.proofs.OfCourses.Left.{refused_leaves, given_up, closing_leaves, closed_leaves}
use Rattle.conn_service.proofs.OfCourses.Leftover.{others_leave, dropped_leaves, was_left, all_said}
use Rattle.conn_service.proofs.OfCourses.TooLong.{too_long_leaves}
use Rattle.conn_service.proofs.OfCourses.Unnoted.{unnoted_leaves}
use Rattle.conn_service.proofs.OfCourses.Unopened.{unopened_said}
use Rattle.tase_conn.specs.Leaving.{IsLeft}
use Rattle.tase_conn.specs.Talking.{Talking}
use Rattle.std.proofs.Common.{subst}
use Rattle.conn_service.proofs.OfCourses.Resumed.{sent_leaves, left_again}
use Rattle.conn_service.proofs.courses.laws.connections_leave.Goals as goal

pub returns-clause-refused : goal.returns-clause-refused
returns-clause-refused c rows past who items octets added event fault old new s right stands left
    pending =
    refused_leaves rows past who items octets added event fault old new s right stands left pending

pub returns-clause-given_up : goal.returns-clause-given_up
returns-clause-given_up c rows past who items octets added end old new s p stands left pending =
    given_up rows past who items octets added end old new s p stands left pending

pub returns-clause-unnoted : goal.returns-clause-unnoted
returns-clause-unnoted c setup past who items octets added event answer end old between new s right
    is stands left pending =
    unnoted_leaves setup past who items octets added event answer end old new s right stands
    (subst (λ (v : Talking). IsLeft end v new) is left) pending

pub returns-clause-too_long : goal.returns-clause-too_long
returns-clause-too_long c setup past who items octets event answer end old new s right told long =
    too_long_leaves setup past who items octets event answer end old new s right told long

pub returns-clause-closing : goal.returns-clause-closing
returns-clause-closing c rows past who items octets event whole end standing old new h leaving l =
    closing_leaves rows past who items octets event whole end standing old new h leaving l

pub returns-clause-closed : goal.returns-clause-closed
returns-clause-closed c rows past who items octets event answer whole end standing old new h told =
    closed_leaves rows past who items octets event answer whole end standing old new h told

pub returns-clause-others : goal.returns-clause-others
returns-clause-others c whole end standing rows past others who items octets waiting v h a =
    others_leave whole end standing rows past others who items octets waiting v h a

pub returns-clause-dropped : goal.returns-clause-dropped
returns-clause-dropped c whole end standing rows past who items item octets old new h p input stands
    takes =
    dropped_leaves whole end standing rows past who items item octets old new h p input stands takes

pub returns-clause-left : goal.returns-clause-left
returns-clause-left c whole end standing rows past who items octets v h p =
    was_left whole end standing rows past who items octets v h p

pub returns-clause-whole : goal.returns-clause-whole
returns-clause-whole c end standing rows past who items answered rest octets i t u a s l =
    all_said end standing rows past who items answered rest octets i t u a s l

pub returns-clause-unopened : goal.returns-clause-unopened
returns-clause-unopened c rows past who items octets peer v s =
    unopened_said rows past who items octets peer v s

pub returns-clause-sent : goal.returns-clause-sent
returns-clause-sent c whole end standing rows past who items octets waiting old new h stands same =
    sent_leaves whole end standing rows past who items octets waiting old new h stands same

pub returns-clause-again : goal.returns-clause-again
returns-clause-again c whole end other standing rows past who items octets old new h leaving stands
    left =
    left_again whole end other standing rows past who items octets old new h leaving stands left
