use Rattle.conn_service.proofs.OfCourses.Answered.{answered_serves}
use Rattle.conn_service.proofs.OfCourses.Ended.{wants_on, passes_on}
use Rattle.conn_service.proofs.OfCourses.Kept.{begun_serves, taken_serves, others_serve}
use Rattle.conn_service.proofs.OfCourses.Served.{next_asked, never_refused, has_served}
use Rattle.conn_service.proofs.OfCourses.Resumed.{sent_serves}
use Rattle.conn_service.proofs.courses.laws.connections_serve.Goals as goal

pub returns-clause-begun : goal.returns-clause-begun
returns-clause-begun c rows past who v none stands p = begun_serves rows past who v none stands p

pub returns-clause-taken : goal.returns-clause-taken
returns-clause-taken c rows past who items item octets old new s input stands takes =
    taken_serves rows past who items item octets old new s input stands takes

pub returns-clause-others : goal.returns-clause-others
returns-clause-others c rows past others who items octets waiting v s a =
    others_serve rows past others who items octets waiting v s a

pub returns-clause-wanted : goal.returns-clause-wanted
returns-clause-wanted c rows past who items octets added event old new s st w pending =
    wants_on rows past who items octets added event old new s st w pending

pub returns-clause-passes : goal.returns-clause-passes
returns-clause-passes c rows past who items octets added old new s p st q g pending =
    passes_on rows past who items octets added old new s p st q g pending

pub returns-clause-next : goal.returns-clause-next
returns-clause-next c rows past who items octets event v s =
    next_asked rows past who items octets event v s

pub returns-clause-unrefused : goal.returns-clause-unrefused
returns-clause-unrefused c rows past who items octets event v s =
    never_refused rows past who items octets event v s

pub returns-clause-answered : goal.returns-clause-answered
returns-clause-answered c setup past who items octets event answer old new s right told none =
    answered_serves setup past who items octets event answer old new s right told none

pub returns-clause-served : goal.returns-clause-served
returns-clause-served c rows past who items octets v s at =
    has_served rows past who items octets v s at

pub returns-clause-sent : goal.returns-clause-sent
returns-clause-sent c rows past who items octets waiting old new s stands same =
    sent_serves rows past who items octets waiting old new s stands same
