use Rattle.outside_real.proofs.listener.RealListenerListener.accept.Goals as goal

pub returns-in-NotYet-clause-attempts : goal.returns-in-NotYet-clause-attempts
returns-in-NotYet-clause-attempts g c = rw (← c.self.view_is) c.in-NotYet.ensures

pub returns-in-Failed-clause-attempts : goal.returns-in-Failed-clause-attempts
returns-in-Failed-clause-attempts g c = rw (← c.self.view_is) c.in-Failed.ensures
