use Rattle.asking_end.proofs.service.running.hear.Goals as goal

pub returns-in-Ok-None : goal.returns-in-Ok-None
returns-in-Ok-None g c = (
  c.in-Ok-None.ensures.ok,
  cc (c.in-Ok-None.ensures.end, c.in-Ok-None.field-0-is),
)

pub returns-in-Ok-Some : goal.returns-in-Ok-Some
returns-in-Ok-Some g c = (
  c.in-Ok-Some.ensures.ok,
  cc (c.in-Ok-Some.ensures.end, c.in-Ok-Some.field-0-is),
)
