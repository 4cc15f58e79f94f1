use Rattle.tase_conn.proofs.OfMap.Sized.{too_long_few}
use Rattle.tase_conn.proofs.map.limits.too_long.Goals as goal

pub returns-clause-few : goal.returns-clause-few
returns-clause-few c = too_long_few c.args.invoke c.ranges.invoke.fits
