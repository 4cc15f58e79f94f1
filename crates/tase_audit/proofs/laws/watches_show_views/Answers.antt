use Rattle.tase_audit.proofs.ViewsWatched.{watch_shows}
use Rattle.tase_audit.proofs.laws.watches_show_views.Goals as goal

pub returns : goal.returns
returns c = watch_shows
