use Rattle.std.proofs.Common.{rules}
use Rattle.std.proofs.Common.{Some}
use Rattle.share_turn.proofs.shared.Shared.take_out.Goals as goal

pub exchange-requires : goal.exchange-requires
exchange-requires g c = let out = c.requires.out in (search rules, (Some out.0, cc (out.1)))
