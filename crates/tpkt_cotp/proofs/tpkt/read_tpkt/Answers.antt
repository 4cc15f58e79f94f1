use Rattle.std.proofs.Common.{◌≤◌, length, arith}
use Rattle.tpkt_cotp.specs.Sound.{IsSoundTpdu}
use Rattle.tpkt_cotp.specs.Streams.{MayComeAfter}
use Rattle.tpkt_cotp.specs.Tpdus.{Tpkt}
use Rattle.tpkt_cotp.proofs.Cuts.{sound_of}
use Rattle.tpkt_cotp.proofs.ReadTpkt.{whole_of, cut_of, within_of}
use Rattle.tpkt_cotp.proofs.tpkt.read_tpkt.Goals as goal

pub returns-clause-within : goal.returns-clause-within
returns-clause-within c = whole_of (λ (p : Tpkt). p.size ≤ length c.args.octets.now)
    c.read_front.result c.args.turn c.args.total c.args.octets.now c.read_front.ensures
    (λ p b. within_of c.args.turn c.args.total c.args.octets.now p b)

pub returns-clause-sound : goal.returns-clause-sound
returns-clause-sound c = whole_of (λ (p : Tpkt). IsSoundTpdu p.tpdu) c.read_front.result
    c.args.turn c.args.total c.args.octets.now c.read_front.ensures
    (λ p b. sound_of p.tpdu b.spelling b.spelled)

pub returns-clause-fits : goal.returns-clause-fits
returns-clause-fits c = whole_of (λ (p : Tpkt). MayComeAfter c.args.total p.tpdu) c.read_front.result
    c.args.turn c.args.total c.args.octets.now c.read_front.ensures (λ p b. b.comes.fits)

pub returns-clause-cut : goal.returns-clause-cut
returns-clause-cut c = cut_of c.read_front.result c.args.turn c.args.total c.args.octets.now
    c.read_front.ensures (omega (arith, c.type_inv.octets 2)) (omega (arith, c.type_inv.octets 3))
