use Rattle.presentation_profile.proofs.Sizes.{set_up-written}
use Rattle.presentation_profile.specs.Written.{accept_ppdu_octets}
use Rattle.presentation_profile.proofs.ppdu.put_whole_accept.Goals as goal

pub returns-clause-ok : goal.returns-clause-ok
returns-clause-ok c =
    set_up-written c.accept_len.result c.args.out.now.items c.put_front.new.out.items
    c.put_accept.new.out.items (accept_ppdu_octets c.args.called.now c.args.results.now c.args.id c.args.body.now)
    c.accept_len.ensures.value c.in_ok-put_front.ensures.ok c.in_ok-put_accept.ensures.ok
