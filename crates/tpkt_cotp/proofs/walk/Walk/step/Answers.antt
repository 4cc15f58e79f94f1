use Rattle.std.proofs.Common.{◌∙◌, length, refl, sym, ap, option_map}
use Rattle.std.proofs.lemmas.List.{drop-drop, take_rest}
use Rattle.tpkt_cotp.specs.Found.{tpkt_seen, tpdu_seen}
use Rattle.tpkt_cotp.specs.Seen.{message_seen}
use Rattle.tpkt_cotp.proofs.LineLemmas.{line_is, read_is, nothing_held}
use Rattle.tpkt_cotp.proofs.walk.Walk.step.Goals as goal

pub returns-in-None-clause-ok : goal.returns-in-None-clause-ok
returns-in-None-clause-ok c =
    let found = rw c.in-Ok-Some.field-0-is at c.in-Ok-Some.ensures in
    record {
      tpkt = tpkt_seen c.in-Ok-Some.tpkt;
      read = read_is c.args.self.now.turn _ _ _ _ _ (ap length c.as_slice-total.ensures.value)
          (take_rest c.args.octets.now c.args.self.now.passed) found.exact;
      ends = sym c.in_ok-take_tpdu-in-Ok-Some.ensures.message
          ∙ ap (option_map message_seen) c.in-None.is;
      is = line_is _ _ _ _ _ _ _ _ _ _ c.shifted-self.ensures refl
          c.in_ok-take_tpdu-in-Ok-Some.ensures.part
          (sym (drop-drop c.in-Ok-Some.tpkt.size c.args.self.now.passed c.args.octets.now));
    }

pub returns-in-Some-clause-ok : goal.returns-in-Some-clause-ok
returns-in-Some-clause-ok c =
    let found = rw c.in-Ok-Some.field-0-is at c.in-Ok-Some.ensures in
    let ends = sym c.in_ok-take_tpdu-in-Ok-Some.ensures.message
    ∙ ap (option_map message_seen) c.in-Some.is in
    record {
      tpkt = tpkt_seen c.in-Ok-Some.tpkt;
      read = read_is c.args.self.now.turn _ _ _ _ _ (ap length c.as_slice-total.ensures.value)
          (take_rest c.args.octets.now c.args.self.now.passed) found.exact;
      ends = ends;
      is = line_is _ _ _ _ _ _ _ _ _ _ c.shifted-self.ensures c.shifted-self.ensures
          (c.in_ok-take_tpdu-in-Ok-Some.ensures.part ∙ nothing_held c.args.self.now.start
          c.args.part.now.items (tpdu_seen c.in-Ok-Some.tpkt.tpdu)
          (message_seen c.in-Some.message) ends)
          (sym (drop-drop c.in-Ok-Some.tpkt.size c.args.self.now.passed c.args.octets.now));
    }
