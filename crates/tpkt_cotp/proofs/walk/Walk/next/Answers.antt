use Rattle.std.proofs.Common.{Some, None, Ok, Err, sym, ap, ◌∙◌, arith}
use Rattle.std.proofs.lemmas.List.{length-drop}
use Rattle.tpkt_cotp.specs.Seen.{message_seen}
use Rattle.tpkt_cotp.specs.Lines.{Line}
use Rattle.tpkt_cotp.proofs.Standing.{stands_part}
use Rattle.tpkt_cotp.proofs.Answering.{answers_message, answers_rest, answers_broken, steps_shorter}
use Rattle.tpkt_cotp.proofs.Answering.{message_shorter, clear_part, begins_part}
use Rattle.tpkt_cotp.proofs.Answering.{message_sound}
use Rattle.tpkt_cotp.proofs.Going.{steps_part, steps_message, steps_nowhere, steps_broken}
use Rattle.tpkt_cotp.proofs.Going.{hands_after}
use Rattle.tpkt_cotp.proofs.walk.Walk.next.Goals as goal

pub loop-message-smaller : goal.loop-message-smaller
loop-message-smaller c =
    let s = rw c.in-Part.is at c.in_ok-step.ensures.ok in
    let e = steps_shorter _ _ s in
    let d = length-drop c.loop-message.self.passed c.args.octets.now in
    let f = length-drop c.step.new.self.passed c.args.octets.now in
    omega (arith, e, d, f)

pub loop-message-preserved : goal.loop-message-preserved
loop-message-preserved c =
    let s = rw c.in-Part.is at c.in_ok-step.ensures.ok in
    let e = steps_shorter _ _ s in
    let d = length-drop c.loop-message.self.passed c.args.octets.now in
    let f = length-drop c.step.new.self.passed c.args.octets.now in
    let k = c.loop-message.invariant.0 in (
      record {
        clear = clear_part _ _ k.clear s;
        start = k.start ∙ sym (ap (λ (l : Line). l.start) s.is);
        goes = λ more. k.goes more ∙ steps_part _ _ k.clear s more;
        begins = begins_part _ _ _ k.begins s;
        reads = λ role heard given stands. stands_part role heard given _ _
            (k.reads role heard given stands) s;
      },
      c.in_ok-step.ensures.within,
      omega (arith, e, d, f, c.loop-message.invariant.2),
    )

pub returns-in-Message-clause-ok : goal.returns-in-Message-clause-ok
returns-in-Message-clause-ok c =
    let s = rw c.in-Message.is at c.in_ok-step.ensures.ok in
    let k = c.loop-message.invariant.0 in
    λ role heard given stands. answers_message role heard given _ _ c.in-Message.message k.clear
    (k.reads role heard given stands) s

pub returns-in-Rest-clause-ok : goal.returns-in-Rest-clause-ok
returns-in-Rest-clause-ok c =
    let s = rw c.in-Rest.is at c.in_ok-step.ensures.ok in
    let k = c.loop-message.invariant.0 in
    λ role heard given stands. answers_rest role heard given _ _ k.clear
    (k.reads role heard given stands) s

pub returns-in-Broken-clause-ok : goal.returns-in-Broken-clause-ok
returns-in-Broken-clause-ok c =
    let s = rw c.in-Broken.is at c.in_ok-step.ensures.ok in
    let k = c.loop-message.invariant.0 in
    λ role heard given stands. answers_broken role heard given _ _ c.in-Broken.fault
    (k.reads role heard given stands) s

pub returns-in-Message-clause-hands_out : goal.returns-in-Message-clause-hands_out
returns-in-Message-clause-hands_out c =
    let s = rw c.in-Message.is at c.in_ok-step.ensures.ok in
    let k = c.loop-message.invariant.0 in
    hands_after _ _ _ (Ok (Some c.in-Message.message)) k.goes k.start
    (steps_message _ _ c.in-Message.message k.clear s)

pub returns-in-Rest-clause-hands_out : goal.returns-in-Rest-clause-hands_out
returns-in-Rest-clause-hands_out c =
    let s = rw c.in-Rest.is at c.in_ok-step.ensures.ok in
    let k = c.loop-message.invariant.0 in
    hands_after _ _ _ (Ok None) k.goes k.start (steps_nowhere _ _ k.clear s)

pub returns-in-Broken-clause-hands_out : goal.returns-in-Broken-clause-hands_out
returns-in-Broken-clause-hands_out c =
    let s = rw c.in-Broken.is at c.in_ok-step.ensures.ok in
    let k = c.loop-message.invariant.0 in
    hands_after _ _ _ (Err c.in-Broken.fault) k.goes k.start
    (steps_broken _ _ c.in-Broken.fault k.clear s)

pub returns-in-Message-clause-shorter : goal.returns-in-Message-clause-shorter
returns-in-Message-clause-shorter c =
    let s = rw c.in-Message.is at c.in_ok-step.ensures.ok in
    let e = message_shorter _ _ (message_seen c.in-Message.message) s in
    let d = length-drop c.loop-message.self.passed c.args.octets.now in
    let f = length-drop c.step.new.self.passed c.args.octets.now in
    omega (arith, e, d, f, c.loop-message.invariant.2)

pub returns-in-Message-clause-sound : goal.returns-in-Message-clause-sound
returns-in-Message-clause-sound c =
    let s = rw c.in-Message.is at c.in_ok-step.ensures.ok in
    message_sound _ _ (message_seen c.in-Message.message) s

pub returns-in-Message-clause-whole : goal.returns-in-Message-clause-whole
returns-in-Message-clause-whole c =
    let s = rw c.in-Message.is at c.in_ok-step.ensures.ok in ap (λ (l : Line). l.held) s.is

pub returns-in-Rest-clause-start : goal.returns-in-Rest-clause-start
returns-in-Rest-clause-start c =
    let s = rw c.in-Rest.is at c.in_ok-step.ensures.ok in
    ap (λ (l : Line). l.start) s.is ∙ sym c.loop-message.invariant.0.start

pub returns-in-Broken-clause-start : goal.returns-in-Broken-clause-start
returns-in-Broken-clause-start c =
    let s = rw c.in-Broken.is at c.in_ok-step.ensures.ok in
    ap (λ (l : Line). l.start) s.is ∙ sym c.loop-message.invariant.0.start
