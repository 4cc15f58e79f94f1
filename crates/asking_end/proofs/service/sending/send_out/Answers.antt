use Rattle.std.proofs.Common.{◌≡◌, ◌-◌, ℕ, List, [], length, subst, ap, ◌∙◌, arith, length-drop}
use Rattle.std.proofs.lemmas.Grind.{common_steps}
use Rattle.outside.specs.declared.sink.WriteEnd.TheVariants.{Took, Failed}
use Rattle.outside.specs.Links.Links.{SendsPiece}
use Rattle.asking_end.proofs.OfService.SentOut.{sent_none, sent_all, sent_more, sent_nothing}
use Rattle.asking_end.proofs.OfService.SentOut.{sent_failed}
use Rattle.asking_end.proofs.OfService.SentOut.{unwritten_none, unwritten_then}
use Rattle.asking_end.proofs.service.sending.send_out.Goals as goal

pub sends-init : goal.sends-init
sends-init g c = (
  λ first heard.
      sent_none (g.T.Terminal.told c.args.terminal.now).link first c.args.out.now.items heard,
  unwritten_none (g.T.Terminal.told c.args.terminal.now),
)

pub cut-requires : goal.cut-requires
cut-requires g c = omega (arith, c.in-Took.ensures.sends.count, c.as_slice-waits.ensures.len)

pub sends-smaller : goal.sends-smaller
sends-smaller g c =
    let e : length c.cut.new.octets.items ≡ length c.sends.out.items - c.in-Took.count =
    ap length c.cut.ensures ∙ length-drop c.in-Took.count c.sends.out.items in
    omega (
      arith,
      e,
      c.in-Took.ensures.sends.count,
      ap length c.as_slice-waits.ensures.value,
      c.if-count-eq0.false,
    )

pub sends-preserved : goal.sends-preserved
sends-preserved g c =
    let here = g.T.Terminal.told c.sends.terminal in
    let after = g.T.Terminal.told c.send.new.self in (
      λ first heard.
          let s = subst (λ (l : List ℕ). SendsPiece here.link after.link (Took c.in-Took.count) l)
          c.as_slice-waits.ensures.value c.in-Took.ensures.sends in
          sent_more (g.T.Terminal.told c.args.terminal.now).link here.link after.link first
          c.args.out.now.items c.sends.out.items (c.sends.invariant.0 first heard)
          c.cut.new.octets.items c.in-Took.count s c.cut.ensures,
      unwritten_then (g.T.Terminal.told c.args.terminal.now) here after c.sends.invariant.1
          c.in-Took.ensures.unwritten,
    )

pub returns-then-count-eq0-clause-sends : goal.returns-then-count-eq0-clause-sends
returns-then-count-eq0-clause-sends g c = λ first heard.
    let here = (g.T.Terminal.told c.sends.terminal).link in
    let after = (g.T.Terminal.told c.send.new.self).link in
    let s = subst (λ (l : List ℕ). SendsPiece here after (Took c.in-Took.count) l)
    c.as_slice-waits.ensures.value c.in-Took.ensures.sends in
    sent_nothing (g.T.Terminal.told c.args.terminal.now).link here after first
    c.args.out.now.items c.sends.out.items (c.sends.invariant.0 first heard)
    (subst (λ (n : ℕ). SendsPiece here after (Took n) c.sends.out.items) c.if-count-eq0.true s)

pub returns-then-count-eq0-clause-unwritten : goal.returns-then-count-eq0-clause-unwritten
returns-then-count-eq0-clause-unwritten g c =
    unwritten_then (g.T.Terminal.told c.args.terminal.now) (g.T.Terminal.told c.sends.terminal)
    (g.T.Terminal.told c.send.new.self) c.sends.invariant.1 c.in-Took.ensures.unwritten

pub returns-in-Failed-clause-sends : goal.returns-in-Failed-clause-sends
returns-in-Failed-clause-sends g c = λ first heard.
    let here = (g.T.Terminal.told c.sends.terminal).link in
    let after = (g.T.Terminal.told c.send.new.self).link in
    sent_failed (g.T.Terminal.told c.args.terminal.now).link here after first
    c.args.out.now.items c.sends.out.items (c.sends.invariant.0 first heard)
    (subst (λ (l : List ℕ). SendsPiece here after Failed l) c.as_slice-waits.ensures.value
    c.in-Failed.ensures.sends)

pub returns-in-Failed-clause-unwritten : goal.returns-in-Failed-clause-unwritten
returns-in-Failed-clause-unwritten g c =
    unwritten_then (g.T.Terminal.told c.args.terminal.now) (g.T.Terminal.told c.sends.terminal)
    (g.T.Terminal.told c.send.new.self) c.sends.invariant.1 c.in-Failed.ensures.unwritten

pub returns-clause-sends : goal.returns-clause-sends
returns-clause-sends g c = λ first heard.
    let none : c.sends.out.items ≡ [] = grind (arith, common_steps) in
    sent_all (g.T.Terminal.told c.args.terminal.now).link (g.T.Terminal.told c.sends.terminal).link
    first c.args.out.now.items c.sends.out.items (c.sends.invariant.0 first heard) none

pub returns-clause-unwritten : goal.returns-clause-unwritten
returns-clause-unwritten g c = c.sends.invariant.1
