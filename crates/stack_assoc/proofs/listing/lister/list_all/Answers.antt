use Rattle.std.proofs.Common.{◌≡◌, ◌-◌, ◌∙◌, ◌++◌, ℕ, Bool, false, Some, Ok, Err, Result}
use Rattle.std.proofs.Common.{Option, ap, subst}
use Rattle.tpkt_cotp.specs.declared.fault.CotpFault.{CotpFault}
use Rattle.tpkt_cotp.specs.declared.message.TransportIn.{TransportIn}
use Rattle.tpkt_cotp.specs.Seen.{message_seen}
use Rattle.tpkt_cotp.specs.Goings.{HandsOut}
use Rattle.stack_assoc.specs.declared.messages.fault.StackFault.{StackFault}
use Rattle.stack_assoc.specs.Listing.Lines.{fault_line}
use Rattle.stack_assoc.specs.Listing.Hearing.{told_in}
use Rattle.stack_assoc.specs.Listing.Listings.{state, IsListed}
use Rattle.stack_assoc.proofs.OfListing.Listing.{lists_then, lists_message, lists_fault}
use Rattle.stack_assoc.proofs.listing.lister.list_all.Goals as goal

pub loop-message-preserved-else-branch-5 : goal.loop-message-preserved-else-branch-5
loop-message-preserved-else-branch-5 c =
    let t = c.loop-message.transport in
    let u = c.next.new.self in
    let m = c.in-Ok-Some.message in
    let context = c.loop-message.context in
    let now = c.list_message.new.context in
    let size = c.saturating_sub-size.result in
    let before = c.loop-message.out.items in
    let after = c.list_message.new.out.items in
    let is : c.in_ok-message.field-0 ≡ Ok (Some m) = cc in
    let hands : HandsOut t (Ok (Some m)) u =
    subst (λ (a : Result (Option TransportIn) CotpFault). HandsOut t a u) is
    c.in_ok-message.ensures.hands_out in
    let sized : size ≡ u.start - t.start = c.saturating_sub-size.ensures
    ∙ ap (λ (n : ℕ). n - c.start-place.result) c.start.ensures
    ∙ ap (λ (n : ℕ). u.start - n) c.start-place.ensures in
    let P : ℕ → Bool → Type 0 = λ n b. IsListed (told_in context (message_seen m)) n size context
    now before after b in
    let listed : P t.start false =
    subst (λ (n : ℕ). P n false) c.start-place.ensures
    (subst (λ (b : Bool). P c.start-place.result b) c.if-branch.false
    c.in_ok-list_message-in-Ok-Some.ensures.listed) in
    lists_then _ (state t context false) _ _ before after c.loop-message.invariant
    (lists_message t u m context now size before after false hands sized listed)

pub returns-in-Err-clause-lists : goal.returns-in-Err-clause-lists
returns-in-Err-clause-lists c =
    let t = c.loop-message.transport in
    let u = c.next.new.self in
    let f = c.in-Err.fault in
    let context = c.loop-message.context in
    let before = c.loop-message.out.items in
    let after = c.put_fault.new.out.items in
    let is : c.in_ok-message.field-0 ≡ Err f = cc in
    let hands : HandsOut t (Err f) u =
    subst (λ (a : Result (Option TransportIn) CotpFault). HandsOut t a u) is
    c.in_ok-message.ensures.hands_out in
    lists_then _ (state t context false) _ _ before after c.loop-message.invariant
    (lists_fault t u f context before after hands
    (c.in_ok-put_fault-in-Err.ensures.ok
    ∙ ap (λ (g : StackFault). before ++ fault_line g) c.transport_fault.ensures))
