use Rattle.std.proofs.Common.{◌≡◌, ℕ, List, Option, None, sym, ap, subst, ◌∙◌}
use Rattle.std.proofs.Common.{arith}
use Rattle.std.specs.Prelude.{slice_set}
use Rattle.std.proofs.lemmas.Bool.{false≢true}
use Rattle.data_sets.specs.Books.{defined}
use Rattle.tase_views.specs.OwnTables.{own_tables, table_in}
use Rattle.tase_views.specs.Sets.{SetError}
use Rattle.node_core.specs.declared.node.peer.Peer.{Peer}
use Rattle.node_core.specs.PeerParts.{fault_in}
use Rattle.node_core.proofs.OfSlots.Faults.{error_of_reply, no_error_of_reply}
use Rattle.node_core.proofs.CallActs.{refused_call, defining_call}
use Rattle.node_core.proofs.OfNode.Steps.{set_same}
use Rattle.node_core.proofs.OfNode.PartLists.{part_is, OneBecomes-set}
use Rattle.node_core.specs.Feeds.Indexed.{KeepsSlots}
use Rattle.node_core.proofs.OfNode.Indexing.{one_kept, one_kept-as, kept_by}
use Rattle.node_core.proofs.node.parts.Parts.define.Goals as goal

pub returns-then-not-is_defined-clause-ok : goal.returns-then-not-is_defined-clause-ok
returns-then-not-is_defined-clause-ok c = λ rows now part at replied.
    let tables = own_tables rows c.args.key.peer in
    let set = c.args.set.now in
    let members = c.args.members.now in
    let items = c.args.self.now.peers.items in
    let fault : Option SetError =
    fault_in (table_in tables part.variant) part.book set members in
    let error = error_of_reply fault
    (λ e. false≢true (sym c.if-not-is_defined.true ∙ c.is_defined.ensures.1 (replied ∙ e))) in
    set_same items c.args.key.peer part at
    ∙ ap (λ (x : Peer). slice_set items c.args.key.peer x)
    (sym (refused_call tables now c.args.key.ordinal set members part error.0 error.1))

pub returns-then-not-is_defined-clause-lawful : goal.returns-then-not-is_defined-clause-lawful
returns-then-not-is_defined-clause-lawful c = ((c.item-name.ensures.named.1, c.requires.some), tt)

pub returns-clause-ok : goal.returns-clause-ok
returns-clause-ok c = λ rows now part at replied.
    let tables = own_tables rows c.args.key.peer in
    let set = c.args.set.now in
    let members = c.args.members.now in
    let items = c.args.self.now.peers.items in
    let fault : Option SetError =
    fault_in (table_in tables part.variant) part.book set members in
    let none : fault ≡ None =
    no_error_of_reply fault (sym replied ∙ c.is_defined.ensures.0 c.if-not-is_defined.false) in
    let old = c.index_mut.result.now in
    let is : old ≡ part =
    part_is items c.args.key.peer old part
    (omega (arith, c.requires.known, c.args.self.now.peers.ok)) c.index_mut.ensures.value at in
    let named : c.define.new.self ≡ record old { book = defined old.book set.item members } =
    c.in_ok-define.ensures.ok
    ∙ ap (λ (n : List ℕ). record old { book = defined old.book n members })
    c.item-name.ensures.value in
    let made : c.define.new.self ≡ record part { book = defined part.book set.item members } =
    subst (λ (x : Peer). c.define.new.self
    ≡ record x { book = defined x.book set.item members }) is named in
    ap (λ (x : Peer). slice_set items c.args.key.peer x)
    (made ∙ sym (defining_call tables now c.args.key.ordinal set members part none))

pub returns-clause-lawful : goal.returns-clause-lawful
returns-clause-lawful c = ((c.item-name.ensures.named.1, c.requires.some), tt)

pub returns-then-not-is_defined-clause-kept : goal.returns-then-not-is_defined-clause-kept
returns-then-not-is_defined-clause-kept c = one_kept _ _

pub returns-in_err-define-clause-kept : goal.returns-in_err-define-clause-kept
returns-in_err-define-clause-kept c =
    one_kept-as c.args.key.peer c.args.self.now.peers.items c.index_mut.result.now
    c.define.new.self (omega (arith, c.requires.known, c.args.self.now.peers.ok))
    c.index_mut.ensures.value c.in_err-define.ensures.err

pub returns-clause-kept : goal.returns-clause-kept
returns-clause-kept c =
    OneBecomes-set KeepsSlots c.args.self.now.peers.items c.args.key.peer c.index_mut.result.now
    c.define.new.self (omega (arith, c.requires.known, c.args.self.now.peers.ok))
    c.index_mut.ensures.value (kept_by c.index_mut.result.now c.define.new.self _
    c.in_ok-define.ensures.ok)
