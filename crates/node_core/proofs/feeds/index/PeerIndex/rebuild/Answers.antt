use Rattle.std.proofs.Common.{◌<◌, ◌∙◌, ℕ, List, Option, length, length-set, sym, ap, subst, arith}
use Rattle.bilateral.specs.declared.rows.Table.{Table}
use Rattle.transfer_sets.specs.Banks.{OwnedSlot, slot_at}
use Rattle.transfer_sets.specs.NextDue.{IsNextMoment}
use Rattle.transfer_sets.specs.DueIndex.{next_at}
use Rattle.node_core.specs.Feeds.Indexed.{HasWatchRoom}
use Rattle.node_core.proofs.OfFeeds.Indexes.{IsWatchTo, room-cleared, watch-cleared, watch-more}
use Rattle.node_core.proofs.OfFeeds.Indexes.{dues-more}
use Rattle.node_core.proofs.feeds.index.PeerIndex.rebuild.Goals.{After-clear}
use Rattle.node_core.proofs.feeds.index.PeerIndex.rebuild.Goals as goal

kept : (c : After-clear) (table : Table)
    → HasWatchRoom (length c.args.table.now.rows.points) table c.args.self.now.watch
    → HasWatchRoom (length c.args.table.now.rows.points) table c.clear.new.self
kept c table room =
    let points = length c.args.table.now.rows.points in
    subst (HasWatchRoom points table) (sym c.clear.ensures)
    (room-cleared points table c.args.self.now.watch room)

pub loop-slot-init : goal.loop-slot-init
loop-slot-init c =
    let t = c.args.table.now in
    let book = c.args.book.now in
    let bank = c.args.bank.now in
    record {
      many = c.requires.dues;
      dues = λ s below. absurd (omega (arith, below));
      watch = subst (IsWatchTo 0 t book bank) (sym c.clear.ensures)
          (watch-cleared t book bank c.args.self.now.watch);
      room = λ other room. room;
    }

pub watch_slot-requires-clause-room : goal.watch_slot-requires-clause-room
watch_slot-requires-clause-room c =
    let at = goal.at.watch_slot-requires-clause-room c in
    c.loop-slot.invariant.room c.args.table.now.table
    (kept at.After-clear c.args.table.now.table c.requires.room)

pub loop-slot-preserved : goal.loop-slot-preserved
loop-slot-preserved c =
    let bank = c.args.bank.now in
    let slot = c.loop-slot.slot in
    let dues = c.loop-slot.self.dues in
    let within : slot < length dues = omega (arith, c.loop-slot.invariant.many, c.loop-slot-test.true) in
    record {
      many = ap (λ (d : List (Option ℕ)). length d) c.set.ensures
          ∙ length-set dues slot c.next_due.result ∙ c.loop-slot.invariant.many;
      dues = λ s below. subst (λ (d : List (Option ℕ)).
          IsNextMoment (slot_at bank s).state c.args.now (next_at d s)) (sym c.set.ensures)
          (dues-more bank slot c.args.now dues c.next_due.result within
          c.loop-slot.invariant.dues (subst (λ (slot : OwnedSlot).
          IsNextMoment slot.state c.args.now c.next_due.result) c.look-own.ensures.slot
          c.next_due.ensures) s below);
      watch = watch-more c.args.table.now c.args.book.now bank slot c.loop-slot.self.watch
          c.watch_slot.new.watch c.wish.result.now
          (c.wish.ensures ∙ ap (λ (slot : OwnedSlot). slot.state.wish) c.look-own.ensures.slot)
          c.loop-slot.invariant.watch c.watch_slot.ensures;
      room = λ other room.
          c.watch_slot.ensures.room other (c.loop-slot.invariant.room other room);
    }

pub returns-clause-room : goal.returns-clause-room
returns-clause-room c = λ other room.
    let at = goal.at.returns-clause-room c in
    c.loop-slot.invariant.room other (kept at.After-clear other room)
