use Rattle.std.proofs.Common.{◌≡◌, ◌+◌, ◌∷◌, ◌++◌, [], Some, length, reverse, refl, sym, ap, ◌∙◌}
use Rattle.std.proofs.lemmas.List.{length-reverse}
use Rattle.tase_views.specs.declared.event.Entry.{Entry}
use Rattle.texts.specs.Journal.Entries.{entry_in}
use Rattle.node_core.specs.LogLines.{entries_of}
use Rattle.node_core.specs.Room.{line_of}
use Rattle.node_core.proofs.OfNode.LogLines.{length-entries, entries-push, AreEntries-push}
use Rattle.node_core.proofs.OfNode.Outcomes.{reverse_push}
use Rattle.node_core.proofs.OfNode.Rooms.{HasRoom-appended}
use Rattle.node_core.proofs.node.log.Log.append.Goals as goal
use Rattle.node_core.proofs.node.log.Log.append.Goals.{Joined-entry}

-- the entry that is appended
abbrev added : Joined-entry → Entry
added c = record { who = c.args.who; event = c.args.event }

its_line : (c : Joined-entry) → entry_in (line_of c.args.who c.args.event) ≡ Some (added c)
its_line c = (c.entries_are_their_text.ensures _ (added c)).1 (refl, c.entries_have_texts.ensures)

now_has : (c : Joined-entry) → entries_of c.push_line.new.pages.lines
    ≡ entries_of c.self.inside.pages.lines ++ added c ∷ []
now_has c =
    rw c.push_line.ensures.lines
    (entries-push c.self.inside.pages.lines (line_of c.args.who c.args.event) (added c)
    (its_line c))

-- the place at which the entry stands
its_place : (c : Joined-entry) → c.len.result
    ≡ length (reverse (entries_of c.self.inside.pages.lines))
its_place c =
    c.len.ensures ∙ sym (length-entries c.self.inside.pages.lines c.self.invariant)
    ∙ sym (length-reverse (entries_of c.self.inside.pages.lines))

pub invariant_of-self : goal.invariant_of-self
invariant_of-self c =
    rw c.push_line.ensures.lines
    (AreEntries-push c.self.inside.pages.lines _ (added c) (its_line c) c.self.invariant)

pub returns-clause-entries : goal.returns-clause-entries
returns-clause-entries c = rw (← c.self.view_is) (now_has c)

pub returns-clause-room : goal.returns-clause-room
returns-clause-room c =
    rw (← c.self.view_is) (λ before behind room seats may.
    HasRoom-appended _ _ c.args.who c.args.event before behind
    (record {
      limit = refl;
      past = rw (now_has c, reverse_push) refl;
      line = c.push_line.ensures.one_fewer;
      octets = c.push_line.ensures.its_octets;
      heavier = ap (λ n. c.self.inside.weight + n) c.weight.ensures.value;
      stop = rw (← its_place c) c.stop_behind-self-inside.ensures;
    }) room seats c.ranges.who.fits may)
