use Rattle.std.proofs.Common.{Option, ◌++◌, refl, ap, ◌∙◌}
use Rattle.std.specs.List.{cons_option}
use Rattle.sbo_device.specs.declared.key.Key.{Key}
use Rattle.tase_views.specs.Moves.{sort_of, moves_of}
use Rattle.tase_views.specs.OwnTables.{own_tables}
use Rattle.tase_views.specs.View.{Seen, View, moves_in, view_of, seen_in}
use Rattle.tase_views.proofs.Seen.{view_of-entry}
use Rattle.tase_views.proofs.Others.{act_unseen, sort_unseen}
use Rattle.tase_views.proofs.NotShown.{update_unseen, choice_unseen, tag_unseen}
use Rattle.tase_views.proofs.laws.others_are_unseen.Goals as goal

pub returns-clause-act : goal.returns-clause-act
returns-clause-act c = λ rows owns peer before key act apart none.
    act_unseen rows owns peer before key apart none act

pub returns-clause-event : goal.returns-clause-event
returns-clause-event c = λ rows past peer who event key fed is apart none.
    view_of-entry rows peer past (record { who = who; event = event })
    ∙ ap (λ (found : Option Key). seen_in rows (own_tables rows) peer (moves_in past)
    (moves_of (sort_of event) found) ++ view_of rows peer past) is
    ∙ ap (λ (v : View). v ++ view_of rows peer past)
    (sort_unseen rows (own_tables rows) peer (moves_in past) key (sort_of event) fed apart none)

pub returns-clause-update : goal.returns-clause-update
returns-clause-update c = λ rows past peer who point value none.
    ap (λ (seen : Option Seen). cons_option seen (view_of rows peer past))
    (update_unseen rows (own_tables rows) peer point (moves_in past) value none)

pub returns-clause-choice : goal.returns-clause-choice
returns-clause-choice c = λ rows past peer who other variant apart.
    ap (λ (seen : Option Seen). cons_option seen (view_of rows peer past))
    (choice_unseen rows (own_tables rows) peer other variant (moves_in past) apart)

pub returns-clause-tag : goal.returns-clause-tag
returns-clause-tag c = λ rows past peer who device tag none.
    ap (λ (seen : Option Seen). cons_option seen (view_of rows peer past))
    (tag_unseen rows (own_tables rows) peer device (moves_in past) tag none)

pub returns-clause-orders : goal.returns-clause-orders
returns-clause-orders c = λ rows past peer who. refl
