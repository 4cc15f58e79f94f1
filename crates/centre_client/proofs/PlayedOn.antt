-- Whatever is heard, a script may be played on.
use Rattle.std.proofs.Common.{◌≡◌, ℕ, ℤ, Bool, true, false, List, [], ◌∷◌, Option, Some, None, drop}
use Rattle.std.specs.Prelude.{if◌then◌else◌, nat_le, ◌-◌}
use Rattle.std.specs.List.{All}
use Rattle.std.specs.Ordering.{int_eq}
use Rattle.std.proofs.lemmas.List.Elements.{All-nil, All-tail}
use Rattle.bilateral.specs.Rows.{CentreRows}
use Rattle.tase_views.specs.declared.reply.ReplyKind.{ReplyKind}
use Rattle.asking_end.specs.declared.next.Next.TheVariants as nexts
use Rattle.centre_client.specs.declared.play.Doing.{Doing}
use Rattle.centre_client.specs.declared.play.Doing.TheVariants as doings
use Rattle.centre_client.specs.declared.script.Script.{Script}
use Rattle.centre_client.specs.declared.script.Step.{Step}
use Rattle.centre_client.specs.StepLines.{IsStep}
use Rattle.centre_client.specs.Scripts.{IsScript}
use Rattle.centre_client.specs.Plays.{Playing, PlayTurn, IsPlay, at_call, doing_by, begun_by}
use Rattle.centre_client.specs.Plays.{begun, step_done, turned_to, left_behind, compared, checked}
use Rattle.centre_client.specs.Plays.{answered, number_answered, checkback_of, report_counted}

pub script_plays : (rows : CentreRows) (script : Script) → IsScript rows script
    → IsPlay rows (at_call script)
script_plays rows script h = record { peer = h.peer; rest = h.steps }

abbrev first : PlayTurn → Playing
first m = m.0

by-plays : (rows : CentreRows) (doing : Option Doing) (p : Playing) → IsPlay rows p
    → IsPlay rows (first (begun_by doing p))
by-plays rows None p h = h
by-plays rows (Some doing) p h = record { peer = h.peer; rest = h.rest }

pub begun-plays : (rows : CentreRows) (p : Playing) → IsPlay rows p → IsPlay rows (begun rows p).0
begun-plays rows p h = by-plays rows (doing_by rows p.rest) p h

rest-plays : (rows : CentreRows) (peer : ℕ) (steps : List Step)
    → All (λ step. IsStep rows peer step.kind) steps
    → All (λ step. IsStep rows peer step.kind) (drop 1 steps)
rest-plays rows peer [] all = All-nil (λ step. IsStep rows peer step.kind)
rest-plays rows peer (step ∷ more) all = All-tail (λ step. IsStep rows peer step.kind) step more all

pub left_plays : (rows : CentreRows) (p : Playing) → IsPlay rows p → IsPlay rows (left_behind p)
left_plays rows p h = record { peer = h.peer; rest = rest-plays rows p.peer p.rest h.rest }

done-plays : (rows : CentreRows) (p : Playing) → IsPlay rows p
    → IsPlay rows (first (step_done rows p))
done-plays rows p h = begun-plays rows (left_behind p) (left_plays rows p h)

compared-plays : (rows : CentreRows) (want got : ℤ) (p : Playing) → IsPlay rows p
    → IsPlay rows (first (compared want got p))
compared-plays rows want got p h = one (int_eq got want)
  where
    one : (same : Bool) → IsPlay rows
        (first (if same then turned_to doings.Reply p
        else (p, nexts.End (record { want = want; got = got }))))
    one true = record { peer = h.peer; rest = h.rest }
    one false = h

checked-plays : (rows : CentreRows) (want : ℤ) (got : Option ℤ) (p : Playing) → IsPlay rows p
    → IsPlay rows (first (checked rows want got p))
checked-plays rows want None p h = done-plays rows p h
checked-plays rows want (Some got) p h = compared-plays rows want got p h

pub answered-plays : (rows : CentreRows) (reply : ReplyKind) (doing : Doing) (p : Playing)
    → IsPlay rows p → IsPlay rows (answered rows reply doing p).0
answered-plays rows reply doings.Select p h =
    checked-plays rows (checkback_of rows p.rest)
    (number_answered (checkback_of rows p.rest) reply) p h
answered-plays rows reply doings.Reply p h = done-plays rows p h
answered-plays rows reply (doings.Reports left) p h = done-plays rows p h

pub counted-plays : (rows : CentreRows) (doing : Doing) (p : Playing) → IsPlay rows p
    → IsPlay rows (report_counted rows doing p).0
counted-plays rows (doings.Reports left) p h = one (nat_le left 1)
  where
    one : (last : Bool) → IsPlay rows
        (first (if last then step_done rows p else turned_to (doings.Reports (left - 1)) p))
    one true = done-plays rows p h
    one false = record { peer = h.peer; rest = h.rest }
counted-plays rows doings.Select p h = h
counted-plays rows doings.Reply p h = h
