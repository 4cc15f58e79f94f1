use Rattle.std.proofs.Common.{sym, ap, ◌∙◌, [], map}
use Rattle.tase_views.specs.History.{Past}
use Rattle.tase_resume.specs.Bases.{settled_past}
use Rattle.tase_resume.specs.Warming.{of_centre, warm_events, warm_past}
use Rattle.tase_resume.specs.Recounted.{gap_of, more_opens}
use Rattle.tase_resume.proofs.WarmRead.{warm_stands, warm_tells, warm_lived, warm_sound}
use Rattle.tase_resume.proofs.ReadBack.{read_back}
use Rattle.tase_resume.proofs.ChainAlike.{snapshots_alike}
use Rattle.tase_resume.proofs.SettledAlike.{settled_twice}
use Rattle.tase_resume.proofs.AnsweredAlike.{answers_alike}
use Rattle.tase_resume.proofs.Resumed.{owns_alike, clocks_alike, stops_alike, lived_alike}
use Rattle.tase_resume.proofs.Resumed.{lived_back}
use Rattle.tase_resume.proofs.laws.a_snapshot_resumes_its_history.Goals as goal

pub returns-clause-alike : goal.returns-clause-alike
returns-clause-alike c = λ setup past later who event lawful lived going isnt.
    let rows = setup.centre in
    answers_alike rows lawful (more_opens rows past) (gap_of rows past) (settled_past past)
    (warm_past rows past) (warm_stands rows lawful past lived) setup.limit later who event going
    isnt

pub returns-clause-refused : goal.returns-clause-refused
returns-clause-refused c = λ rows past later who event lawful lived.
    let warm = warm_stands rows lawful past lived in (
      owns_alike rows lawful (more_opens rows past) (gap_of rows past) (settled_past past)
          (warm_past rows past) warm later who event,
      clocks_alike rows lawful (more_opens rows past) (gap_of rows past) (settled_past past)
          (warm_past rows past) warm later event,
      stops_alike rows lawful (more_opens rows past) (gap_of rows past) (settled_past past)
          (warm_past rows past) warm later event,
    )

pub returns-clause-lived : goal.returns-clause-lived
returns-clause-lived c = λ rows past later lawful lived.
    let warm = warm_stands rows lawful past lived in (
      lived_back rows lawful (more_opens rows past) (gap_of rows past) (settled_past past)
          (warm_past rows past) warm later,
      lived_alike rows lawful (more_opens rows past) (gap_of rows past) (settled_past past)
          (warm_past rows past) warm later,
    )

pub returns-clause-chain : goal.returns-clause-chain
returns-clause-chain c = λ rows past later lawful lived going.
    snapshots_alike rows lawful (more_opens rows past) (gap_of rows past) (settled_past past)
    (warm_past rows past) (warm_stands rows lawful past lived) (warm_tells rows lawful past lived)
    later going

pub returns-clause-again : goal.returns-clause-again
returns-clause-again c = λ rows past lawful lived.
    sym (snapshots_alike rows lawful (more_opens rows past) (gap_of rows past) (settled_past past)
    (warm_past rows past) (warm_stands rows lawful past lived) (warm_tells rows lawful past lived)
    [] (warm_lived rows lawful past lived))
    ∙ ap (λ (p : Past). map of_centre (warm_events rows p)) (settled_twice past)

pub returns-clause-sound : goal.returns-clause-sound
returns-clause-sound c = λ rows past lawful lived light.
    warm_sound rows lawful past lived light

pub returns-clause-read_back : goal.returns-clause-read_back
returns-clause-read_back c = read_back
