use Rattle.std.proofs.Common.{◌≡◌, ◌+◌, List, drop, ap, ◌∙◌, sym}
use Rattle.std.proofs.lemmas.List.{drop-drop}
use Rattle.centre_client.specs.declared.script.Step.{Step}
use Rattle.centre_client.specs.Plays.{Playing, left_behind}
use Rattle.centre_client.proofs.play.Play.leave_step.Goals as goal

pub returns-then-self-len : goal.returns-then-self-len
returns-then-self-len c =
    let old = c.self.inside in
    let playing : List Step → Playing = λ rest. record {
      peer = old.script.peer;
      rest = rest;
      doing = old.doing;
    } in
    let one : drop (old.place + 1) old.script.steps ≡ drop 1 (drop old.place old.script.steps) =
    sym (drop-drop 1 old.place old.script.steps) in
    ap playing one ∙ ap left_behind c.self.view_is
