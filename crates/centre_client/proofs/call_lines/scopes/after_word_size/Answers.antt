use Rattle.centre_client.proofs.NamesSized.{after-sized}
use Rattle.centre_client.proofs.call_lines.scopes.after_word_size.Goals as goal

pub returns-clause-size : goal.returns-clause-size
returns-clause-size c =
    after-sized c.args.word.now c.in_ok-after.after.items c.text_size.result
    c.in_ok-after.ensures c.text_size.ensures.value c.text_size.ensures.few
