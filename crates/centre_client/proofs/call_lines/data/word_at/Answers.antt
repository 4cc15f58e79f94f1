use Rattle.mms_data.specs.Text.WordValue.{word_value}
use Rattle.centre_client.proofs.MembersSized.{none_any, word-none, word-sized}
use Rattle.centre_client.proofs.ValuesSized.{size-few}
use Rattle.centre_client.proofs.call_lines.data.word_at.Goals as goal

pub returns-in_err-len-clause-none : goal.returns-in_err-len-clause-none
returns-in_err-len-clause-none c =
    none_any c.from_residual.result
    (word-none c.args.levels c.args.text.now c.split_word.result.0.now c.requires.brace
    c.requires.bracket c.split_word.ensures.word c.in_err-len.ensures)

pub returns-clause-some : goal.returns-clause-some
returns-clause-some c =
    word-sized c.args.levels c.args.text.now c.split_word.result.0.now c.split_word.result.1.now
    c.in_ok-len.len c.requires.level c.requires.brace c.requires.bracket
    c.split_word.ensures.word c.split_word.ensures.rest c.in_ok-len.ensures

pub returns-clause-few : goal.returns-clause-few
returns-clause-few c =
    size-few (word_value c.split_word.result.0.now) c.in_ok-len.len c.in_ok-len.ensures
