use Rattle.std.proofs.Common.{◌-◌, ◌++◌, length, sym, ap, ◌∙◌, arith}
use Rattle.std.proofs.lemmas.List.{length-append}
use Rattle.mms_data.specs.Text.WordValue.{word_value}
use Rattle.mms_data.specs.Text.WordFront.{word_front}
use Rattle.mms_data.proofs.OfText.WordText.{word_begins}
use Rattle.mms_data.proofs.OfText.TextBreaks.{after_word_ends, word_breaks}
use Rattle.mms_data.proofs.text.data_text.word_at.Goals as goal

pub returns-in-Some-clause-found : goal.returns-in-Some-clause-found
returns-in-Some-clause-found c =
    word_begins c.args.levels c.args.text.now c.split_word.result.0.now c.split_word.result.1.now
    c.in-Some.value c.requires.level c.split_word.ensures.both
    (rw c.split_word.ensures.rest (after_word_ends c.args.text.now))
    (sym c.in_ok-value.ensures ∙ c.in-Some.is)

pub returns-in-None-clause-fault : goal.returns-in-None-clause-fault
returns-in-None-clause-fault c =
    let os = c.args.text.now in
    let word = c.split_word.ensures.word in
    word_breaks c.args.levels os (length os - c.word_front.result) c.requires.level (record {
      brace = c.requires.brace;
      bracket = c.requires.bracket;
      both = c.split_word.ensures.both
          ∙ (λ i. word i ++ c.split_word.ensures.rest i);
      refused = ap word_value (sym word) ∙ sym c.in_ok-value.ensures ∙ c.in-None.is;
      front = omega (
        arith,
        c.word_front.ensures.value,
        c.word_front.ensures.within,
        ap word_front word,
        ap length c.split_word.ensures.both
            ∙ length-append c.split_word.result.0.now c.split_word.result.1.now,
      );
    })
