use Rattle.std.proofs.Common.{◌∙◌, ap, map, string_bytes, option_map, codes}
use Rattle.clap.specs.Words.{App, first_of, matches_of, one_of, takes}
use Rattle.commands.specs.Words.Words.{decodes_pdu, lists_stream, task_of}
use Rattle.commands.proofs.OfWords.ReadForms.{decode_reads}
use Rattle.commands.proofs.words.matched.read_decode.Goals as goal

pub matches_in-requires : goal.matches_in-requires
matches_in-requires c =
    let words = map string_bytes c.args.words.now in
    ap (λ (a : App). takes a words) c.in_ok-command.ensures ∙ (decode_reads words c.requires).taken

pub returns : goal.returns
returns c =
    let words = map string_bytes c.args.words.now in
    let rows = c.in_ok-matches.ensures
    ∙ ap (λ (a : App). matches_of a words) c.in_ok-command.ensures in
    (decode_reads words c.requires).stream (option_map task_of c.decode_of.result)
    (λ e. c.decode_of.ensures.stream (ap (one_of (codes "pdu")) rows ∙ e)
    ∙ ap (λ r. option_map lists_stream (first_of (codes "IN") r)) rows)
    (λ e. c.decode_of.ensures.pdu (ap (one_of (codes "pdu")) rows ∙ e)
    ∙ ap (λ r. option_map decodes_pdu (first_of (codes "IN") r)) rows)
