use Rattle.std.proofs.Common.{◌∙◌, ap, map, string_bytes}
use Rattle.clap.specs.Words.{App, matches_of, takes}
use Rattle.commands.specs.Words.Matched.{discover_matched}
use Rattle.commands.proofs.OfWords.ReadForms.{discover_reads}
use Rattle.commands.proofs.words.matched.read_discover.Goals as goal

pub matches_in-requires : goal.matches_in-requires
matches_in-requires c =
    let words = map string_bytes c.args.words.now in
    ap (λ (a : App). takes a words) c.in_ok-command.ensures ∙ (discover_reads words c.requires).0

pub returns : goal.returns
returns c =
    let words = map string_bytes c.args.words.now in
    c.discover_of.ensures ∙ ap discover_matched
    (c.in_ok-matches.ensures ∙ ap (λ (a : App). matches_of a words) c.in_ok-command.ensures)
    ∙ (discover_reads words c.requires).1
