use Rattle.std.proofs.Common.{◌∙◌, Bool, ap, map, string_bytes}
use Rattle.std.specs.Bool.{then_some}
use Rattle.commands.specs.declared.words.words.CommandKind.TheVariants as kind
use Rattle.commands.specs.Words.Words.{serve_in, serve_seen}
use Rattle.commands.proofs.OfWords.KindTests as tests
use Rattle.commands.proofs.words.grammar.kind_of_serve.Goals as goal

pub returns : goal.returns
returns c =
    c.then_some.ensures
    ∙ ap (λ (b : Bool). then_some b kind.Serve) c.is_some.ensures
    ∙ tests.kind_of_serve c.serve_in.result serve_seen
    (serve_in c.args.tables.now (map string_bytes c.args.words.now)) c.serve_in.ensures
