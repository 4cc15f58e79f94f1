use Rattle.std.proofs.Common.{◌∙◌, Bool, ap, map, string_bytes, sym}
use Rattle.std.specs.Bool.{then_some}
use Rattle.commands.specs.declared.words.words.CommandKind.TheVariants as kind
use Rattle.commands.proofs.OfWords.KindTests.{three_client, three_discover}
use Rattle.commands.proofs.OfWords.KindTests.{three_none, three_replay, three_verify}
use Rattle.commands.proofs.words.grammar.kind_of_three.Goals as goal

pub returns-then-is_replay : goal.returns-then-is_replay
returns-then-is_replay c =
    c.then_some.ensures ∙ ap (λ (b : Bool). then_some b kind.Replay) c.are_options.ensures
    ∙ three_replay c.args.first.now c.args.second.now c.args.third.now
    (map string_bytes c.args.more.now) (sym c.is_replay.ensures ∙ c.if-is_replay.true)

pub returns-then-is_verify : goal.returns-then-is_verify
returns-then-is_verify c =
    c.then_some-then-is_verify.ensures
    ∙ ap (λ (b : Bool). then_some b kind.Verify) c.is_question.ensures
    ∙ three_verify c.args.first.now c.args.second.now c.args.third.now
    (map string_bytes c.args.more.now) (sym c.is_replay.ensures ∙ c.if-is_replay.false)
    (sym c.is_decode_pdu.ensures ∙ c.if-is_decode_pdu.false)
    (sym c.is_verify.ensures ∙ c.if-is_verify.true)

pub returns-then-is_client : goal.returns-then-is_client
returns-then-is_client c =
    c.then_some-then-is_client.ensures
    ∙ ap (λ (b : Bool). then_some b kind.Client) c.are_connect.ensures
    ∙ three_client c.args.first.now c.args.second.now c.args.third.now
    (map string_bytes c.args.more.now) (sym c.is_replay.ensures ∙ c.if-is_replay.false)
    (sym c.is_decode_pdu.ensures ∙ c.if-is_decode_pdu.false)
    (sym c.is_verify.ensures ∙ c.if-is_verify.false)
    (sym c.is_client.ensures ∙ c.if-is_client.true)

pub returns-then-is_discover : goal.returns-then-is_discover
returns-then-is_discover c =
    c.then_some-then-is_discover.ensures
    ∙ ap (λ (b : Bool). then_some b kind.Discover) c.are_connect-then-is_discover.ensures
    ∙ three_discover c.args.first.now c.args.second.now c.args.third.now
    (map string_bytes c.args.more.now) (sym c.is_replay.ensures ∙ c.if-is_replay.false)
    (sym c.is_decode_pdu.ensures ∙ c.if-is_decode_pdu.false)
    (sym c.is_verify.ensures ∙ c.if-is_verify.false)
    (sym c.is_client.ensures ∙ c.if-is_client.false)
    (sym c.is_discover.ensures ∙ c.if-is_discover.true)

pub returns : goal.returns
returns c =
    three_none c.args.first.now c.args.second.now c.args.third.now
    (map string_bytes c.args.more.now) (sym c.is_replay.ensures ∙ c.if-is_replay.false)
    (sym c.is_decode_pdu.ensures ∙ c.if-is_decode_pdu.false)
    (sym c.is_verify.ensures ∙ c.if-is_verify.false)
    (sym c.is_client.ensures ∙ c.if-is_client.false)
    (sym c.is_discover.ensures ∙ c.if-is_discover.false)
