-- What `clap` makes of `decode IN` and `decode --pdu IN`.
use Rattle.std.proofs.Common.{◌≡◌, true, List, [], ◌∷◌, Option, Some, refl, ap, codes}
use Rattle.clap.specs.Simple.{Shape, built, matches_of}
use Rattle.clap.specs.Takes.{takes}
use Rattle.clap.specs.Walk.{Held, Row, Text, Walk, first_of, nothing_held, one_of, walk_from}
use Rattle.clap.specs.Walk.{walked}
use Rattle.clap.proofs.OnLiterals.{clap_on_literals}
use Rattle.commands.specs.Words.Matched.{decode_app}
use Rattle.commands.proofs.OfWords.PlainWords.{IsPlainWord}
use Rattle.commands.proofs.OfWords.Walked.{IsRead, placed, read_more, read_none, read_placed}
use Rattle.commands.proofs.OfWords.Walked.{rows_are, taken}

abbrev shape : Shape
shape = (built decode_app).top

-- behind `--pdu`
abbrev flagged : Walk
flagged = walked shape.rules [] (walk_from nothing_held) (codes "--pdu")

abbrev end : Held → Text → Walk
end held word = placed shape 1 word held

read_stream : (word : Text) → IsPlainWord word
    → IsRead shape (walk_from nothing_held) (end nothing_held word) (word ∷ [])
unfolding clap_on_literals
read_stream word plain =
    read_placed shape 1 nothing_held (end nothing_held word) (end nothing_held word) word [] plain
    refl refl (read_none shape (end nothing_held word))

read_pdu : (word : Text) → IsPlainWord word
    → IsRead shape (walk_from nothing_held) (end flagged.held word) (codes "--pdu" ∷ word ∷ [])
unfolding clap_on_literals
read_pdu word plain =
    read_more shape (walk_from nothing_held) flagged (end flagged.held word) (codes "--pdu")
    (word ∷ []) refl refl
    (read_placed shape 1 flagged.held (end flagged.held word) (end flagged.held word) word []
    plain refl refl (read_none shape (end flagged.held word)))

pub stream_taken : (word : Text) → IsPlainWord word
    → takes decode_app (codes "decode" ∷ word ∷ []) ≡ true
unfolding clap_on_literals
stream_taken word plain = taken decode_app (codes "decode") (word ∷ []) (end nothing_held word)
    refl refl (read_stream word plain) refl refl

pub pdu_taken : (word : Text) → IsPlainWord word
    → takes decode_app (codes "decode" ∷ codes "--pdu" ∷ word ∷ []) ≡ true
unfolding clap_on_literals
pdu_taken word plain = taken decode_app (codes "decode") (codes "--pdu" ∷ word ∷ [])
    (end flagged.held word) refl refl (read_pdu word plain) refl refl

-- the flag's text, and the file
abbrev pub seen : List Row → Option Text × Option Text
seen rows = (one_of (codes "pdu") rows, first_of (codes "IN") rows)

pub stream_seen : (word : Text) → IsPlainWord word
    → seen (matches_of decode_app (codes "decode" ∷ word ∷ [])) ≡ (Some (codes "false"), Some word)
unfolding clap_on_literals
stream_seen word plain = ap seen
    (rows_are decode_app (codes "decode") (word ∷ []) (end nothing_held word) refl refl
    (read_stream word plain))

pub pdu_seen : (word : Text) → IsPlainWord word
    → seen (matches_of decode_app (codes "decode" ∷ codes "--pdu" ∷ word ∷ []))
    ≡ (Some (codes "true"), Some word)
unfolding clap_on_literals
pdu_seen word plain = ap seen
    (rows_are decode_app (codes "decode") (codes "--pdu" ∷ word ∷ []) (end flagged.held word)
    refl refl (read_pdu word plain))
