use Rattle.std.proofs.Common.{◌≡◌, ◌∙◌, ◌-◌, ◌<◌, ◌≤◌, List, ℕ, [], ◌∷◌, length, take, drop, get_or}
use Rattle.std.proofs.Common.{Some, None, option_and_then, map, string_bytes, refl, ap, arith}
use Rattle.std.proofs.Common.{rules}
use Rattle.std.specs.Prelude.{String}
use Rattle.std.specs.declared.alloc.Global.{Global}
use Rattle.std.proofs.lemmas.List.{take_all}
use Rattle.commands.specs.Words.Kinds.{given_seen}
use Rattle.commands.specs.Words.Words.{ServeOptions, serve_option, serve_options}
use Rattle.commands.proofs.words.grammar.+serve_options.Goals as goal

-- an option without a word
alone : (words : List (String Global)) (given : ServeOptions) → 1 ≤ length words
    → length words < 2 → None ≡ serve_options (map string_bytes words) given
alone [] given some few = absurd (omega (arith, some))
alone (a ∷ []) given some few = refl
alone (a ∷ b ∷ more) given some few = absurd (omega (arith, few))

-- an option and its word, and those behind it
behind : (words : List (String Global)) (a b : String Global) (given mid : ServeOptions)
    (option word : List ℕ) → 2 ≤ length words → a ≡ get_or words 0 a → b ≡ get_or words 1 b
    → option ≡ string_bytes a → word ≡ string_bytes b → Some mid ≡ serve_option option word given
    → serve_options (map string_bytes (take (length words - 2) (drop 2 words))) mid
    ≡ serve_options (map string_bytes words) given
behind [] a b given mid option word two first second is that e = absurd (omega (arith, two))
behind (x ∷ []) a b given mid option word two first second is that e =
    absurd (omega (arith, two))
behind (x ∷ y ∷ more) a b given mid option word two first second is that e =
    let same : take (length (x ∷ y ∷ more) - 2) more ≡ more =
    take_all (length (x ∷ y ∷ more) - 2) more (omega arith) in
    ap (λ (l : List (String Global)). serve_options (map string_bytes l) mid) same
    ∙ ap (option_and_then (serve_options (map string_bytes more)))
    (e ∙ ap (λ (v : List ℕ). serve_option v word given) (is ∙ ap string_bytes first)
    ∙ ap (λ (v : List ℕ). serve_option (string_bytes x) v given) (that ∙ ap string_bytes second))

pub returns-in_default : goal.returns-in_default
returns-in_default t c =
    alone c.args.words.now (given_seen c.args.given) (omega arith) (omega arith)

pub returns-in_ok-next-in-len2-up : goal.returns-in_ok-next-in-len2-up
returns-in_ok-next-in-len2-up t c =
    let next = c.in_ok-next-in-len2-up in
    c.serve_options.ensures
    ∙ behind c.args.words.now c.option-item.result c.word-item.result (given_seen c.args.given)
    (given_seen next.next) c.as_str.result.now c.as_str-in-len2-up.result.now (omega arith)
    c.option-item.is c.word-item.is (search rules) (search rules) next.ensures
