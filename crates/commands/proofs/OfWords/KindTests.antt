-- The tests of the words of commands are those of what they ask for.
use Rattle.std.proofs.Common.{◌≡◌, ◌∙◌, ◌^◌, ◌-◌, ℕ, Bool, true, false, not, ◌&&◌, ◌||◌, List, []}
use Rattle.std.proofs.Common.{◌∷◌}
use Rattle.std.proofs.Common.{Option, Some, None, is_some, option_map, option_and_then, refl, sym}
use Rattle.std.proofs.Common.{ap}
use Rattle.std.proofs.Common.{true≢false, codes, bytes_eq, if◌then◌else◌}
use Rattle.std.proofs.lemmas.Slice.Eq.{bytes_eq-Decides}
use Rattle.std.specs.Bool.{then_some}
use Rattle.plain_text.specs.Numbers.{number_up_to}
use Rattle.commands.specs.declared.words.words.CommandKind.{CommandKind}
use Rattle.commands.specs.declared.words.words.CommandKind.TheVariants as kind
use Rattle.commands.specs.Words.Kinds.{are_connect, are_options, is_question}
use Rattle.commands.specs.Words.Kinds.{kind_of_task}
use Rattle.commands.specs.Words.Words.{is_decode_pdu, is_replay, is_verify, pdu_task_in}
use Rattle.commands.specs.Words.Words.{task_in_three}
use Rattle.commands.specs.Words.Words.{Question, ReplayOptions, Task, are_file_names}
use Rattle.commands.specs.Words.Words.{is_journal_name, limit_in, loads, no_options, options_in}
use Rattle.commands.specs.Words.Words.{ClientTask, ServeTask, client_in, is_client, is_connect}
use Rattle.commands.specs.Words.Words.{plays_client, question_of, replays, serves, verifies}
use Rattle.commands.specs.Words.Words.{DiscoverTask, discover_in, discovers, is_discover}

-- a task that is made of a value, where there is one
pub kind_of_made : {A : Type 0} (o : Option A) (f : A → Task) (k : CommandKind)
    → ((x : A) → kind_of_task (f x) ≡ k)
    → then_some (is_some o) k ≡ option_map kind_of_task (option_map f o)
kind_of_made None f k is = refl
kind_of_made (Some x) f k is = ap (λ (v : CommandKind). Some v) (sym (is x))

no_option : (option : List ℕ) → (bytes_eq option (codes "--limit")
    && bytes_eq option (codes "--journal")) ≡ false
no_option option = by (bytes_eq option (codes "--limit")) refl
  where
    by : (b : Bool) → bytes_eq option (codes "--limit") ≡ b
        → (b && bytes_eq option (codes "--journal")) ≡ false
    by false is = refl
    by true is = ap (λ (v : List ℕ). bytes_eq v (codes "--journal"))
        ((bytes_eq-Decides option (codes "--limit")).0 is)

-- one option: `l` and `j` say which it is
one : (l j : Bool) (limit : Option ℕ) (named : Bool) (word : List ℕ) → (l && j) ≡ false
    → ((l && is_some limit) || (j && named)) ≡ is_some
    (if l then option_map (λ n. record no_options { limit = Some n }) limit
    else (if j then (if false || not named then None
    else Some (record no_options { journal = Some word })) else None))
one true true limit named word apart = absurd (true≢false apart)
one true false None named word apart = refl
one true false (Some n) named word apart = refl
one false true limit true word apart = refl
one false true limit false word apart = refl
one false false limit named word apart = refl

-- two options
module _ (first second : List ℕ) where
  abbrev after : Bool → Bool → Option ℕ → Bool → ReplayOptions → Option ReplayOptions
  after l j limit named options =
      if l then (if is_some options.limit then None
      else option_map (λ n. record options { limit = Some n }) limit)
      else (if j then (if is_some options.journal || not named then None
      else Some (record options { journal = Some second })) else None)

  abbrev before : Bool → Bool → Option ℕ → Bool → Option ReplayOptions
  before l j limit named =
      if l then option_map (λ n. record no_options { limit = Some n }) limit
      else (if j then (if false || not named then None
      else Some (record no_options { journal = Some first })) else None)

  two : (a b c d : Bool) (k m : Option ℕ) (p q : Bool) → (a && b) ≡ false → (c && d) ≡ false
      → (((a && is_some k) && (d && q)) || ((b && p) && (c && is_some m)))
      ≡ is_some (option_and_then (after c d m q) (before a b k p))
  two false false c d k m p q u v = refl
  two true true c d k m p q u v = absurd (true≢false u)
  two true false c d None m p q u v = refl
  two true false true true (Some n) m p q u v = absurd (true≢false v)
  two true false true false (Some n) m p q u v = refl
  two true false false true (Some n) m p true u v = refl
  two true false false true (Some n) m p false u v = refl
  two true false false false (Some n) m p q u v = refl
  two false true c d k m false q u v = refl
  two false true true true k m true q u v = absurd (true≢false v)
  two false true true false k None true q u v = refl
  two false true true false k (Some n) true q u v = refl
  two false true false true k m true q u v = refl
  two false true false false k m true q u v = refl

-- the test of options
pub options_tested : (words : List (List ℕ)) → are_options words ≡ is_some (options_in words)
options_tested [] = refl
options_tested (option ∷ []) = refl
options_tested (option ∷ word ∷ []) =
    one (bytes_eq option (codes "--limit")) (bytes_eq option (codes "--journal")) (limit_in word)
    (is_journal_name word) word (no_option option)
options_tested (option ∷ word ∷ next ∷ []) = refl
options_tested (option ∷ word ∷ next ∷ other ∷ []) =
    two word other (bytes_eq option (codes "--limit")) (bytes_eq option (codes "--journal"))
    (bytes_eq next (codes "--limit")) (bytes_eq next (codes "--journal")) (limit_in word)
    (limit_in other) (is_journal_name word) (is_journal_name other) (no_option option)
    (no_option next)
options_tested (option ∷ word ∷ next ∷ other ∷ last ∷ more) = refl

asked : {A B : Type 0} (b : Bool) (o : Option A) (f : A → B)
    → (b && is_some o) ≡ is_some (if not b then None else option_map f o)
asked false o f = refl
asked true None f = refl
asked true (Some x) f = refl

-- the test of a question
pub question_tested : (tables journal : List ℕ) (words : List (List ℕ))
    → is_question words ≡ is_some (question_of tables journal words)
question_tested tables journal [] = refl
question_tested tables journal (a ∷ []) = refl
question_tested tables journal (a ∷ b ∷ []) = refl
question_tested tables journal (a ∷ b ∷ c ∷ []) = refl
question_tested tables journal (peer ∷ ordinal ∷ given ∷ sent ∷ []) =
    asked (are_file_names peer given sent) (number_up_to (2 ^ 64 - 1) ordinal)
    (λ (number : ℕ). let q : Question = record {
      tables = tables;
      journal = journal;
      peer = peer;
      ordinal = number;
      given = given;
      sent = sent;
    } in q)
question_tested tables journal (a ∷ b ∷ c ∷ d ∷ e ∷ more) = refl

pub kind_of_replay : (tables scenario : List ℕ) (words : List (List ℕ))
    → then_some (are_options words) kind.Replay
    ≡ option_map kind_of_task (option_map (replays tables scenario) (options_in words))
kind_of_replay tables scenario words =
    ap (λ (b : Bool). then_some b kind.Replay) (options_tested words)
    ∙ kind_of_made (options_in words) (replays tables scenario) kind.Replay (λ x. refl)

pub kind_of_verify : (tables journal : List ℕ) (words : List (List ℕ))
    → then_some (is_question words) kind.Verify
    ≡ option_map kind_of_task (option_map verifies (question_of tables journal words))
kind_of_verify tables journal words =
    ap (λ (b : Bool). then_some b kind.Verify) (question_tested tables journal words)
    ∙ kind_of_made (question_of tables journal words) verifies kind.Verify (λ x. refl)

pub kind_of_load : (o : Option ℕ)
    → then_some (is_some o) kind.Load ≡ option_map kind_of_task (option_map loads o)
kind_of_load o = kind_of_made o loads kind.Load (λ x. refl)

connected : {A : Type 0} (b : Bool) (x : A) → b ≡ is_some (if b then Some x else None)
connected true x = refl
connected false x = refl

-- the test of an address to connect to
pub connect_tested : (tables script : List ℕ) (words : List (List ℕ))
    → are_connect words ≡ is_some (client_in tables script words)
connect_tested tables script [] = refl
connect_tested tables script (a ∷ []) = refl
connect_tested tables script (option ∷ word ∷ []) =
    let task : ClientTask = record { tables = tables; script = script; address = word } in
    connected (is_connect option word) task
connect_tested tables script (a ∷ b ∷ c ∷ more) = refl

pub kind_of_client : (tables script : List ℕ) (words : List (List ℕ))
    → then_some (are_connect words) kind.Client
    ≡ option_map kind_of_task (option_map plays_client (client_in tables script words))
kind_of_client tables script words =
    ap (λ (b : Bool). then_some b kind.Client) (connect_tested tables script words)
    ∙ kind_of_made (client_in tables script words) plays_client kind.Client (λ x. refl)

pub discover_tested : (tables key : List ℕ) (words : List (List ℕ))
    → are_connect words ≡ is_some (discover_in tables key words)
discover_tested tables key [] = refl
discover_tested tables key (a ∷ []) = refl
discover_tested tables key (option ∷ word ∷ []) =
    let task : DiscoverTask = record { tables = tables; key = key; address = word } in
    connected (is_connect option word) task
discover_tested tables key (a ∷ b ∷ c ∷ more) = refl

pub kind_of_discover : (tables key : List ℕ) (words : List (List ℕ))
    → then_some (are_connect words) kind.Discover
    ≡ option_map kind_of_task (option_map discovers (discover_in tables key words))
kind_of_discover tables key words =
    ap (λ (b : Bool). then_some b kind.Discover) (discover_tested tables key words)
    ∙ kind_of_made (discover_in tables key words) discovers kind.Discover (λ x. refl)

-- the test of what is to be served
pub kind_of_serve : {A : Type 0} (o : Option A) (f : A → ServeTask) (task : Option ServeTask)
    → option_map f o ≡ task
    → then_some (is_some o) kind.Serve ≡ option_map kind_of_task (option_map serves task)
kind_of_serve None f task e = ap (λ (t : Option ServeTask).
    option_map kind_of_task (option_map serves t)) e
kind_of_serve (Some x) f task e = ap (λ (t : Option ServeTask).
    option_map kind_of_task (option_map serves t)) e

module _ (first second third : List ℕ) (more : List (List ℕ)) where
  -- what the words ask for, by what they begin as
  abbrev by_discover : Bool → Option Task
  by_discover b = if b then option_map discovers (discover_in second third more) else None

  abbrev by_client : Bool → Option Task
  by_client b = if b then option_map plays_client (client_in second third more)
      else by_discover (is_discover first second third)

  abbrev by_verify : Bool → Option Task
  by_verify b = if b then option_map verifies (question_of second third more)
      else by_client (is_client first second third)

  abbrev by_pdu : Bool → Option Task
  by_pdu b = if b then pdu_task_in third more else by_verify (is_verify first second third)

  abbrev by_replay : Bool → Option Task
  by_replay b = if b then option_map (replays second third) (options_in more)
      else by_pdu (is_decode_pdu first second third)

  -- the kind of three words and more, where they begin as a replay
  pub three_replay : is_replay first second third ≡ true
      → then_some (are_options more) kind.Replay
      ≡ option_map kind_of_task (task_in_three first second third more)
  three_replay is = kind_of_replay second third more
      ∙ ap (λ (b : Bool). option_map kind_of_task (by_replay b)) (sym is)

  -- where they begin as a check
  pub three_verify : is_replay first second third ≡ false → is_decode_pdu first second third ≡ false
      → is_verify first second third ≡ true
      → then_some (is_question more) kind.Verify
      ≡ option_map kind_of_task (task_in_three first second third more)
  three_verify other unread is = kind_of_verify second third more
      ∙ ap (λ (b : Bool). option_map kind_of_task (by_verify b)) (sym is)
      ∙ ap (λ (b : Bool). option_map kind_of_task (by_pdu b)) (sym unread)
      ∙ ap (λ (b : Bool). option_map kind_of_task (by_replay b)) (sym other)

  -- where they begin as a client
  pub three_client : is_replay first second third ≡ false → is_decode_pdu first second third ≡ false
      → is_verify first second third ≡ false → is_client first second third ≡ true
      → then_some (are_connect more) kind.Client
      ≡ option_map kind_of_task (task_in_three first second third more)
  three_client other unread unchecked is = kind_of_client second third more
      ∙ ap (λ (b : Bool). option_map kind_of_task (by_client b)) (sym is)
      ∙ ap (λ (b : Bool). option_map kind_of_task (by_verify b)) (sym unchecked)
      ∙ ap (λ (b : Bool). option_map kind_of_task (by_pdu b)) (sym unread)
      ∙ ap (λ (b : Bool). option_map kind_of_task (by_replay b)) (sym other)

  -- where they begin as a listing
  pub three_discover : is_replay first second third ≡ false
      → is_decode_pdu first second third ≡ false → is_verify first second third ≡ false
      → is_client first second third ≡ false → is_discover first second third ≡ true
      → then_some (are_connect more) kind.Discover
      ≡ option_map kind_of_task (task_in_three first second third more)
  three_discover other unread unchecked apart is = kind_of_discover second third more
      ∙ ap (λ (b : Bool). option_map kind_of_task (by_discover b)) (sym is)
      ∙ ap (λ (b : Bool). option_map kind_of_task (by_client b)) (sym apart)
      ∙ ap (λ (b : Bool). option_map kind_of_task (by_verify b)) (sym unchecked)
      ∙ ap (λ (b : Bool). option_map kind_of_task (by_pdu b)) (sym unread)
      ∙ ap (λ (b : Bool). option_map kind_of_task (by_replay b)) (sym other)

  -- where they begin as none
  pub three_none : is_replay first second third ≡ false → is_decode_pdu first second third ≡ false
      → is_verify first second third ≡ false → is_client first second third ≡ false
      → is_discover first second third ≡ false
      → None ≡ option_map kind_of_task (task_in_three first second third more)
  three_none other unread unchecked apart unlisted =
      ap (λ (b : Bool). option_map kind_of_task (by_discover b)) (sym unlisted)
      ∙ ap (λ (b : Bool). option_map kind_of_task (by_client b)) (sym apart)
      ∙ ap (λ (b : Bool). option_map kind_of_task (by_verify b)) (sym unchecked)
      ∙ ap (λ (b : Bool). option_map kind_of_task (by_pdu b)) (sym unread)
      ∙ ap (λ (b : Bool). option_map kind_of_task (by_replay b)) (sym other)
