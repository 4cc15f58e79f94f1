-- The words of each command, from what is asked.
use Rattle.std.proofs.Common.{◌≡◌, ◌∙◌, ◌^◌, ◌-◌, inl, inr, ℕ, Bool, true, false, not, ◌&&◌, List}
use Rattle.std.proofs.Common.{[], ◌∷◌}
use Rattle.std.proofs.Common.{Option, Some, None, option_map, subst, ap, sym, codes, bytes_eq, refl}
use Rattle.std.proofs.Common.{if◌then◌else◌, true≢false}
use Rattle.std.proofs.lemmas.Slice.Eq.{bytes_eq-Decides}
use Rattle.plain_text.specs.Numbers.{number_up_to}
use Rattle.commands.specs.Words.Words.{Question, ReplayOptions, Task, are_file_names, decodes_pdu}
use Rattle.commands.specs.Words.Words.{is_decode, is_decode_pdu, is_file_name, is_replay, is_verify}
use Rattle.commands.specs.Words.Words.{lists_stream, loads, options_in, pdu_task_in, question_in}
use Rattle.commands.specs.Words.Words.{question_of, replays, rounds_in, task_in, task_in_three}
use Rattle.commands.specs.Words.Words.{task_behind, task_in_two, verifies}
use Rattle.commands.specs.Words.Words.{ClientTask, ServeTask, client_in, is_client, is_serve}
use Rattle.commands.specs.Words.Words.{plays_client, serve_in, serves}
use Rattle.commands.specs.Words.Words.{DiscoverTask, discover_in, discovers, is_discover}
use Rattle.commands.proofs.OfWords.Tests.{both, chosen, mapped, not_none, some_is}

-- `replay TABLES SCENARIO` and options
pub record AreReplay (tables scenario : List ℕ) (options : ReplayOptions) (words : List (List ℕ))
    : Type 0 where
  pub more : List (List ℕ)
  pub words_are : words ≡ codes "replay" ∷ tables ∷ scenario ∷ more
  pub tables_name : is_file_name tables ≡ true
  pub scenario_name : is_file_name scenario ≡ true
  pub options_are : options_in more ≡ Some options

-- `decode IN`
pub record AreStream (capture : List ℕ) (words : List (List ℕ)) : Type 0 where
  pub words_are : words ≡ codes "decode" ∷ capture ∷ []
  pub capture_name : is_file_name capture ≡ true

-- `decode --pdu IN`
pub record ArePdu (capture : List ℕ) (words : List (List ℕ)) : Type 0 where
  pub words_are : words ≡ codes "decode" ∷ codes "--pdu" ∷ capture ∷ []
  pub capture_name : is_file_name capture ≡ true

-- `KEY ORDINAL IN OUT` behind two words
pub record AreBehind (tables journal : List ℕ) (words : List (List ℕ)) (question : Question)
    : Type 0 where
  pub ordinal : List ℕ
  pub words_are : words ≡ question.peer ∷ ordinal ∷ question.given ∷ question.sent ∷ []
  pub same_tables : question.tables ≡ tables
  pub same_journal : question.journal ≡ journal
  pub peer_name : is_file_name question.peer ≡ true
  pub given_name : is_file_name question.given ≡ true
  pub sent_name : is_file_name question.sent ≡ true
  pub ordinal_is : number_up_to (2 ^ 64 - 1) ordinal ≡ Some question.ordinal

-- `verify TABLES JOURNAL KEY ORDINAL IN OUT`
pub record AreVerify (question : Question) (words : List (List ℕ)) : Type 0 where
  pub ordinal : List ℕ
  pub words_are : words ≡ codes "verify" ∷ question.tables ∷ question.journal ∷ question.peer
      ∷ ordinal ∷ question.given ∷ question.sent ∷ []
  pub tables_name : is_file_name question.tables ≡ true
  pub journal_name : is_file_name question.journal ≡ true
  pub peer_name : is_file_name question.peer ≡ true
  pub given_name : is_file_name question.given ≡ true
  pub sent_name : is_file_name question.sent ≡ true
  pub ordinal_is : number_up_to (2 ^ 64 - 1) ordinal ≡ Some question.ordinal

-- `load N`
pub record AreLoad (rounds : ℕ) (words : List (List ℕ)) : Type 0 where
  pub word : List ℕ
  pub words_are : words ≡ codes "load" ∷ word ∷ []
  pub rounds_are : rounds_in word ≡ Some rounds

-- `serve TABLES` and options
pub record AreServe (task : ServeTask) (words : List (List ℕ)) : Type 0 where
  pub tables : List ℕ
  pub more : List (List ℕ)
  pub words_are : words ≡ codes "serve" ∷ tables ∷ more
  pub tables_name : is_file_name tables ≡ true
  pub task_is : serve_in tables more ≡ Some task

-- `client TABLES SCRIPT` and an address
pub record AreClient (task : ClientTask) (words : List (List ℕ)) : Type 0 where
  pub tables : List ℕ
  pub script : List ℕ
  pub more : List (List ℕ)
  pub words_are : words ≡ codes "client" ∷ tables ∷ script ∷ more
  pub tables_name : is_file_name tables ≡ true
  pub script_name : is_file_name script ≡ true
  pub task_is : client_in tables script more ≡ Some task

-- `discover TABLES KEY` and an address
pub record AreDiscover (task : DiscoverTask) (words : List (List ℕ)) : Type 0 where
  pub tables : List ℕ
  pub key : List ℕ
  pub more : List (List ℕ)
  pub words_are : words ≡ codes "discover" ∷ tables ∷ key ∷ more
  pub tables_name : is_file_name tables ≡ true
  pub key_name : is_file_name key ≡ true
  pub task_is : discover_in tables key more ≡ Some task

abbrev pub HasForm : Task → List (List ℕ) → Type 0
HasForm (replays tables scenario options) words = AreReplay tables scenario options words
HasForm (lists_stream capture) words = AreStream capture words
HasForm (decodes_pdu capture) words = ArePdu capture words
HasForm (verifies question) words = AreVerify question words
HasForm (loads rounds) words = AreLoad rounds words
HasForm (serves task) words = AreServe task words
HasForm (plays_client task) words = AreClient task words
HasForm (discovers task) words = AreDiscover task words

text_is : (xs ys : List ℕ) → bytes_eq xs ys ≡ true → xs ≡ ys
text_is xs ys e = (bytes_eq-Decides xs ys).0 e

stream : (first second : List ℕ) → is_decode first second ≡ true
    → AreStream second (first ∷ second ∷ [])
stream first second e =
    let h = both (bytes_eq first (codes "decode")) (is_file_name second) e in
    record {
      words_are = ap (λ (v : List ℕ). v ∷ second ∷ []) (text_is first (codes "decode") h.0);
      capture_name = h.1;
    }

load : (first second : List ℕ) (task : Task) → bytes_eq first (codes "load") ≡ true
    → option_map loads (rounds_in second) ≡ Some task → HasForm task (first ∷ second ∷ [])
load first second task is e =
    let m = mapped (rounds_in second) loads task e in
    let form : AreLoad m.0 (first ∷ second ∷ []) = record {
      word = second;
      words_are = ap (λ (v : List ℕ). v ∷ second ∷ []) (text_is first (codes "load") is);
      rounds_are = m.1;
    } in
    subst (λ (t : Task). HasForm t (first ∷ second ∷ [])) m.2 form

two : (first second : List ℕ) (task : Task) → task_in_two first second ≡ Some task
    → HasForm task (first ∷ second ∷ [])
two first second task e =
    elim (chosen (is_decode first second) (Some (lists_stream second))
    (if bytes_eq first (codes "load") then option_map loads (rounds_in second) else None) task e) [
      | inl h ↦ subst (λ (t : Task). HasForm t (first ∷ second ∷ []))
          (some_is (lists_stream second) task h.1) (stream first second h.0)
      | inr h ↦ elim (chosen (bytes_eq first (codes "load"))
          (option_map loads (rounds_in second)) None task h.1) [
            | inl k ↦ load first second task k.0 k.1
            | inr k ↦ absurd (not_none task k.1)
          ]
    ]

replay : (first second third : List ℕ) (more : List (List ℕ)) (task : Task)
    → is_replay first second third ≡ true
    → option_map (replays second third) (options_in more) ≡ Some task
    → HasForm task (first ∷ second ∷ third ∷ more)
replay first second third more task is e =
    let m = mapped (options_in more) (replays second third) task e in
    let h = both (bytes_eq first (codes "replay") && is_file_name second) (is_file_name third) is in
    let k = both (bytes_eq first (codes "replay")) (is_file_name second) h.0 in
    let form : AreReplay second third m.0 (first ∷ second ∷ third ∷ more) = record {
      more = more;
      words_are = ap (λ (v : List ℕ). v ∷ second ∷ third ∷ more)
          (text_is first (codes "replay") k.0);
      tables_name = k.1;
      scenario_name = h.1;
      options_are = m.1;
    } in
    subst (λ (t : Task). HasForm t (first ∷ second ∷ third ∷ more)) m.2 form

pdu : (first second third : List ℕ) (more : List (List ℕ)) (task : Task)
    → is_decode_pdu first second third ≡ true → pdu_task_in third more ≡ Some task
    → HasForm task (first ∷ second ∷ third ∷ more)
pdu first second third [] task is e =
    let h = both (bytes_eq first (codes "decode") && bytes_eq second (codes "--pdu"))
    (is_file_name third) is in
    let k = both (bytes_eq first (codes "decode")) (bytes_eq second (codes "--pdu")) h.0 in
    let form : ArePdu third (first ∷ second ∷ third ∷ []) = record {
      words_are = ap (λ (v : List ℕ). v ∷ second ∷ third ∷ []) (text_is first (codes "decode") k.0)
          ∙ ap (λ (v : List ℕ). codes "decode" ∷ v ∷ third ∷ [])
          (text_is second (codes "--pdu") k.1);
      capture_name = h.1;
    } in
    subst (λ (t : Task). HasForm t (first ∷ second ∷ third ∷ []))
    (some_is (decodes_pdu third) task e) form
pdu first second third (next ∷ more) task is e = absurd (not_none task e)

not_false : (b : Bool) → not b ≡ false → b ≡ true
not_false true e = refl
not_false false e = absurd (true≢false e)

question : (tables journal peer ordinal given sent : List ℕ) (q : Question)
    → question_in tables journal peer ordinal given sent ≡ Some q
    → AreBehind tables journal (peer ∷ ordinal ∷ given ∷ sent ∷ []) q
question tables journal peer ordinal given sent q e =
    let asked : ℕ → Question = λ number. record {
      tables = tables;
      journal = journal;
      peer = peer;
      ordinal = number;
      given = given;
      sent = sent;
    } in
    elim (chosen (not (are_file_names peer given sent)) None
    (option_map asked (number_up_to (2 ^ 64 - 1) ordinal)) q e) [
      | inl h ↦ absurd (not_none q h.1)
      | inr h ↦
          let m = mapped (number_up_to (2 ^ 64 - 1) ordinal) asked q h.1 in
          let names = not_false (are_file_names peer given sent) h.0 in
          let k = both (is_file_name peer && is_file_name given) (is_file_name sent) names in
          let l = both (is_file_name peer) (is_file_name given) k.0 in
          let form : AreBehind tables journal (peer ∷ ordinal ∷ given ∷ sent ∷ []) (asked m.0) =
          record {
            ordinal = ordinal;
            words_are = refl;
            same_tables = refl;
            same_journal = refl;
            peer_name = l.0;
            given_name = l.1;
            sent_name = k.1;
            ordinal_is = m.1;
          } in
          subst (λ (v : Question). AreBehind tables journal (peer ∷ ordinal ∷ given ∷ sent ∷ []) v)
          m.2 form
    ]

behind : (tables journal : List ℕ) (words : List (List ℕ)) (q : Question)
    → question_of tables journal words ≡ Some q → AreBehind tables journal words q
behind tables journal (peer ∷ ordinal ∷ given ∷ sent ∷ []) q e =
    question tables journal peer ordinal given sent q e
behind tables journal _ q e = absurd (not_none q e)

verify : (first second third : List ℕ) (more : List (List ℕ)) (task : Task)
    → is_verify first second third ≡ true
    → option_map verifies (question_of second third more) ≡ Some task
    → HasForm task (first ∷ second ∷ third ∷ more)
verify first second third more task is e =
    let m = mapped (question_of second third more) verifies task e in
    let h = both (bytes_eq first (codes "verify") && is_file_name second) (is_file_name third) is in
    let k = both (bytes_eq first (codes "verify")) (is_file_name second) h.0 in
    let b = behind second third more m.0 m.1 in
    let form : AreVerify m.0 (first ∷ second ∷ third ∷ more) = record {
      ordinal = b.ordinal;
      words_are = ap (λ (v : List ℕ). v ∷ second ∷ third ∷ more)
          (text_is first (codes "verify") k.0)
          ∙ ap (λ (v : List (List ℕ)). codes "verify" ∷ second ∷ third ∷ v) b.words_are
          ∙ ap (λ (v : List ℕ). codes "verify" ∷ v ∷ third ∷ m.0.peer ∷ b.ordinal ∷ m.0.given
          ∷ m.0.sent ∷ []) (sym b.same_tables)
          ∙ ap (λ (v : List ℕ). codes "verify" ∷ m.0.tables ∷ v ∷ m.0.peer ∷ b.ordinal ∷ m.0.given
          ∷ m.0.sent ∷ []) (sym b.same_journal);
      tables_name = subst (λ (v : List ℕ). is_file_name v ≡ true) (sym b.same_tables) k.1;
      journal_name = subst (λ (v : List ℕ). is_file_name v ≡ true) (sym b.same_journal) h.1;
      peer_name = b.peer_name;
      given_name = b.given_name;
      sent_name = b.sent_name;
      ordinal_is = b.ordinal_is;
    } in
    subst (λ (t : Task). HasForm t (first ∷ second ∷ third ∷ more)) m.2 form

client : (first second third : List ℕ) (more : List (List ℕ)) (task : Task)
    → is_client first second third ≡ true
    → option_map plays_client (client_in second third more) ≡ Some task
    → HasForm task (first ∷ second ∷ third ∷ more)
client first second third more task is e =
    let m = mapped (client_in second third more) plays_client task e in
    let h = both (bytes_eq first (codes "client") && is_file_name second) (is_file_name third) is in
    let k = both (bytes_eq first (codes "client")) (is_file_name second) h.0 in
    let form : AreClient m.0 (first ∷ second ∷ third ∷ more) = record {
      tables = second;
      script = third;
      more = more;
      words_are = ap (λ (v : List ℕ). v ∷ second ∷ third ∷ more)
          (text_is first (codes "client") k.0);
      tables_name = k.1;
      script_name = h.1;
      task_is = m.1;
    } in
    subst (λ (t : Task). HasForm t (first ∷ second ∷ third ∷ more)) m.2 form

discover : (first second third : List ℕ) (more : List (List ℕ)) (task : Task)
    → is_discover first second third ≡ true
    → option_map discovers (discover_in second third more) ≡ Some task
    → HasForm task (first ∷ second ∷ third ∷ more)
discover first second third more task is e =
    let m = mapped (discover_in second third more) discovers task e in
    let h = both (bytes_eq first (codes "discover") && is_file_name second) (is_file_name third) is
    in
    let k = both (bytes_eq first (codes "discover")) (is_file_name second) h.0 in
    let form : AreDiscover m.0 (first ∷ second ∷ third ∷ more) = record {
      tables = second;
      key = third;
      more = more;
      words_are = ap (λ (v : List ℕ). v ∷ second ∷ third ∷ more)
          (text_is first (codes "discover") k.0);
      tables_name = k.1;
      key_name = h.1;
      task_is = m.1;
    } in
    subst (λ (t : Task). HasForm t (first ∷ second ∷ third ∷ more)) m.2 form

serve : (first second : List ℕ) (more : List (List ℕ)) (task : Task)
    → is_serve first second ≡ true → option_map serves (serve_in second more) ≡ Some task
    → HasForm task (first ∷ second ∷ more)
serve first second more task is e =
    let m = mapped (serve_in second more) serves task e in
    let h = both (bytes_eq first (codes "serve")) (is_file_name second) is in
    let form : AreServe m.0 (first ∷ second ∷ more) = record {
      tables = second;
      more = more;
      words_are = ap (λ (v : List ℕ). v ∷ second ∷ more) (text_is first (codes "serve") h.0);
      tables_name = h.1;
      task_is = m.1;
    } in
    subst (λ (t : Task). HasForm t (first ∷ second ∷ more)) m.2 form

three : (first second third : List ℕ) (more : List (List ℕ)) (task : Task)
    → task_in_three first second third more ≡ Some task
    → HasForm task (first ∷ second ∷ third ∷ more)
three first second third more task e =
    let fifth_else : Option Task = if is_discover first second third
    then option_map discovers (discover_in second third more) else None in
    let fourth_else : Option Task = if is_client first second third
    then option_map plays_client (client_in second third more) else fifth_else in
    let third_else : Option Task = if is_verify first second third
    then option_map verifies (question_of second third more) else fourth_else in
    let second_else : Option Task =
    if is_decode_pdu first second third then pdu_task_in third more else third_else in
    elim (chosen (is_replay first second third)
    (option_map (replays second third) (options_in more)) second_else task e) [
      | inl h ↦ replay first second third more task h.0 h.1
      | inr h ↦ elim (chosen (is_decode_pdu first second third) (pdu_task_in third more) third_else
          task h.1) [
            | inl k ↦ pdu first second third more task k.0 k.1
            | inr k ↦ elim (chosen (is_verify first second third)
                (option_map verifies (question_of second third more)) fourth_else task k.1) [
                  | inl l ↦ verify first second third more task l.0 l.1
                  | inr l ↦ elim (chosen (is_client first second third)
                      (option_map plays_client (client_in second third more)) fifth_else task
                      l.1) [
                        | inl m ↦ client first second third more task m.0 m.1
                        | inr m ↦ elim (chosen (is_discover first second third)
                            (option_map discovers (discover_in second third more)) None task
                            m.1) [
                              | inl n ↦ discover first second third more task n.0 n.1
                              | inr n ↦ absurd (not_none task n.1)
                            ]
                      ]
                ]
          ]
    ]

behind_two : (first second : List ℕ) (more : List (List ℕ)) (task : Task)
    → task_behind first second more ≡ Some task → HasForm task (first ∷ second ∷ more)
behind_two first second [] task e = two first second task e
behind_two first second (third ∷ more) task e = three first second third more task e

-- words that ask for a task are those of its command
pub has_form : (words : List (List ℕ)) (task : Task) → task_in words ≡ Some task
    → HasForm task words
has_form [] task e = absurd (not_none task e)
has_form (first ∷ []) task e = absurd (not_none task e)
has_form (first ∷ second ∷ more) task e =
    elim (chosen (is_serve first second) (option_map serves (serve_in second more))
    (task_behind first second more) task e) [
      | inl h ↦ serve first second more task h.0 h.1
      | inr h ↦ behind_two first second more task h.1
    ]
