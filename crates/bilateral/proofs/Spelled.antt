-- The reader finds the centre that a text spells, or its first bad line, and whatever is one of
-- these it finds.
use Rattle.std.proofs.Common.{◌≡◌, ◌⊎◌, inl, inr, ℕ, ◌+◌, ◌-◌, ◌^◌, min, Bool, true, false, not}
use Rattle.std.proofs.Common.{cond, List, []}
use Rattle.std.proofs.Common.{◌∷◌, ◌++◌, length, filter, Option, Some, None, unwrap_or, refl, sym}
use Rattle.std.proofs.Common.{ap}
use Rattle.std.proofs.Common.{subst, ◌∙◌, arith, append_assoc}
use Rattle.std.specs.Prelude.{Result, Ok, Err, IfOk, MatchResult, option_and_then}
use Rattle.std.specs.Option.{option_map}
use Rattle.std.specs.Str.Lines.{lines}
use Rattle.std.proofs.lemmas.List.{append-nil, length-append}
use Rattle.plain_text.specs.Lines.{is_skipped}
use Rattle.plain_text.specs.Words.{each_in}
use Rattle.bilateral.specs.declared.fault.TableFault.{TableFault}
use Rattle.bilateral.specs.declared.fault.TableWhy.{TableWhy}
use Rattle.bilateral.specs.declared.fault.TableWhy.TheVariants.{Word}
use Rattle.bilateral.specs.declared.line.TableLine.{TableLine}
use Rattle.bilateral.specs.Rows.{CentreRows}
use Rattle.bilateral.specs.Lines.{line_in}
use Rattle.bilateral.specs.Reasons.{SoFar, row_fault, form_fault, line_fault}
use Rattle.bilateral.specs.Reading.{with_row, unless, after_said, and_go_on}
use Rattle.bilateral.specs.Reading.{next_number}
use Rattle.bilateral.specs.Reading.{after_lines, at_start, centre_in}
use Rattle.bilateral.specs.Spelling.{told, AllStand, SpellLines, SpellRows, IsFirstBad, Spells}
use Rattle.bilateral.specs.Spelling.{HasFault}
use Rattle.bilateral.proofs.Told.{Keyed, told-push}
use Rattle.bilateral.proofs.Keyed.{keyed-push, keyed-start}

abbrev is_told : List ℕ → Bool
is_told line = not (is_skipped line)

-- each of some parts, with one more
each-push : {A : Type 0} (read : List ℕ → Option A) (texts : List (List ℕ)) (line : List ℕ)
    (said : List A) (x : A) → each_in read texts ≡ Some said → read line ≡ Some x
    → each_in read (texts ++ line ∷ []) ≡ Some (said ++ x ∷ [])
each-push read [] line said x each is =
    ap (option_and_then (λ item. Some (item ∷ []))) is
    ∙ ap (λ o. Some (unwrap_or o [] ++ x ∷ [])) each
each-push {A = A} read (y ∷ texts) line said x each is =
    step (read y) (each_in read texts) (each_in read (texts ++ line ∷ [])) each
    (λ more rest. each-push read texts line more x rest is)
  where
    step : (r : Option A) (rest longer : Option (List A))
        → option_and_then (λ item. option_map (λ items. item ∷ items) rest) r ≡ Some said
        → ((more : List A) → rest ≡ Some more → longer ≡ Some (more ++ x ∷ []))
        → option_and_then (λ item. option_map (λ items. item ∷ items) longer) r
        ≡ Some (said ++ x ∷ [])
    step None rest longer each later = absurd cc
    step (Some i) None longer each later = absurd cc
    step (Some i) (Some more) longer each later =
        ap (option_map (λ items. i ∷ items)) (later more refl)
        ∙ ap (λ o. Some (unwrap_or o [] ++ x ∷ [])) each

filter-push : {A : Type 0} (p : A → Bool) (xs : List A) (x : A)
    → filter p (xs ++ x ∷ []) ≡ filter p xs ++ filter p (x ∷ [])
filter-push p [] x = refl
filter-push {A = A} p (y ∷ xs) x =
    ap (λ more. cond (p y) (y ∷ more) more) (filter-push p xs x) ∙ joined (p y)
  where
    joined : (b : Bool)
        → cond b (y ∷ (filter p xs ++ filter p (x ∷ []))) (filter p xs ++ filter p (x ∷ []))
        ≡ cond b (y ∷ filter p xs) (filter p xs) ++ filter p (x ∷ [])
    joined true = refl
    joined false = refl

stand-push : (before said : List TableLine) (line : TableLine) → AllStand before said
    → row_fault (told (before ++ said)) line ≡ None → AllStand before (said ++ line ∷ [])
stand-push before [] line stand taken =
    (ap (λ ls. row_fault (told ls) line) (sym (append-nil before)) ∙ taken, tt)
stand-push before (x ∷ said) line stand taken = (
  stand.0,
  stand-push (before ++ x ∷ []) said line stand.1
      (ap (λ ls. row_fault (told ls) line) (append_assoc before (x ∷ []) said) ∙ taken),
)

spell-push : (texts : List (List ℕ)) (said : List TableLine) (line : List ℕ) (x : TableLine)
    → SpellLines texts said → is_skipped line ≡ false → line_in line ≡ Some x
    → row_fault (told said) x ≡ None → SpellLines (texts ++ line ∷ []) (said ++ x ∷ [])
spell-push texts said line x spelled told_line is taken = record {
  forms = ap (each_in line_in)
      (filter-push is_told texts line
      ∙ ap (λ s. filter is_told texts ++ cond (not s) (line ∷ []) []) told_line)
      ∙ each-push line_in (filter is_told texts) line said x spelled.forms is;
  stand = stand-push [] said x spelled.stand taken;
}

spell-skip : (texts : List (List ℕ)) (said : List TableLine) (line : List ℕ)
    → SpellLines texts said → is_skipped line ≡ true → SpellLines (texts ++ line ∷ []) said
spell-skip texts said line spelled skipped = record {
  forms = ap (each_in line_in)
      (filter-push is_told texts line
      ∙ ap (λ s. filter is_told texts ++ cond (not s) (line ∷ []) []) skipped
      ∙ append-nil (filter is_told texts))
      ∙ spelled.forms;
  stand = spelled.stand;
}

-- what a reader may answer of lines
abbrev IsAnswer : List (List ℕ) → Result CentreRows TableFault → Type 0
IsAnswer texts (Ok rows) = SpellRows texts rows
IsAnswer texts (Err fault) = IsFirstBad texts fault

reason_of : (so_far : SoFar) (line : List ℕ) (form : Option TableLine)
    → is_skipped line ≡ false → line_in line ≡ form
    → line_fault so_far line ≡ form_fault so_far form
reason_of so_far line form told_line is =
    ap (λ s. cond s None (form_fault so_far (line_in line))) told_line ∙ ap (form_fault so_far) is

-- the answer where a line was taken or skipped, by that for the lines behind it
abbrev Later : List (List ℕ) → Type 0
Later rest = (before : List (List ℕ)) (said : List TableLine) (number : ℕ)
    → SpellLines before said → Keyed said → number ≡ min (length before + 1) (2 ^ 64 - 1)
    → IsAnswer (before ++ rest) (after_lines (told said) number rest)

one_later : (before : List (List ℕ)) (line : List ℕ) (number : ℕ)
    → number ≡ min (length before + 1) (2 ^ 64 - 1)
    → next_number number ≡ min (length (before ++ line ∷ []) + 1) (2 ^ 64 - 1)
one_later before line number same = omega (arith, length-append before (line ∷ []))

taken_line : (before : List (List ℕ)) (line : List ℕ) (rest : List (List ℕ))
    (said : List TableLine) (number : ℕ) → SpellLines before said → Keyed said
    → number ≡ min (length before + 1) (2 ^ 64 - 1) → Later rest → (x : TableLine)
    → is_skipped line ≡ false → line_in line ≡ Some x → (why : Option TableWhy)
    → row_fault (told said) x ≡ why
    → IsAnswer (before ++ line ∷ rest)
    (and_go_on number (unless why (with_row (told said) x))
    (λ next. after_lines next (next_number number) rest))
taken_line before line rest said number spelled keyed same later x told_line is (Some why)
    fault = record {
      before = before;
      line = line;
      after = rest;
      parts = refl;
      said = said;
      spelled = spelled;
      reason = reason_of (told said) line (Some x) told_line is ∙ fault;
      number = same;
    }
taken_line before line rest said number spelled keyed same later x told_line is None fault =
    subst (λ s. IsAnswer (before ++ line ∷ rest) (after_lines s (next_number number) rest))
    (told-push said x keyed fault)
    (subst
    (λ ls. IsAnswer ls (after_lines (told (said ++ x ∷ [])) (next_number number) rest))
    (append_assoc before (line ∷ []) rest)
    (later (before ++ line ∷ []) (said ++ x ∷ []) (next_number number)
    (spell-push before said line x spelled told_line is fault) (keyed-push said x keyed fault)
    (one_later before line number same)))

any_line : (before : List (List ℕ)) (line : List ℕ) (rest : List (List ℕ))
    (said : List TableLine) (number : ℕ) → SpellLines before said → Keyed said
    → number ≡ min (length before + 1) (2 ^ 64 - 1) → Later rest → (skipped : Bool)
    → is_skipped line ≡ skipped → (form : Option TableLine) → line_in line ≡ form
    → IsAnswer (before ++ line ∷ rest)
    (and_go_on number (cond skipped (Ok (told said)) (after_said (told said) form))
    (λ next. after_lines next (next_number number) rest))
any_line before line rest said number spelled keyed same later true skipped form is =
    subst (λ ls. IsAnswer ls (after_lines (told said) (next_number number) rest))
    (append_assoc before (line ∷ []) rest)
    (later (before ++ line ∷ []) said (next_number number)
    (spell-skip before said line spelled skipped) keyed (one_later before line number same))
any_line before line rest said number spelled keyed same later false told_line None is = record {
  before = before;
  line = line;
  after = rest;
  parts = refl;
  said = said;
  spelled = spelled;
  reason = reason_of (told said) line None told_line is;
  number = same;
}
any_line before line rest said number spelled keyed same later false told_line (Some x) is =
    taken_line before line rest said number spelled keyed same later x told_line is
    (row_fault (told said) x) refl

-- what the reader answers is right
sound : (rest : List (List ℕ)) → Later rest
sound [] before said number spelled keyed same =
    subst (λ ls. SpellRows ls (told said).rows) (sym (append-nil before))
    (record { said = said; spelled = spelled; says = refl })
sound (line ∷ rest) before said number spelled keyed same =
    any_line before line rest said number spelled keyed same (sound rest) (is_skipped line) refl
    (line_in line) refl

-- the forms of lines, of which the first isn't skipped
first_form : {A : Type 0} (r : Option A) (rest : Option (List A)) (said : List A)
    → option_and_then (λ item. option_map (λ items. item ∷ items) rest) r ≡ Some said
    → (x : A) × (more : List A) × (r ≡ Some x) × (rest ≡ Some more) × (said ≡ x ∷ more)
first_form None rest said each = absurd cc
first_form (Some x) None said each = absurd cc
first_form (Some x) (Some more) said each =
    (x, more, refl, refl, sym (ap (λ o. unwrap_or o []) each))

-- what is passed by lines that are spelled
abbrev Passed : List (List ℕ) → List (List ℕ) → Type 0
Passed texts rest = (before said : List TableLine) (k number : ℕ)
    → each_in line_in (filter is_told texts) ≡ Some said → AllStand before said → Keyed before
    → number ≡ min (k + 1) (2 ^ 64 - 1)
    → after_lines (told before) number (texts ++ rest)
    ≡ after_lines (told (before ++ said)) (min (k + length texts + 1) (2 ^ 64 - 1)) rest

pass_line : (line : List ℕ) (texts rest : List (List ℕ)) → Passed texts rest
    → (before said : List TableLine) (k number : ℕ) → (skipped : Bool)
    → is_skipped line ≡ skipped
    → each_in line_in (cond (not skipped) (line ∷ filter is_told texts) (filter is_told texts))
    ≡ Some said → AllStand before said → Keyed before → number ≡ min (k + 1) (2 ^ 64 - 1)
    → and_go_on number (cond skipped (Ok (told before)) (after_said (told before) (line_in line)))
    (λ next. after_lines next (next_number number) (texts ++ rest))
    ≡ after_lines (told (before ++ said)) (min (k + length (line ∷ texts) + 1) (2 ^ 64 - 1)) rest
pass_line line texts rest later before said k number true skipped each stand keyed same =
    later before said (k + 1) (next_number number) each stand keyed (omega arith)
    ∙ ap (λ n. after_lines (told (before ++ said)) n rest) (omega arith)
pass_line line texts rest later before said k number false told_line each stand keyed same =
    let first = first_form (line_in line) (each_in line_in (filter is_told texts)) said each in
    let x = first.0 in
    let more = first.1 in
    let stands = subst (AllStand before) first.4 stand in
    let go_on = λ (next : SoFar). after_lines next (next_number number) (texts ++ rest) in
    ap (λ form. and_go_on number (after_said (told before) form) go_on) first.2
    ∙ ap (λ why. and_go_on number (unless why (with_row (told before) x)) go_on) stands.0
    ∙ ap go_on (sym (told-push before x keyed stands.0))
    ∙ later (before ++ x ∷ []) more (k + 1) (next_number number) first.3 stands.1
    (keyed-push before x keyed stands.0) (omega arith)
    ∙ ap (λ n. after_lines (told ((before ++ x ∷ []) ++ more)) n rest) (omega arith)
    ∙ ap (λ ls. after_lines (told ls) (min (k + length (line ∷ texts) + 1) (2 ^ 64 - 1)) rest)
    (append_assoc before (x ∷ []) more ∙ ap (λ s. before ++ s) (sym first.4))

pass : (texts rest : List (List ℕ)) → Passed texts rest
pass [] rest before said k number each stand keyed same =
    ap (λ n. after_lines (told before) n rest) (same ∙ omega arith)
    ∙ ap (λ ls. after_lines (told ls) (min (k + 0 + 1) (2 ^ 64 - 1)) rest)
    (sym (append-nil before) ∙ ap (λ s. before ++ s) (ap (λ o. unwrap_or o []) each))
pass (line ∷ texts) rest before said k number each stand keyed same =
    pass_line line texts rest (pass texts rest) before said k number (is_skipped line) refl each
    stand keyed same

bad_line : (so_far : SoFar) (number : ℕ) (go_on : SoFar → Result CentreRows TableFault)
    (why : TableWhy) (skipped : Bool) (form : Option TableLine)
    → cond skipped None (form_fault so_far form) ≡ Some why
    → and_go_on number (cond skipped (Ok so_far) (after_said so_far form)) go_on
    ≡ Err (record { line = number; why = why })
bad_line so_far number go_on why true form reason = absurd cc
bad_line so_far number go_on why false None reason =
    ap (λ o. Err (record { line = number; why = unwrap_or o Word })) reason
bad_line so_far number go_on why false (Some x) reason =
    ap (λ o. and_go_on number (unless o (with_row so_far x)) go_on) reason

-- what a text spells is found, and a first bad line too
pub spelled-found : (texts : List (List ℕ)) (rows : CentreRows) → SpellRows texts rows
    → after_lines at_start 1 texts ≡ Ok rows
spelled-found texts rows spells =
    ap (after_lines at_start 1) (sym (append-nil texts))
    ∙ pass texts [] [] spells.said 0 1 spells.spelled.forms spells.spelled.stand keyed-start
    refl
    ∙ ap Ok (sym spells.says)

pub bad-found : (texts : List (List ℕ)) (fault : TableFault) → IsFirstBad texts fault
    → after_lines at_start 1 texts ≡ Err fault
bad-found texts fault bad =
    let number = min (0 + length bad.before + 1) (2 ^ 64 - 1) in
    ap (after_lines at_start 1) bad.parts
    ∙ pass bad.before (bad.line ∷ bad.after) [] bad.said 0 1 bad.spelled.forms bad.spelled.stand
    keyed-start refl
    ∙ bad_line (told bad.said) number
    (λ next. after_lines next (next_number number) bad.after) fault.why (is_skipped bad.line)
    (line_in bad.line) bad.reason
    ∙ ap (λ n. Err (record { line = n; why = fault.why })) (omega (arith, bad.number))

-- the answer is right
pub answer-right : (text : List ℕ) → IsAnswer (lines text) (centre_in text)
answer-right text = sound (lines text) [] [] 1 (record { forms = refl; stand = tt }) keyed-start
    refl

-- the reader finds exactly the centre that a text spells, and exactly its first bad line
pub spells-if : (text : List ℕ) (rows : CentreRows) → centre_in text ≡ Ok rows → Spells text rows
spells-if text rows found = subst (IsAnswer (lines text)) found (answer-right text)

pub fault-if : (text : List ℕ) (fault : TableFault) → centre_in text ≡ Err fault
    → HasFault text fault
fault-if text fault found = subst (IsAnswer (lines text)) found (answer-right text)

-- so a text spells a centre, or has a first bad line
pub either_answer : (text : List ℕ)
    → ((rows : CentreRows) × Spells text rows) ⊎ ((fault : TableFault) × HasFault text fault)
either_answer text = cases (centre_in text) (answer-right text)
  where
    cases : (result : Result CentreRows TableFault) → IsAnswer (lines text) result
        → ((rows : CentreRows) × Spells text rows) ⊎ ((fault : TableFault) × HasFault text fault)
    cases (Ok rows) spells = inl (rows, spells)
    cases (Err fault) bad = inr (fault, bad)

-- the same of a reader that may lack memory
pub found-in : {E : Type 0} (text : List ℕ) (result : Result (Result CentreRows TableFault) E)
    → IfOk result (λ read. read ≡ centre_in text)
    → IfOk result (λ read. MatchResult read (Spells text) (HasFault text))
found-in text (Ok (Ok rows)) value = spells-if text rows (sym value)
found-in text (Ok (Err fault)) value = fault-if text fault (sym value)
found-in text (Err e) value = tt

pub only-in : {E : Type 0} (text : List ℕ) (result : Result (Result CentreRows TableFault) E)
    (rows : CentreRows) → Spells text rows → IfOk result (λ read. read ≡ centre_in text)
    → IfOk result (λ read. read ≡ Ok rows)
only-in text (Ok read) rows spells value = value ∙ spelled-found (lines text) rows spells
only-in text (Err e) rows spells value = tt

pub fault-in : {E : Type 0} (text : List ℕ) (result : Result (Result CentreRows TableFault) E)
    (fault : TableFault) → HasFault text fault → IfOk result (λ read. read ≡ centre_in text)
    → IfOk result (λ read. read ≡ Err fault)
fault-in text (Ok read) fault bad value = value ∙ bad-found (lines text) fault bad
fault-in text (Err e) fault bad value = tt
