-- Items that were read from words, and the words that are still to be read.
use Rattle.std.proofs.Common.{◌≡◌, ℕ, List, [], ◌∷◌, ◌++◌, length, map, refl, sym, ap}
use Rattle.std.proofs.Common.{◌∙◌, arith, append_assoc, append-nil, Option, Some, None}
use Rattle.std.specs.List.{All}
use Rattle.std.proofs.lemmas.List.{length-append}
use Rattle.std.proofs.lemmas.List.Elements.{All-nil, All-cons, All-append, All-head, All-tail}
use Rattle.mms_data.specs.declared.outcome.Outcome.{Outcome}
use Rattle.mms_data.specs.ObjectName.{ObjectName, IsName}
use Rattle.mms_data.specs.OutcomeOctets.{IsLawfulOutcome}
use Rattle.mms_data.specs.Text.Texts.{outcome_text}
use Rattle.texts.specs.declared.reports.reading.outcomes.Told.{Told}
use Rattle.texts.specs.Reports.ReportWords.{told_word, told_of, HasOutcomeText, IsTold}

-- ---- of any items

-- items of which some were read, and the words of the others
pub record AreStill {A : Type 0} (spell : A → List ℕ) (P : A → Type 0) (items done : List A)
    (rest : List (List ℕ)) : Type 0 where
  pub more : List A
  pub parts : items ≡ done ++ more
  pub fine : All P more
  pub words : rest ≡ map spell more

-- all items with these words begin with those that were read
abbrev pub AreSoFar : {A : Type 0} → (A → List ℕ) → (A → Type 0) → List (List ℕ) → List A
    → List (List ℕ) → Type 0
AreSoFar {A} spell P all done rest =
    (items : List A) → All P items → all ≡ map spell items → AreStill spell P items done rest

none_so_far : {A : Type 0} (spell : A → List ℕ) (P : A → Type 0) (all : List (List ℕ))
    → AreSoFar spell P all [] all
none_so_far spell P all items fine same =
    record { more = items; parts = refl; fine = fine; words = same }

abbrev first_word : List (List ℕ) → List ℕ
first_word [] = []
first_word (word ∷ words) = word

abbrev others : List (List ℕ) → List (List ℕ)
others [] = []
others (word ∷ words) = words

more_so_far : {A : Type 0} (spell : A → List ℕ) (P : A → Type 0) (all : List (List ℕ))
    (done : List A) (rest : List (List ℕ)) (word : List ℕ) (after : List (List ℕ)) (item : A)
    → AreSoFar spell P all done rest → rest ≡ word ∷ after
    → ((x : A) → P x → word ≡ spell x → item ≡ x)
    → AreSoFar spell P all (done ++ item ∷ []) after
more_so_far {A} spell P all done rest word after item so_far next only items fine same =
    let s = so_far items fine same in by s.more s.parts s.fine (sym next ∙ s.words)
  where
    by : (more : List A) → items ≡ done ++ more → All P more → word ∷ after ≡ map spell more
        → AreStill spell P items (done ++ item ∷ []) after
    by [] parts are words = absurd cc
    by (x ∷ more) parts are words =
        let is : item ≡ x = only x (All-head P x more are) (ap first_word words) in
        record {
          more = more;
          parts = parts ∙ ap (λ y. done ++ y ∷ more) (sym is)
              ∙ sym (append_assoc done (item ∷ []) more);
          fine = All-tail P x more are;
          words = ap others words;
        }

-- none is left
pub all_read : {A : Type 0} (spell : A → List ℕ) (P : A → Type 0) (all : List (List ℕ))
    (done : List A) (rest : List (List ℕ)) → AreSoFar spell P all done rest → rest ≡ []
    → (items : List A) → All P items → all ≡ map spell items → done ≡ items
all_read {A} spell P all done rest so_far none items fine same =
    let s = so_far items fine same in by s.more s.parts (sym none ∙ s.words)
  where
    by : (more : List A) → items ≡ done ++ more → [] ≡ map spell more → done ≡ items
    by [] parts words = sym (parts ∙ append-nil done)
    by (x ∷ more) parts words = absurd cc

-- a word that is none
pub no_item : {A : Type 0} (spell : A → List ℕ) (P : A → Type 0) (all : List (List ℕ))
    (done : List A) (rest : List (List ℕ)) (word : List ℕ) (after : List (List ℕ))
    → AreSoFar spell P all done rest → rest ≡ word ∷ after
    → ((x : A) → P x → word ≡ spell x → ⊥)
    → (items : List A) → All P items → all ≡ map spell items → ⊥
no_item {A} spell P all done rest word after so_far next wrong items fine same =
    let s = so_far items fine same in by s.more s.fine (sym next ∙ s.words)
  where
    by : (more : List A) → All P more → word ∷ after ≡ map spell more → ⊥
    by [] are words = absurd cc
    by (x ∷ more) are words = wrong x (All-head P x more are) (ap first_word words)

push : {A : Type 0} (P : A → Type 0) (xs : List A) (x : A) → All P xs → P x
    → All P (xs ++ x ∷ [])
push P xs x are is = All-append P xs (x ∷ []) are (All-cons P x [] is (All-nil P))

-- ---- outcomes

pub record OutcomesSoFar (all : List (List ℕ)) (outcomes : List Outcome)
    (rest : List (List ℕ)) : Type 0 where
  pub lawful : All IsLawfulOutcome outcomes
  pub textual : All HasOutcomeText outcomes
  pub so_far : AreSoFar outcome_text HasOutcomeText all outcomes rest

pub outcomes-none : (all : List (List ℕ)) (outcomes : List Outcome) → outcomes ≡ []
    → OutcomesSoFar all outcomes all
outcomes-none all outcomes e = rw e (record {
  lawful = All-nil IsLawfulOutcome;
  textual = All-nil HasOutcomeText;
  so_far = none_so_far outcome_text HasOutcomeText all;
})

pub outcomes-more : (all : List (List ℕ)) (outcomes : List Outcome) (rest : List (List ℕ))
    (word : List ℕ) (after : List (List ℕ)) (outcome : Outcome) → OutcomesSoFar all outcomes rest
    → rest ≡ word ∷ after → IsLawfulOutcome outcome → HasOutcomeText outcome
    → ((x : Outcome) → HasOutcomeText x → word ≡ outcome_text x → outcome ≡ x)
    → OutcomesSoFar all (outcomes ++ outcome ∷ []) after
outcomes-more all outcomes rest word after outcome s next lawful textual only = record {
  lawful = push IsLawfulOutcome outcomes outcome s.lawful lawful;
  textual = push HasOutcomeText outcomes outcome s.textual textual;
  so_far = more_so_far outcome_text HasOutcomeText all outcomes rest word after outcome s.so_far
      next only;
}

-- ---- names with their outcomes

pub record ToldSoFar (all : List (List ℕ)) (names : List ObjectName) (results : List Outcome)
    (rest : List (List ℕ)) : Type 0 where
  pub many : length results ≡ length names
  pub named : All IsName names
  pub lawful : All IsLawfulOutcome results
  pub textual : All HasOutcomeText results
  pub so_far : AreSoFar told_word IsTold all (told_of names results) rest

pub told-none : (all : List (List ℕ)) (names : List ObjectName) (results : List Outcome)
    → names ≡ [] → results ≡ [] → ToldSoFar all names results all
told-none all names results e k = rw (e, k) (record {
  many = refl;
  named = All-nil IsName;
  lawful = All-nil IsLawfulOutcome;
  textual = All-nil HasOutcomeText;
  so_far = none_so_far told_word IsTold all;
})

told_of-push : (names : List ObjectName) (results : List Outcome) (told : Told)
    → length results ≡ length names
    → told_of names results ++ told ∷ []
    ≡ told_of (names ++ told.name ∷ []) (results ++ told.outcome ∷ [])
told_of-push [] [] told e = refl
told_of-push [] (o ∷ results) told e = absurd (omega (arith, e))
told_of-push (n ∷ names) [] told e = absurd (omega (arith, e))
told_of-push (n ∷ names) (o ∷ results) told e =
    ap (λ t. record { name = n; outcome = o } ∷ t)
    (told_of-push names results told (omega (arith, e)))

pub told-more : (all : List (List ℕ)) (names : List ObjectName) (results : List Outcome)
    (rest : List (List ℕ)) (word : List ℕ) (after : List (List ℕ)) (told : Told)
    → ToldSoFar all names results rest → rest ≡ word ∷ after
    → IsLawfulOutcome told.outcome → IsTold told
    → ((x : Told) → IsTold x → word ≡ told_word x → told ≡ x)
    → ToldSoFar all (names ++ told.name ∷ []) (results ++ told.outcome ∷ []) after
told-more all names results rest word after told s next lawful is only = record {
  many = rw (length-append results (told.outcome ∷ []), length-append names (told.name ∷ []))
      (omega (arith, s.many));
  named = push IsName names told.name s.named is.0;
  lawful = push IsLawfulOutcome results told.outcome s.lawful lawful;
  textual = push HasOutcomeText results told.outcome s.textual is.1;
  so_far = rw (sym (told_of-push names results told s.many))
      (more_so_far told_word IsTold all (told_of names results) rest word after told s.so_far next
      only);
}

-- each is told, where each name is of identifiers and each outcome one that a text spells
pub all_told : (names : List ObjectName) (results : List Outcome) → All IsName names
    → All HasOutcomeText results → All IsTold (told_of names results)
all_told [] results named textual = All-nil IsTold
all_told (n ∷ names) [] named textual = All-nil IsTold
all_told (n ∷ names) (o ∷ results) named textual =
    All-cons IsTold (record { name = n; outcome = o }) (told_of names results)
    (All-head IsName n names named, All-head HasOutcomeText o results textual)
    (all_told names results (All-tail IsName n names named)
    (All-tail HasOutcomeText o results textual))

pub names_told : (names : List ObjectName) (results : List Outcome)
    → length results ≡ length names → map (λ told. told.name) (told_of names results) ≡ names
names_told [] results e = refl
names_told (n ∷ names) [] e = absurd (omega (arith, e))
names_told (n ∷ names) (o ∷ results) e =
    ap (λ t. n ∷ t) (names_told names results (omega (arith, e)))

pub outcomes_told : (names : List ObjectName) (results : List Outcome)
    → length results ≡ length names
    → map (λ told. told.outcome) (told_of names results) ≡ results
outcomes_told [] [] e = refl
outcomes_told [] (o ∷ results) e = absurd (omega (arith, e))
outcomes_told (n ∷ names) [] e = absurd (omega (arith, e))
outcomes_told (n ∷ names) (o ∷ results) e =
    ap (λ t. o ∷ t) (outcomes_told names results (omega (arith, e)))

-- none is left, so they are all
pub told_same : (all : List (List ℕ)) (names : List ObjectName) (results : List Outcome)
    (rest : List (List ℕ)) → ToldSoFar all names results rest → rest ≡ []
    → (wanted : List ObjectName) (outcomes : List Outcome) → length outcomes ≡ length wanted
    → All IsName wanted → All HasOutcomeText outcomes
    → all ≡ map told_word (told_of wanted outcomes) → (names ≡ wanted) × (results ≡ outcomes)
told_same all names results rest s none wanted outcomes many named textual same =
    let told : told_of names results ≡ told_of wanted outcomes =
    all_read told_word IsTold all (told_of names results) rest s.so_far none
    (told_of wanted outcomes) (all_told wanted outcomes named textual) same in (
      sym (names_told names results s.many) ∙ ap (map (λ t. t.name)) told
          ∙ names_told wanted outcomes many,
      sym (outcomes_told names results s.many) ∙ ap (map (λ t. t.outcome)) told
          ∙ outcomes_told wanted outcomes many,
    )

-- ---- what was read

pub not_read : {A : Type 0} {read : Option A} {x : A} → read ≡ None → read ≡ Some x → ⊥
not_read e k = let wrong : None ≡ Some _ = sym e ∙ k in absurd cc

pub some_same : {A : Type 0} {a b : A} → Some a ≡ Some b → a ≡ b
some_same e = cc
