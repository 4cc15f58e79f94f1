-- What lines say, with one line more at the end.
use Rattle.std.proofs.Common.{◌≡◌, ◌⊎◌, inl, inr, Bool, true, false, cond, List, [], ◌∷◌, ◌++◌}
use Rattle.std.proofs.Common.{drop, get_or, Option, Some, None, refl, sym, ap, ◌∙◌}
use Rattle.std.specs.Prelude.{filter_map}
use Rattle.std.specs.List.{cons_option}
use Rattle.std.proofs.lemmas.List.{append-nil}
use Rattle.std.proofs.lemmas.List.Elements.{filter_map-append}
use Rattle.bilateral.specs.declared.line.TableLine.{TableLine}
use Rattle.bilateral.specs.Spelling.{begins_table, own_lines, sections, TableSection, last_or}

-- a change of the last element
abbrev pub on_last : {A : Type 0} → (A → A) → List A → List A
on_last f [] = []
on_last f (x ∷ []) = f x ∷ []
on_last f (x ∷ y ∷ more) = x ∷ on_last f (y ∷ more)

-- a line more in a section
abbrev pub with_own : TableLine → TableSection → TableSection
with_own line part = (part.0, part.1 ++ line ∷ [])

-- a line that begins no table, where none that begins one follows
own-push_last : (line : TableLine) → begins_table line ≡ false → (said : List TableLine)
    → sections said ≡ [] → own_lines (said ++ line ∷ []) ≡ own_lines said ++ line ∷ []
own-push_last line other [] none = ap (λ b. cond b [] (line ∷ [])) other
own-push_last line other (x ∷ said) none =
    step (begins_table x) (own-push_last line other said) none
  where
    step : (b : Bool)
        → (sections said ≡ [] → own_lines (said ++ line ∷ []) ≡ own_lines said ++ line ∷ [])
        → cond b ((x, own_lines said) ∷ sections said) (sections said) ≡ []
        → cond b [] (x ∷ own_lines (said ++ line ∷ []))
        ≡ cond b [] (x ∷ own_lines said) ++ line ∷ []
    step false later none = ap (λ lines. x ∷ lines) (later none)
    step true later none = absurd cc

-- a line behind one that begins a table
own-push_later : (line : TableLine) → (said : List TableLine) (part : TableSection)
    (more : List TableSection) → sections said ≡ part ∷ more
    → own_lines (said ++ line ∷ []) ≡ own_lines said
own-push_later line [] part more there = absurd cc
own-push_later line (x ∷ said) part more there =
    step (begins_table x) (own-push_later line said part more) there
  where
    step : (b : Bool)
        → (sections said ≡ part ∷ more → own_lines (said ++ line ∷ []) ≡ own_lines said)
        → cond b ((x, own_lines said) ∷ sections said) (sections said) ≡ part ∷ more
        → cond b [] (x ∷ own_lines (said ++ line ∷ [])) ≡ cond b [] (x ∷ own_lines said)
    step false later there = ap (λ lines. x ∷ lines) (later there)
    step true later there = refl

-- a line that begins no table stands in the last section
pub sections-push_line : (line : TableLine) → begins_table line ≡ false → (said : List TableLine)
    → sections (said ++ line ∷ []) ≡ on_last (with_own line) (sections said)
sections-push_line line other [] = ap (λ b. cond b ((line, []) ∷ []) []) other
sections-push_line line other (x ∷ said) =
    step (begins_table x) (sections-push_line line other said)
  where
    first : (parts parts_new : List TableSection) (own own_new : List TableLine)
        → (parts ≡ [] → own_new ≡ own ++ line ∷ [])
        → ((part : TableSection) (more : List TableSection) → parts ≡ part ∷ more → own_new ≡ own)
        → parts_new ≡ on_last (with_own line) parts
        → (x, own_new) ∷ parts_new ≡ on_last (with_own line) ((x, own) ∷ parts)
    first [] parts_new own own_new at_end later same =
        ap (λ ps. (x, own_new) ∷ ps) same ∙ ap (λ o. (x, o) ∷ []) (at_end refl)
    first (part ∷ more) parts_new own own_new at_end later same =
        ap (λ ps. (x, own_new) ∷ ps) same
        ∙ ap (λ o. (x, o) ∷ on_last (with_own line) (part ∷ more)) (later part more refl)

    step : (b : Bool)
        → sections (said ++ line ∷ []) ≡ on_last (with_own line) (sections said)
        → cond b ((x, own_lines (said ++ line ∷ [])) ∷ sections (said ++ line ∷ []))
        (sections (said ++ line ∷ []))
        ≡ on_last (with_own line) (cond b ((x, own_lines said) ∷ sections said) (sections said))
    step false same = same
    step true same =
        first (sections said) (sections (said ++ line ∷ [])) (own_lines said)
        (own_lines (said ++ line ∷ [])) (own-push_last line other said)
        (own-push_later line said) same

-- the lines before a new table's first line
own-push_begun : (line : TableLine) → begins_table line ≡ true → (said : List TableLine)
    → own_lines (said ++ line ∷ []) ≡ own_lines said
own-push_begun line is [] = ap (λ b. cond b [] (line ∷ [])) is
own-push_begun line is (x ∷ said) =
    ap (λ lines. cond (begins_table x) [] (x ∷ lines)) (own-push_begun line is said)

-- a new table's first line begins a section
pub sections-push_begun : (line : TableLine) → begins_table line ≡ true → (said : List TableLine)
    → sections (said ++ line ∷ []) ≡ sections said ++ (line, []) ∷ []
sections-push_begun line is [] = ap (λ b. cond b ((line, []) ∷ []) []) is
sections-push_begun line is (x ∷ said) =
    ap (λ own. cond (begins_table x) ((x, own) ∷ sections (said ++ line ∷ []))
    (sections (said ++ line ∷ []))) (own-push_begun line is said)
    ∙ ap (λ parts. cond (begins_table x) ((x, own_lines said) ∷ parts) parts)
    (sections-push_begun line is said)
    ∙ joined (begins_table x)
  where
    joined : (b : Bool)
        → cond b ((x, own_lines said) ∷ (sections said ++ (line, []) ∷ []))
        (sections said ++ (line, []) ∷ [])
        ≡ cond b ((x, own_lines said) ∷ sections said) (sections said) ++ (line, []) ∷ []
    joined false = refl
    joined true = refl

-- each section begins with a line that begins a table
pub last_begins : (said : List TableLine) (front : List TableSection) (part : TableSection)
    → sections said ≡ front ++ part ∷ [] → begins_table part.0 ≡ true
last_begins [] [] part there = absurd cc
last_begins [] (first ∷ front) part there = absurd cc
last_begins (x ∷ said) front part there =
    step (begins_table x) refl (λ later same. last_begins said later part same) front there
  where
    step : (b : Bool) → begins_table x ≡ b
        → ((later : List TableSection) → sections said ≡ later ++ part ∷ []
        → begins_table part.0 ≡ true)
        → (front : List TableSection)
        → cond b ((x, own_lines said) ∷ sections said) (sections said) ≡ front ++ part ∷ []
        → begins_table part.0 ≡ true
    step false is later front there = later front there
    step true is later [] there =
        ap (λ (parts : List TableSection). begins_table (get_or {A = TableSection} parts 0 (x, [])).0)
        (sym there) ∙ is
    step true is later (first ∷ front) there = later front (ap (drop 1) there)

-- a list is empty, or has a last element
pub last_view : {A : Type 0} (xs : List A)
    → (xs ≡ []) ⊎ ((front : List A) × (x : A) × (xs ≡ front ++ x ∷ []))
last_view [] = inl refl
last_view {A = A} (y ∷ ys) = inr (step (last_view ys))
  where
    step : (ys ≡ []) ⊎ ((front : List A) × (x : A) × (ys ≡ front ++ x ∷ []))
        → (front : List A) × (x : A) × (y ∷ ys ≡ front ++ x ∷ [])
    step (inl none) = ([], y, ap (λ zs. y ∷ zs) none)
    step (inr there) = (y ∷ there.0, there.1, ap (λ zs. y ∷ zs) there.2)

pub on_last-push : {A : Type 0} (f : A → A) (xs : List A) (x : A)
    → on_last f (xs ++ x ∷ []) ≡ xs ++ f x ∷ []
on_last-push f [] x = refl
on_last-push f (y ∷ []) x = refl
on_last-push f (y ∷ z ∷ xs) x = ap (λ ys. y ∷ ys) (on_last-push f (z ∷ xs) x)

pub last_or-push : {A : Type 0} (xs : List A) (x d : A) → last_or d (xs ++ x ∷ []) ≡ x
last_or-push [] x d = refl
last_or-push (y ∷ xs) x d = last_or-push xs x y

-- a list with one more at its end, or with none
abbrev pub with_some : {X : Type 0} → List X → Option X → List X
with_some xs None = xs
with_some xs (Some x) = xs ++ x ∷ []

-- what a line at the end gives stands at the end
pub filter_map-push : {X Y : Type 0} (h : X → Option Y) (xs : List X) (x : X)
    → filter_map h (xs ++ x ∷ []) ≡ with_some (filter_map h xs) (h x)
filter_map-push h xs x = filter_map-append h xs (x ∷ []) ∙ joined (filter_map h xs) (h x)
  where
    joined : {Y : Type 0} (ys : List Y) (o : Option Y) → ys ++ cons_option o [] ≡ with_some ys o
    joined ys None = append-nil ys
    joined ys (Some y) = refl
