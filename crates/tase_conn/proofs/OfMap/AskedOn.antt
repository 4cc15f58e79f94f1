-- What was asked stays asked, and only the takes depend on how a text is cut.
use Rattle.std.proofs.Common.{◌≡◌, Bool, true, false, List, [], ◌∷◌, ◌++◌, refl, sym, ap, ◌∙◌}
use Rattle.std.proofs.Common.{append_assoc}
use Rattle.std.proofs.lemmas.List.{append-nil}
use Rattle.std.specs.Prelude.{if◌then◌else◌}
use Rattle.bilateral.specs.Rows.{CentreRows}
use Rattle.tase_views.specs.declared.event.EventKind.{EventKind}
use Rattle.tase_conn.specs.Map.Inputs.{Item}
use Rattle.tase_conn.specs.Map.Turns.{Turn, turns_at, turns_from, turns_of}
use Rattle.tase_conn.specs.Map.Asks.{is_last, up_to_last, asks_at, asks_behind, asks_of}

pub turns_on : (before items more : List Item)
    → (others : List Turn) × (turns_from before (items ++ more) ≡ turns_from before items ++ others)
turns_on before [] more = (turns_from before more, refl)
turns_on before (item ∷ items) more =
    let r = turns_on (before ++ item ∷ []) items more in (
      r.0,
      ap (λ (ts : List Turn). turns_at before item ++ ts) r.1
          ∙ sym (append_assoc (turns_at before item) (turns_from (before ++ item ∷ []) items) r.0),
    )

last_on : (rows : CentreRows) (b : Bool) (turn : Turn) (front whole : List Turn)
    → ((others : List Turn) × (whole ≡ front ++ others))
    → (others : List Turn) × ((if b then turn ∷ [] else turn ∷ whole)
    ≡ (if b then turn ∷ [] else turn ∷ front) ++ others)
last_on rows true turn front whole r = ([], refl)
last_on rows false turn front whole r = (r.0, ap (λ (ts : List Turn). turn ∷ ts) r.1)

up_to_last_on : (rows : CentreRows) (turns more : List Turn)
    → (others : List Turn) × (up_to_last rows (turns ++ more) ≡ up_to_last rows turns ++ others)
up_to_last_on rows [] more = (up_to_last rows more, refl)
up_to_last_on rows (turn ∷ turns) more =
    last_on rows (is_last rows turn) turn (up_to_last rows turns)
    (up_to_last rows (turns ++ more)) (up_to_last_on rows turns more)

-- what turns ask behind turns
pub asks_join : (rows : CentreRows) (before turns more : List Turn)
    → asks_behind rows before (turns ++ more)
    ≡ asks_behind rows before turns ++ asks_behind rows (before ++ turns) more
asks_join rows before [] more =
    ap (λ (ts : List Turn). asks_behind rows ts more) (sym (append-nil before))
asks_join rows before (turn ∷ turns) more =
    ap (λ (es : List EventKind). asks_at rows before turn ++ es)
    (asks_join rows (before ++ turn ∷ []) turns more
    ∙ ap (λ (ts : List Turn). asks_behind rows (before ++ turn ∷ []) turns
    ++ asks_behind rows ts more) (append_assoc before (turn ∷ []) turns))
    ∙ sym (append_assoc (asks_at rows before turn)
    (asks_behind rows (before ++ turn ∷ []) turns)
    (asks_behind rows (before ++ turn ∷ turns) more))

asks_on : (rows : CentreRows) (before turns more : List Turn)
    → (others : List EventKind)
    × (asks_behind rows before (turns ++ more) ≡ asks_behind rows before turns ++ others)
asks_on rows before turns more =
    (asks_behind rows (before ++ turns) more, asks_join rows before turns more)

-- with more items behind it an input asks what it asked, and then more
pub asked_on : (rows : CentreRows) (items more : List Item)
    → (others : List EventKind) × (asks_of rows (items ++ more) ≡ asks_of rows items ++ others)
asked_on rows items more =
    let t = turns_on [] items more in
    let u = up_to_last_on rows (turns_of items) t.0 in
    let a = asks_on rows [] (up_to_last rows (turns_of items)) u.0 in (
      a.0,
      ap (λ (ts : List Turn). asks_behind rows [] (up_to_last rows ts)) t.1
          ∙ ap (λ (ts : List Turn). asks_behind rows [] ts) u.1 ∙ a.1,
    )
