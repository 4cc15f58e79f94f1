-- What is printed of a connection's octets.
use Rattle.std.proofs.Common.{◌≡◌, ℕ, ◌<◌, Bool, true, false, List, [], ◌∷◌, ◌++◌, length, drop}
use Rattle.std.proofs.Common.{codes, decimal, refl, sym, ap, ◌∙◌, append_assoc, arith}
use Rattle.std.specs.Prelude.{◌==◌}
use Rattle.std.proofs.lemmas.Bool.{eqb-true, false≢true}
use Rattle.std.proofs.lemmas.List.{append-nil, drop_all, length-append}
use Rattle.std.proofs.lemmas.Grind.{flat_map-append}
use Rattle.std.proofs.Math.Seq.{drop-append_seam}
use Rattle.plain_text.specs.Octets.{hex_text, hex_pair}
use Rattle.conn_service.specs.TaseConn.Talking.{Talking, first_filled, next_pending, pending_of, conn_end_in}
use Rattle.conn_service.specs.TaseConn.Taken.{SendsSome}
use Rattle.tase_replay.specs.Links.{line_of_out, line_of_end}

none_first : (out others : List ℕ) → first_filled out others ≡ [] → out ++ others ≡ []
none_first [] others e = e
none_first (octet ∷ out) others e = absurd cc

-- where nothing is to be sent next nothing is pending
pub none_pending : (v : Talking) → next_pending v ≡ [] → pending_of v ≡ []
none_pending v e = none_first v.out v.farewell.items e

front_first : (out others : List ℕ)
    → first_filled out others ++ drop (length (first_filled out others)) (out ++ others) ≡ out ++ others
front_first [] others =
    ap (λ (os : List ℕ). others ++ os) (drop_all (length others) others (omega arith))
    ∙ append-nil others
front_first (octet ∷ out) others =
    ap (λ (os : List ℕ). (octet ∷ out) ++ os) (drop-append_seam (octet ∷ out) others)

pub front_pending : (v : Talking)
    → next_pending v ++ drop (length (next_pending v)) (pending_of v) ≡ pending_of v
front_pending v = front_first v.out v.farewell.items

-- what is printed of them is what is to be sent next, and then the others
pub digits_on : (old : Talking) (first text : List ℕ) (pending : List ℕ)
    → text ≡ first ++ hex_text (next_pending old)
    → pending ≡ drop (length (next_pending old)) (pending_of old)
    → text ++ hex_text pending ≡ first ++ hex_text (pending_of old)
digits_on old first text pending e f =
    ap (λ (os : List ℕ). os ++ hex_text pending) e
    ∙ append_assoc first (hex_text (next_pending old)) (hex_text pending)
    ∙ ap (λ (os : List ℕ). first ++ os)
    (sym (flat_map-append hex_pair (next_pending old) pending)
    ∙ ap (λ (os : List ℕ). hex_text os)
    (ap (λ (os : List ℕ). next_pending old ++ os) f ∙ front_pending old))

-- fewer are left
fewer_first : (out others : List ℕ) → (first_filled out others ≡ [] → ⊥)
    → length (drop (length (first_filled out others)) (out ++ others)) < length (out ++ others)
fewer_first [] [] n = absurd (n refl)
fewer_first [] (octet ∷ others) n =
    let none : drop (length (octet ∷ others)) (octet ∷ others) ≡ [] =
    drop_all (length (octet ∷ others)) (octet ∷ others) (omega arith) in
    rw none (omega arith)
fewer_first (octet ∷ out) others n =
    rw (drop-append_seam (octet ∷ out) others)
    (omega (arith, length-append (octet ∷ out) others))

pub fewer_left : (old : Talking) (pending : List ℕ) → (next_pending old ≡ [] → ⊥)
    → pending ≡ drop (length (next_pending old)) (pending_of old)
    → length pending < length (pending_of old)
fewer_left old pending n e = rw e (fewer_first old.out old.farewell.items n)

-- the line of some octets
pub out_line : (who : ℕ) (octets : List ℕ) → (octets ≡ [] → ⊥)
    → line_of_out who octets
    ≡ codes "out " ++ decimal who ++ 32 ∷ hex_text octets ++ 10 ∷ []
out_line who [] n = absurd (n refl)
out_line who (octet ∷ octets) n = refl

-- where something is to be sent next something is pending
some_first : (out others : List ℕ) → out ++ others ≡ [] → first_filled out others ≡ []
some_first [] others e = e
some_first (octet ∷ out) others e = absurd cc

pub some_pending : (v : Talking) → (next_pending v ≡ [] → ⊥) → pending_of v ≡ [] → ⊥
some_pending v n e = n (some_first v.out v.farewell.items e)

-- whether something is to be sent next, as the code asks it
pub some_next : (v : Talking) (octets : List ℕ) (empty : Bool) → octets ≡ next_pending v
    → empty ≡ (length octets == 0) → empty ≡ false → next_pending v ≡ [] → ⊥
some_next v [] empty is e f none = absurd (false≢true (sym f ∙ e))
some_next v (octet ∷ octets) empty is e f none =
    let never : octet ∷ octets ≡ [] = is ∙ none in absurd cc

pub none_next : (v : Talking) (octets : List ℕ) (empty : Bool) → octets ≡ next_pending v
    → empty ≡ (length octets == 0) → empty ≡ true → next_pending v ≡ []
none_next v [] empty is e f = sym is
none_next v (octet ∷ octets) empty is e f =
    let never : length (octet ∷ octets) ≡ 0 = eqb-true (length (octet ∷ octets)) 0 (sym e ∙ f) in
    absurd (omega (arith, never))

-- all digits are there
pub digits_done : (text whole : List ℕ) (v : Talking) → pending_of v ≡ []
    → text ++ hex_text (pending_of v) ≡ whole → text ≡ whole
digits_done text whole v e f =
    sym (ap (λ (os : List ℕ). text ++ hex_text os) e ∙ append-nil text) ∙ f

-- nothing else changed
pub sent_on : (old between new : Talking) → SendsSome old between → SendsSome between new
    → SendsSome old new
sent_on old between new e f =
    f ∙ ap (λ (v : Talking). let t : Talking = record v { out = new.out; farewell = new.farewell }
    in t) e

-- where nothing is to be sent there is no line
pub no_out : (who : ℕ) (v : Talking) (text : List ℕ) → next_pending v ≡ []
    → text ≡ text ++ line_of_out who (pending_of v)
no_out who v text e =
    sym (ap (λ (os : List ℕ). text ++ line_of_out who os) (none_pending v e) ∙ append-nil text)

-- and else there is this one
pub out_shown : (who : ℕ) (v : Talking) (old new : List ℕ) → (next_pending v ≡ [] → ⊥)
    → new ≡ old ++ codes "out " ++ decimal who ++ 32 ∷ hex_text (pending_of v) ++ 10 ∷ []
    → new ≡ old ++ line_of_out who (pending_of v)
out_shown who v old new n e =
    let head : List ℕ = codes "out " ++ decimal who in
    let digits : List ℕ = 32 ∷ hex_text (pending_of v) in
    e ∙ ap (λ (os : List ℕ). (os ++ digits) ++ (10 ∷ []))
    (append_assoc old (codes "out ") (decimal who))
    ∙ ap (λ (os : List ℕ). os ++ (10 ∷ [])) (append_assoc old head digits)
    ∙ append_assoc old (head ++ digits) (10 ∷ [])
    ∙ ap (λ (os : List ℕ). old ++ os) (sym (out_line who (pending_of v) (some_pending v n)))

-- both lines
pub sent_lines : (who : ℕ) (old new : Talking) (first next last : List ℕ) → first ≡ []
    → next ≡ first ++ line_of_out who (pending_of old) → SendsSome old new
    → last ≡ next ++ line_of_end who (conn_end_in new.progress)
    → last ≡ line_of_out who (pending_of old) ++ line_of_end who (conn_end_in old.progress)
sent_lines who old new first next last e f same g =
    g ∙ ap (λ (os : List ℕ). os ++ line_of_end who (conn_end_in new.progress))
    (f ∙ ap (λ (os : List ℕ). os ++ line_of_out who (pending_of old)) e)
    ∙ ap (λ (v : Talking). line_of_out who (pending_of old) ++ line_of_end who (conn_end_in v.progress))
    same
