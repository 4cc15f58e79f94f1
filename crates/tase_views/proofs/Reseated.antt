-- The same history by seats with other numbers.
use Rattle.std.proofs.Common.{◌≡◌, ◌==◌, ℕ, ◌+◌, [], ◌∷◌, Option, refl, ap, ⊎_elim, sym, ◌∙◌}
use Rattle.std.proofs.lemmas.Bool.{cases_eq, eq-eqb, ne_eqb}
use Rattle.sbo_device.specs.declared.key.Key.{Key}
use Rattle.tase_views.specs.declared.event.EventKind.{EventKind}
use Rattle.tase_views.specs.Moves.{EventSort, sort_of, opening, requesting, taking, closing}
use Rattle.tase_views.specs.Moves.{taking_orders, feeding}
use Rattle.tase_views.specs.History.{Past, counts_open, opens_in, association_by, association_in}
use Rattle.tase_views.specs.History.{key_by, key_at}
use Rattle.tase_views.specs.Seats.{reseated, IsInjective}
use Rattle.tase_views.specs.View.{moves_in}

same_seat : (seat : ℕ → ℕ) → IsInjective seat → (a b : ℕ) → (seat a == seat b) ≡ (a == b)
same_seat seat apart a b =
    ⊎_elim
    (λ same. eq-eqb (seat a) (seat b) (ap seat same) ∙ sym (eq-eqb a b same))
    (λ other. ne_eqb (seat a) (seat b) (λ e. other (apart a b e)) ∙ sym (ne_eqb a b other))
    (cases_eq a b)

opens_in-reseated : (seat : ℕ → ℕ) (past : Past) (peer : ℕ)
    → opens_in (reseated seat past) peer ≡ opens_in past peer
opens_in-reseated seat [] peer = refl
opens_in-reseated seat (entry ∷ past) peer =
    ap (λ n. counts_open entry.event peer + n) (opens_in-reseated seat past peer)

after-reseated : (seat : ℕ → ℕ) (past : Past) (sort : EventSort) (before : Option Key)
    → association_by sort (reseated seat past) before ≡ association_by sort past before
after-reseated seat past (opening peer) before = rw (opens_in-reseated seat past peer) refl
after-reseated seat past (requesting call) before = refl
after-reseated seat past taking before = refl
after-reseated seat past closing before = refl
after-reseated seat past taking_orders before = refl
after-reseated seat past (feeding move) before = refl

association_in-reseated : (seat : ℕ → ℕ) → IsInjective seat → (past : Past) (who : ℕ)
    → association_in (reseated seat past) (seat who) ≡ association_in past who
association_in-reseated seat apart [] who = refl
association_in-reseated seat apart (entry ∷ past) who =
    rw (
      same_seat seat apart entry.who who,
      association_in-reseated seat apart past who,
      after-reseated seat past (sort_of entry.event) (association_in past who),
    ) refl

key-reseated : (seat : ℕ → ℕ) (past : Past) (sort : EventSort) (before : Option Key)
    → key_by sort (reseated seat past) before ≡ key_by sort past before
key-reseated seat past (opening peer) before = rw (opens_in-reseated seat past peer) refl
key-reseated seat past (requesting call) before = refl
key-reseated seat past taking before = refl
key-reseated seat past closing before = refl
key-reseated seat past taking_orders before = refl
key-reseated seat past (feeding move) before = refl

key_at-reseated : (seat : ℕ → ℕ) → IsInjective seat → (past : Past) (who : ℕ) (event : EventKind)
    → key_at event (reseated seat past) (seat who) ≡ key_at event past who
key_at-reseated seat apart past who event =
    ap (λ (before : Option Key). key_by (sort_of event) (reseated seat past) before)
    (association_in-reseated seat apart past who)
    ∙ key-reseated seat past (sort_of event) (association_in past who)

pub moves_in-reseated : (seat : ℕ → ℕ) → IsInjective seat → (past : Past)
    → moves_in (reseated seat past) ≡ moves_in past
moves_in-reseated seat apart [] = refl
moves_in-reseated seat apart (entry ∷ past) =
    rw (key_at-reseated seat apart past entry.who entry.event, moves_in-reseated seat apart past)
    refl
