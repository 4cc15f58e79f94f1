-- A bank of devices stands as the moves of its devices left it.
use Rattle.std.proofs.Common.{◌≡◌, ◌≢◌, ◌↔◌, ◌⊎◌, ℕ, zero, suc, ◌+◌, ◌<◌, ◌==◌, ℤ, Bool, true}
use Rattle.std.proofs.Common.{false}
use Rattle.std.proofs.Common.{if◌then◌else◌, List, [], ◌∷◌, ◌++◌, map, length}
use Rattle.std.proofs.Common.{Some, refl, sym, ap, ◌∙◌, subst, arith, inl, inr}
use Rattle.std.specs.List.{slice_get}
use Rattle.std.proofs.lemmas.Bool.{eqb-true, eq-eqb, false≢true}
use Rattle.std.proofs.lemmas.List.{get_or-set_same, get_or-set_other, get_or-map, length-set}
use Rattle.std.proofs.lemmas.List.{length-map}
use Rattle.std.proofs.lemmas.List.{length-append, get_or_append_left, ext_get_or}
use Rattle.std.proofs.Math.Seq.{get_or-append_seam}
use Rattle.std.proofs.lemmas.Option.{slice_get_within, slice_get-get_or}
use Rattle.sbo_device.specs.declared.key.Key.{Key}
use Rattle.sbo_device.specs.declared.kind.CommandKind.TheVariants.{Command}
use Rattle.sbo_device.specs.Moves.{ControlPoint, DeviceMove, Tag}
use Rattle.sbo_device.specs.Moves.{selected, operated, closed, ticked, tagged}
use Rattle.sbo_device.specs.States.{select_answer, state_in, tag_of, permits, hold_ended, ended_by}
use Rattle.sbo_device.specs.Banks.{DeviceRecord, record_in, moved, device_at, moved_at, order_by}
use Rattle.sbo_device.specs.Banks.{StandBy, HasMoved, reason_after, tag_shown}
use Rattle.sbo_device.specs.Holders.{Holds}
use Rattle.sbo_device.proofs.OneHolder.{agrees_always, tag_is_last}
use Rattle.sbo_device.proofs.HoldsEnd.{answered_alike}

-- a move more of one device
reason_behind : (move : DeviceMove) (moves : List DeviceMove)
    → reason_after move (tag_of moves).reason ≡ (tag_of (move ∷ moves)).reason
reason_behind (selected key now) moves = refl
reason_behind (operated key value) moves = refl
reason_behind (closed key) moves = refl
reason_behind (ticked now) moves = refl
reason_behind (tagged tag) moves = refl

more : (point : ControlPoint) (move : DeviceMove) (moves : List DeviceMove)
    → moved move (record_in point moves) ≡ record_in point (move ∷ moves)
more point move moves =
    ap (λ (reason : List ℕ).
    let d : DeviceRecord = record { state = state_in point (move ∷ moves); reason = reason } in d)
    (reason_behind move moves)

within : (points : List ControlPoint) (moves : ℕ → List DeviceMove) (devices : List DeviceRecord)
    → StandBy points moves devices → (n : ℕ) (point : ControlPoint)
    → slice_get points n ≡ Some point → n < length devices
within points moves devices s n point e =
    subst (λ (many : ℕ). n < many) (sym s.many) (slice_get_within points n point e)

pub none_stand : (moves : ℕ → List DeviceMove) → StandBy [] moves []
none_stand moves = record {
  many = refl;
  each = λ n point e. (let past : n < 0 = slice_get_within [] n point e in
      absurd (omega (arith, past)));
}

pub one_moved : (points : List ControlPoint) (before behind : ℕ → List DeviceMove)
    (devices : List DeviceRecord) (n : ℕ) (move : DeviceMove)
    → HasMoved (length points) n move before behind
    → StandBy points before devices → StandBy points behind (moved_at n move devices)
one_moved points before behind devices n move m s = record {
  many = length-set devices n _ ∙ s.many;
  each = λ k point e. by k point e (k == n) refl;
}
  where
    by : (k : ℕ) (point : ControlPoint) → slice_get points k ≡ Some point
        → (b : Bool) → (k == n) ≡ b
        → device_at (moved_at n move devices) k ≡ record_in point (behind k)
    by k point e true same =
        let is : k ≡ n = eqb-true k n same in
        subst (λ (i : ℕ). device_at (moved_at n move devices) i ≡ record_in point (behind i))
        (sym is)
        (get_or-set_same devices n _ _
        (subst (λ (i : ℕ). i < length devices) is (within points before devices s k point e))
        ∙ ap (moved move) (s.each n point (subst (λ (i : ℕ). slice_get points i ≡ Some point) is e))
        ∙ more point move (before n)
        ∙ ap (record_in point) (sym m.here))
    by k point e false other =
        let is : k ≢ n = λ same. false≢true (sym other ∙ eq-eqb k n same) in
        get_or-set_other devices n k _ _ is ∙ s.each k point e
        ∙ ap (record_in point) (sym (m.others k (slice_get_within points k point e) is))

pub all_moved : (points : List ControlPoint) (before behind : ℕ → List DeviceMove)
    (devices : List DeviceRecord) (move : DeviceMove)
    → ((n : ℕ) → behind n ≡ move ∷ before n)
    → StandBy points before devices → StandBy points behind (map (moved move) devices)
all_moved points before behind devices move m s = record {
  many = length-map devices (moved move) ∙ s.many;
  each = λ k point e. get_or-map (moved move) devices k _ _
      (within points before devices s k point e)
      ∙ ap (moved move) (s.each k point e) ∙ more point move (before k)
      ∙ ap (record_in point) (sym (m k));
}

pub none_moved : (points : List ControlPoint) (before behind : ℕ → List DeviceMove)
    (devices : List DeviceRecord) → ((n : ℕ) → behind n ≡ before n)
    → StandBy points before devices → StandBy points behind devices
none_moved points before behind devices m s = record {
  many = s.many;
  each = λ k point e. s.each k point e ∙ ap (record_in point) (sym (m k));
}

-- an item of a list with one item more is an item of the list or that one
found : (points : List ControlPoint) (last : ControlPoint) (n : ℕ) (point : ControlPoint)
    → slice_get (points ++ last ∷ []) n ≡ Some point
    → (slice_get points n ≡ Some point) ⊎ ((n ≡ length points) × (last ≡ point))
found [] last zero point e = inr (refl, cc)
found [] last (suc n) point e =
    let past : suc n < 1 = slice_get_within (last ∷ []) (suc n) point e in
    absurd (omega (arith, past))
found (first ∷ points) last zero point e = inl e
found (first ∷ points) last (suc n) point e = elim (found points last n point e) [
  | inl there ↦ inl there
  | inr here ↦ inr (ap suc here.0, here.1)
]

pub pushed_stand : (points : List ControlPoint) (moves : ℕ → List DeviceMove)
    (devices : List DeviceRecord) (point : ControlPoint) → StandBy points moves devices
    → moves (length points) ≡ []
    → StandBy (points ++ point ∷ []) moves (devices ++ record_in point [] ∷ [])
pushed_stand points moves devices last s fresh = record {
  many = length-append devices (record_in last [] ∷ []) ∙ ap (λ n. n + 1) s.many
      ∙ sym (length-append points (last ∷ []));
  each = λ n point e. elim (found points last n point e) [
    | inl there ↦ get_or_append_left devices (record_in last [] ∷ []) _ n
        (within points moves devices s n point there)
        ∙ s.each n point there
    | inr here ↦ subst
        (λ (k : ℕ). device_at (devices ++ record_in last [] ∷ []) k ≡ record_in point (moves k))
        (sym here.0)
        (subst (λ (k : ℕ). device_at (devices ++ record_in last [] ∷ []) k
        ≡ record_in point (moves (length points))) s.many
        (get_or-append_seam devices (record_in last []) [] _
        ∙ ap (λ p. record_in p []) here.1 ∙ ap (record_in point) (sym fresh)))
  ];
}

pub one_bank : (points : List ControlPoint) (moves : ℕ → List DeviceMove)
    (a b : List DeviceRecord) → StandBy points moves a → StandBy points moves b → a ≡ b
one_bank points moves a b s t =
    ext_get_or _ a b (s.many ∙ sym t.many) (λ n within.
    let there = slice_get-get_or points n (record { kind = Command; direct = true; span = 0 })
    (subst (λ (many : ℕ). n < many) s.many within) in
    s.each n _ there ∙ sym (t.each n _ there))

pub holder_told : (points : List ControlPoint) (moves : ℕ → List DeviceMove)
    (devices : List DeviceRecord) (n : ℕ) (point : ControlPoint) (key : Key) (until : ℕ)
    → StandBy points moves devices → slice_get points n ≡ Some point
    → ((device_at devices n).state.hold ≡ Some (record { key = key; until = until }))
    ↔ Holds point (moves n) key until
holder_told points moves devices n point key until s e =
    subst (λ (d : DeviceRecord). (d.state.hold ≡ Some (record { key = key; until = until }))
    ↔ Holds point (moves n) key until) (sym (s.each n point e))
    (agrees_always point (moves n) key until)

pub tag_told : (points : List ControlPoint) (moves : ℕ → List DeviceMove)
    (devices : List DeviceRecord) (n : ℕ) (point : ControlPoint)
    → StandBy points moves devices → slice_get points n ≡ Some point
    → tag_shown (device_at devices n) ≡ tag_of (moves n)
tag_told points moves devices n point s e =
    ap tag_shown (s.each n point e)
    ∙ ap (λ (number : ℕ).
    let t : Tag = record { tag = number; reason = (tag_of (moves n)).reason } in t)
    (tag_is_last point (moves n))

pub ended_told : (points : List ControlPoint) (moves : ℕ → List DeviceMove)
    (devices : List DeviceRecord) (n : ℕ) (point : ControlPoint) (now : ℕ)
    → StandBy points moves devices → slice_get points n ≡ Some point
    → ended_by (ticked now) (device_at devices n).state ≡ hold_ended point (moves n) now
ended_told points moves devices n point now s e =
    ap (λ (d : DeviceRecord). ended_by (ticked now) d.state) (s.each n point e)

pub order_told : (points : List ControlPoint) (moves : ℕ → List DeviceMove)
    (devices : List DeviceRecord) (n : ℕ) (point : ControlPoint) (key : Key) (value : ℤ)
    → StandBy points moves devices → slice_get points n ≡ Some point
    → order_by n key value (device_at devices n).state
    ≡ (if permits point (moves n) key value then record { device = n; value = value } ∷ []
    else [])
order_told points moves devices n point key value s e =
    ap (λ (d : DeviceRecord). order_by n key value d.state) (s.each n point e)

pub each_answered_alike : (devices : List DeviceRecord) (n other : ℕ) (key : Key) (now : ℕ)
    → n < length devices
    → select_answer (device_at (moved_at n (selected key now) devices) other).state key
    ≡ select_answer (device_at devices other).state key
each_answered_alike devices n other key now within = by (other == n) refl
  where
    by : (b : Bool) → (other == n) ≡ b
        → select_answer (device_at (moved_at n (selected key now) devices) other).state key
        ≡ select_answer (device_at devices other).state key
    by true same =
        subst (λ (i : ℕ).
        select_answer (device_at (moved_at n (selected key now) devices) i).state key
        ≡ select_answer (device_at devices i).state key) (sym (eqb-true other n same))
        (ap (λ (d : DeviceRecord). select_answer d.state key)
        (get_or-set_same devices n _ _ within)
        ∙ answered_alike (device_at devices n).state key now)
    by false apart =
        ap (λ (d : DeviceRecord). select_answer d.state key)
        (get_or-set_other devices n other _ _
        (λ same. false≢true (sym apart ∙ eq-eqb other n same)))
