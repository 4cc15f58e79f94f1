-- What a device's state says of its holder is what its moves say of each association.
use Rattle.std.proofs.Common.{◌≡◌, ◌≢◌, ◌⊎◌, ◌↔◌, ℕ, ◌+◌, ◌==◌, ◌<◌, ◌≤◌, nat_le, ℤ, pos, ◌≤ℤ◌}
use Rattle.std.proofs.Common.{int_le, Bool, true, false, not, ◌&&◌, ◌||◌, if◌then◌else◌, List, []}
use Rattle.std.proofs.Common.{◌∷◌, Option, Some, None, Decides, refl, sym, ap, ◌∙◌, subst, inl, inr}
use Rattle.std.proofs.Common.{arith, T, zero, suc, Contains, is_some}
use Rattle.std.proofs.lemmas.Bool.Decides.{Decides-eqb, Decides-int_eq, Decides-not, Decides-and}
use Rattle.std.proofs.lemmas.Bool.Decides.{Decides-or, Decides-like, nat_tests}
use lib.Signed.{le_z_yes}
use Rattle.sbo_device.specs.declared.key.Key.{Key}
use Rattle.sbo_device.specs.declared.hold.Hold.{Hold}
use Rattle.sbo_device.specs.declared.kind.CommandKind.{CommandKind}
use Rattle.sbo_device.specs.declared.kind.CommandKind.TheVariants.{Command, Setpoint}
use Rattle.sbo_device.specs.Moves.{ControlPoint, DeviceState, DeviceMove}
use Rattle.sbo_device.specs.Moves.{selected, operated, closed, ticked, tagged}
use Rattle.sbo_device.specs.States.{same_key, is_held_by, is_held_by_other, has_run_out, takes}
use Rattle.sbo_device.specs.States.{inhibits, is_granted, is_permitted, state_in, tag_of}
use Rattle.sbo_device.specs.States.{select_answer, operate_answer, hold_ended}
use Rattle.sbo_device.specs.declared.answer.Select.TheVariants as select
use Rattle.sbo_device.specs.declared.answer.Operate.TheVariants as operate
use Rattle.sbo_device.specs.Holders.{Takes, Allows, Holding, MayTake, MayOperate, Holds}
use Rattle.sbo_device.specs.Holders.{IsPermitted}

same_parts : (a b : Key) → a.peer ≡ b.peer → a.ordinal ≡ b.ordinal → a ≡ b
same_parts a b peer ordinal =
    let P : ℕ → Type 0 = λ o. a ≡ record { peer = b.peer; ordinal = o } in
    subst P ordinal
    (ap (λ (p : ℕ). let k : Key = record { peer = p; ordinal = a.ordinal } in k) peer)

same_key-Decides : (a b : Key) → Decides (same_key a b) (a ≡ b)
same_key-Decides a b =
    Decides-like (same_key a b) (λ p. same_parts a b p.0 p.1)
    (λ e. (ap (λ k. k.peer) e, ap (λ k. k.ordinal) e))
    (Decides-and _ _ (Decides-eqb a.peer b.peer) (Decides-eqb a.ordinal b.ordinal))

Decides-leb : (a b : ℕ) → Decides (nat_le a b) (a ≤ b)
Decides-leb a b = (λ e. grind (arith, nat_tests), λ h. grind (arith, nat_tests))

is_T : (b : Bool) → T b → b ≡ true
is_T true t = refl
is_T false t = absurd t

int_le-Decides : (a b : ℤ) → Decides (int_le a b) (a ≤ℤ b)
int_le-Decides a b = (λ e. le_z_yes (subst T (sym e) tt), λ h. is_T (int_le a b) h.le)

takes-Decides : (kind : CommandKind) (value : ℤ) → Decides (takes kind value) (Takes kind value)
takes-Decides Command value =
    Decides-or _ _ (Decides-int_eq value (pos 0)) (Decides-int_eq value (pos 1))
takes-Decides (Setpoint low high) value =
    Decides-and _ _ (int_le-Decides low value) (int_le-Decides value high)

allows-command : (tag : ℕ) (value : ℤ) → ((tag ≡ 1) ⊎ ((tag ≡ 2) × (value ≡ pos 1)) → ⊥)
    ↔ Allows tag Command value
allows-command tag value = (
  λ never. (λ e. never (inl e), λ e v. never (inr (e, v))),
  λ allows either. elim either [ inl e ↦ allows.0 e | inr p ↦ allows.1 p.0 p.1 ],
)

allows-Decides : (tag : ℕ) (kind : CommandKind) (value : ℤ)
    → Decides (not (inhibits tag kind value)) (Allows tag kind value)
allows-Decides tag Command value =
    let both = allows-command tag value in
    Decides-like (not (inhibits tag Command value)) both.0 both.1
    (Decides-not _ (Decides-or _ _ (Decides-eqb tag 1)
    (Decides-and _ _ (Decides-eqb tag 2) (Decides-int_eq value (pos 1)))))
allows-Decides tag (Setpoint low high) value = Decides-not _ (Decides-eqb tag 1)

-- a hold as an option says the same as a relation of holders
abbrev pub Agrees : Option Hold → Holding → Type 0
Agrees held holds =
    (key : Key) (until : ℕ)
    → (held ≡ Some (record { key = key; until = until })) ↔ holds key until

held-Decides : (key : Key) (held : Option Hold) (holds : Holding) → Agrees held holds
    → Decides (is_held_by key held) ((until : ℕ) × holds key until)
held-Decides key None holds agrees =
    (λ e. absurd cc, λ some. let e = (agrees key some.0).1 some.1 in cc)
held-Decides key (Some hold) holds agrees = (
  λ e. (
    hold.until,
    (agrees key hold.until).0
        (ap (λ k. Some (record { key = k; until = hold.until }))
        ((same_key-Decides hold.key key).0 e)),
  ),
  λ some. (same_key-Decides hold.key key).1
      (let e = (agrees key some.0).1 some.1 in cc),
)

free-Decides : (key : Key) (held : Option Hold) (holds : Holding) → Agrees held holds
    → Decides (not (is_held_by_other key held))
    ((other : Key) (until : ℕ) → holds other until → other ≡ key)
free-Decides key None holds agrees =
    (λ e other until h. let none = (agrees other until).1 h in cc, λ all. refl)
free-Decides key (Some hold) holds agrees = (
  λ e other until h. let same : other ≡ hold.key = (let found = (agrees other until).1 h in cc) in
      same ∙ (same_key-Decides hold.key key).0 (twice (same_key hold.key key) e),
  λ all. ap (λ b. not (not b))
      ((same_key-Decides hold.key key).1 (all hold.key hold.until ((agrees _ _).0 refl))),
)
  where
    twice : (b : Bool) → not (not b) ≡ true → b ≡ true
    twice true e = refl
    twice false e = e

direct-Decides : (b : Bool) → Decides (not b) (b ≡ false)
direct-Decides true = (λ e. sym e, λ e. sym e)
direct-Decides false = (λ e. refl, λ e. refl)

true-Decides : (b : Bool) → Decides b (b ≡ true)
true-Decides b = (λ e. e, λ e. e)

granted-Decides : (s : DeviceState) (key : Key) (holds : Holding) → Agrees s.hold holds
    → Decides (is_granted s key) (MayTake s.point s.tag holds key)
granted-Decides s key holds agrees =
    Decides-like (is_granted s key) (λ p. (p.0.0, p.0.1, p.1)) (λ p. ((p.0, p.1), p.2))
    (Decides-and _ _
    (Decides-and _ _ (direct-Decides s.point.direct) (free-Decides key s.hold holds agrees))
    (Decides-not _ (Decides-eqb s.tag 1)))

permitted-Decides : (s : DeviceState) (key : Key) (value : ℤ) (holds : Holding)
    → Agrees s.hold holds
    → Decides (is_permitted s key value) (MayOperate s.point s.tag holds key value)
permitted-Decides s key value holds agrees =
    Decides-like (is_permitted s key value) (λ p. (p.0.0, p.0.1, p.1)) (λ p. ((p.0, p.1), p.2))
    (Decides-and _ _
    (Decides-and _ _
    (Decides-or _ _ (true-Decides s.point.direct) (held-Decides key s.hold holds agrees))
    (takes-Decides s.point.kind value))
    (allows-Decides s.tag s.point.kind value))

-- a hold that a test ends
ended : (b : Bool) (P : Type 0) (held : Option Hold) (key : Key) (until : ℕ) (H : Type 0)
    → Decides b P → ((held ≡ Some (record { key = key; until = until })) ↔ H)
    → ((if b then None else held) ≡ Some (record { key = key; until = until })) ↔ (H × (P → ⊥))
ended true P held key until H d agrees =
    (λ e. absurd cc, λ p. absurd (p.1 (d.0 refl)))
ended false P held key until H d agrees = (
  λ e. (agrees.0 e, λ p. let t : false ≡ true = d.1 p in cc),
  λ p. agrees.1 p.0,
)

abbrev held_for : Key → ℕ → Option Hold
held_for by end = Some (record { key = by; until = end })

one_hold : (a b : Hold) → Some a ≡ Some b → a ≡ b
one_hold a b e = cc

one_key : (a b : Key) (u v : ℕ) → held_for a u ≡ held_for b v → a ≡ b
one_key a b u v e =
    ap (λ (h : Hold). h.key)
    (one_hold (record { key = a; until = u }) (record { key = b; until = v }) e)

one_end : (a b : Key) (u v : ℕ) → held_for a u ≡ held_for b v → u ≡ v
one_end a b u v e =
    ap (λ (h : Hold). h.until)
    (one_hold (record { key = a; until = u }) (record { key = b; until = v }) e)

granted : (b : Bool) (P : Type 0) (held : Option Hold) (by key : Key) (until end : ℕ) (H : Type 0)
    → Decides b P → ((held ≡ Some (record { key = key; until = until })) ↔ H)
    → ((if b then Some (record { key = by; until = end }) else held)
    ≡ Some (record { key = key; until = until }))
    ↔ ((P × (by ≡ key) × (until ≡ end)) ⊎ ((P → ⊥) × H))
granted true P held by key until end H d agrees = (
  λ e. inl (d.0 refl, one_key by key end until e, sym (one_end by key end until e)),
  λ either. elim either [
    | inl p ↦ let k = p.1 in let u = p.2 in cc
    | inr p ↦ absurd (p.0 (d.0 refl))
  ],
)
granted false P held by key until end H d agrees = (
  λ e. inr (λ p. (let t : false ≡ true = d.1 p in cc), agrees.0 e),
  λ either. elim either [
    | inl p ↦ let t : false ≡ true = d.1 p.0 in cc
    | inr p ↦ agrees.1 p.1
  ],
)

at_a_close : (by : Key) (held : Option Hold) (key : Key) (until : ℕ) (H : Type 0)
    → ((held ≡ Some (record { key = key; until = until })) ↔ H)
    → ((if is_held_by by held then None else held) ≡ Some (record { key = key; until = until }))
    ↔ (H × (by ≢ key))
at_a_close by None key until H agrees =
    (λ e. absurd cc, λ p. let e = agrees.1 p.0 in absurd cc)
at_a_close by (Some hold) key until H agrees =
    let both = ended (same_key hold.key by) (hold.key ≡ by) (Some hold) key until H
    (same_key-Decides hold.key by) agrees in (
      λ e. let p = both.0 e in
          (p.0, λ same. p.1 (let found = agrees.1 p.0 in the_key hold key until found ∙ sym same)),
      λ p. both.1 (p.0, λ same. p.1 (sym same ∙ the_key hold key until (agrees.1 p.0))),
    )
  where
    the_key : (hold : Hold) (key : Key) (until : ℕ)
        → Some hold ≡ Some (record { key = key; until = until }) → hold.key ≡ key
    the_key hold key until e = cc

at_a_tick : (now : ℕ) (held : Option Hold) (key : Key) (until : ℕ) (H : Type 0)
    → ((held ≡ Some (record { key = key; until = until })) ↔ H)
    → ((if has_run_out now held then None else held) ≡ Some (record { key = key; until = until }))
    ↔ (H × (now < until))
at_a_tick now None key until H agrees =
    (λ e. absurd cc, λ p. let e = agrees.1 p.0 in absurd cc)
at_a_tick now (Some hold) key until H agrees =
    let both = ended (nat_le hold.until now) (hold.until ≤ now) (Some hold) key until H
    (Decides-leb hold.until now) agrees in (
      λ e. let p = both.0 e in (
        p.0,
        let end = the_end hold key until (agrees.1 p.0) in
            later hold.until until now end p.1,
      ),
      λ p. both.1 (
        p.0,
        λ over. let end = the_end hold key until (agrees.1 p.0) in
            let after = p.1 in absurd (omega arith),
      ),
    )
  where
    the_end : (hold : Hold) (key : Key) (until : ℕ)
        → Some hold ≡ Some (record { key = key; until = until }) → hold.until ≡ until
    the_end hold key until e = cc

    later : (a until now : ℕ) → a ≡ until → (a ≤ now → ⊥) → now < until
    later a until now e never = grind arith

-- the selection that a tick ends
ended_by_a_tick : (now : ℕ) (held : Option Hold) (key : Key) (until : ℕ) (H : Type 0)
    → ((held ≡ Some (record { key = key; until = until })) ↔ H)
    → ((if is_some (if has_run_out now held then None else held) then None else held)
    ≡ Some (record { key = key; until = until }))
    ↔ (H × (until ≤ now))
ended_by_a_tick now None key until H agrees =
    (λ e. absurd cc, λ p. let e = agrees.1 p.0 in absurd cc)
ended_by_a_tick now (Some hold) key until H agrees =
    by (nat_le hold.until now) (Decides-leb hold.until now)
  where
    the_end : Some hold ≡ Some (record { key = key; until = until }) → hold.until ≡ until
    the_end e = cc

    by : (b : Bool) → Decides b (hold.until ≤ now)
        → ((if is_some (if b then None else Some hold) then None else Some hold)
        ≡ Some (record { key = key; until = until }))
        ↔ (H × (until ≤ now))
    by true d = (
      λ e. (agrees.0 e, subst (λ (t : ℕ). t ≤ now) (the_end e) (d.0 refl)),
      λ p. agrees.1 p.0,
    )
    by false d = (
      λ e. absurd cc,
      λ p. let t : false ≡ true =
          d.1 (subst (λ (t : ℕ). t ≤ now) (sym (the_end (agrees.1 p.0))) p.1) in cc,
    )

first_of_all : (move wanted : DeviceMove) (moves : List DeviceMove) → move ≡ wanted
    → Contains (move ∷ moves) wanted
first_of_all move wanted moves e = (zero, omega arith, e)

further : (move : DeviceMove) (moves : List DeviceMove) (key : Key) (until span : ℕ)
    → ((now : ℕ) × Contains moves (selected key now) × (until ≡ now + span))
    → (now : ℕ) × Contains (move ∷ moves) (selected key now) × (until ≡ now + span)
further move moves key until span h =
    (h.0, (suc h.1.0, (let there = h.1.1 in omega arith), h.1.2), h.2)

pub tag_is_last : (point : ControlPoint) (moves : List DeviceMove)
    → (state_in point moves).tag ≡ (tag_of moves).tag
tag_is_last point [] = refl
tag_is_last point (selected key now ∷ moves) = tag_is_last point moves
tag_is_last point (operated key value ∷ moves) = tag_is_last point moves
tag_is_last point (closed key ∷ moves) = tag_is_last point moves
tag_is_last point (ticked now ∷ moves) = tag_is_last point moves
tag_is_last point (tagged tag ∷ moves) = refl

pub point_stays : (point : ControlPoint) (moves : List DeviceMove)
    → (state_in point moves).point ≡ point
point_stays point [] = refl
point_stays point (move ∷ moves) = point_stays point moves

-- the facts of the state after moves as tests of the point itself and its last tag
pub may_take : (point : ControlPoint) (moves : List DeviceMove) (key : Key)
    → Agrees (state_in point moves).hold (Holds point moves)
    → Decides (is_granted (state_in point moves) key)
    (MayTake point (tag_of moves).tag (Holds point moves) key)
may_take point moves key agrees =
    let P : ControlPoint → ℕ → Type 0 = λ p t. Decides (is_granted (state_in point moves) key)
    (MayTake p t (Holds point moves) key) in
    subst (λ t. P point t) (tag_is_last point moves)
    (subst (λ p. P p (state_in point moves).tag) (point_stays point moves)
    (granted-Decides (state_in point moves) key (Holds point moves) agrees))

pub may_operate : (point : ControlPoint) (moves : List DeviceMove) (key : Key) (value : ℤ)
    → Agrees (state_in point moves).hold (Holds point moves)
    → Decides (is_permitted (state_in point moves) key value) (IsPermitted point moves key value)
may_operate point moves key value agrees =
    let P : ControlPoint → ℕ → Type 0 = λ p t. Decides
    (is_permitted (state_in point moves) key value)
    (MayOperate p t (Holds point moves) key value) in
    subst (λ t. P point t) (tag_is_last point moves)
    (subst (λ p. P p (state_in point moves).tag) (point_stays point moves)
    (permitted-Decides (state_in point moves) key value (Holds point moves) agrees))

pub agrees_always : (point : ControlPoint) (moves : List DeviceMove)
    → Agrees (state_in point moves).hold (Holds point moves)
agrees_always point [] key until = (λ e. absurd cc, λ h. absurd h)
agrees_always point (selected by now ∷ moves) key until =
    let before = agrees_always point moves in
    let P : ℕ → Type 0 = λ span.
    ((if is_granted (state_in point moves) by then held_for by (now + span)
    else (state_in point moves).hold)
    ≡ Some (record { key = key; until = until }))
    ↔ Holds point (selected by now ∷ moves) key until in
    subst P (sym (ap (λ (p : ControlPoint). p.span) (point_stays point moves)))
    (granted (is_granted (state_in point moves) by) _ (state_in point moves).hold by key until
    (now + point.span) (Holds point moves key until) (may_take point moves by before)
    (before key until))
agrees_always point (operated by value ∷ moves) key until =
    let before = agrees_always point moves in
    ended (is_permitted (state_in point moves) by value) _ (state_in point moves).hold key until
    (Holds point moves key until) (may_operate point moves by value before) (before key until)
agrees_always point (closed by ∷ moves) key until =
    at_a_close by (state_in point moves).hold key until (Holds point moves key until)
    (agrees_always point moves key until)
agrees_always point (ticked now ∷ moves) key until =
    at_a_tick now (state_in point moves).hold key until (Holds point moves key until)
    (agrees_always point moves key until)
agrees_always point (tagged tag ∷ moves) key until = agrees_always point moves key until

-- at most one association holds a device, and until one moment
pub one_holder : (point : ControlPoint) (moves : List DeviceMove) (a b : Key) (u v : ℕ)
    → Holds point moves a u → Holds point moves b v → (a ≡ b) × (u ≡ v)
one_holder point moves a b u v one other =
    let first = (agrees_always point moves a u).1 one in
    let second = (agrees_always point moves b v).1 other in
    let same : held_for a u ≡ held_for b v = sym first ∙ second in
    (one_key a b u v same, one_end a b u v same)

pub permitted_exactly : (point : ControlPoint) (moves : List DeviceMove) (key : Key) (value : ℤ)
    → Decides (is_permitted (state_in point moves) key value) (IsPermitted point moves key value)
permitted_exactly point moves key value =
    may_operate point moves key value (agrees_always point moves)

-- what holds a device was selected, and the span was counted from that moment
pub held_since : (point : ControlPoint) (moves : List DeviceMove) (key : Key) (until : ℕ)
    → Holds point moves key until
    → (now : ℕ) × Contains moves (selected key now) × (until ≡ now + point.span)
held_since point [] key until h = absurd h
held_since point (selected by now ∷ moves) key until h =
    elim h [
      | inl p ↦ (
        now,
        first_of_all (selected by now) (selected key now) moves
            (ap (λ k. selected k now) p.1),
        p.2,
      )
      | inr p ↦ further (selected by now) moves key until point.span
          (held_since point moves key until p.1)
    ]
held_since point (operated by value ∷ moves) key until h =
    further (operated by value) moves key until point.span (held_since point moves key until h.0)
held_since point (closed by ∷ moves) key until h =
    further (closed by) moves key until point.span (held_since point moves key until h.0)
held_since point (ticked now ∷ moves) key until h =
    further (ticked now) moves key until point.span (held_since point moves key until h.0)
held_since point (tagged tag ∷ moves) key until h =
    further (tagged tag) moves key until point.span (held_since point moves key until h)

-- an operate is ordered where its three tests pass
ordered_if : (holder known inhibited : Bool)
    → ((if not holder then operate.NotHolder else if not known then operate.BadValue
    else if inhibited then operate.Inhibited else operate.Ordered) ≡ operate.Ordered)
    ↔ ((holder && known && not inhibited) ≡ true)
ordered_if true true true = (λ e. cc, λ e. absurd cc)
ordered_if true true false = (λ e. refl, λ e. refl)
ordered_if true false true = (λ e. cc, λ e. absurd cc)
ordered_if true false false = (λ e. cc, λ e. absurd cc)
ordered_if false true true = (λ e. cc, λ e. absurd cc)
ordered_if false true false = (λ e. cc, λ e. absurd cc)
ordered_if false false true = (λ e. cc, λ e. absurd cc)
ordered_if false false false = (λ e. cc, λ e. absurd cc)

pub ordered_exactly : (point : ControlPoint) (moves : List DeviceMove) (key : Key) (value : ℤ)
    → (operate_answer (state_in point moves) key value ≡ operate.Ordered)
    ↔ IsPermitted point moves key value
ordered_exactly point moves key value =
    let s = state_in point moves in
    let tests = ordered_if (s.point.direct || is_held_by key s.hold) (takes s.point.kind value)
    (inhibits s.tag s.point.kind value) in
    let permitted = permitted_exactly point moves key value in
    (λ e. permitted.0 (tests.0 e), λ p. tests.1 (permitted.1 p))

-- a select of a device that isn't direct is granted where its two tests pass
granted_if : (direct other inhibited : Bool) → direct ≡ false
    → ((if other then select.HeldByOther else if inhibited then select.Inhibited
    else select.Granted) ≡ select.Granted)
    ↔ ((not direct && not other && not inhibited) ≡ true)
granted_if true other inhibited e = absurd cc
granted_if false true inhibited d = (λ e. cc, λ e. absurd cc)
granted_if false false true d = (λ e. cc, λ e. absurd cc)
granted_if false false false d = (λ e. refl, λ e. refl)

pub granted_exactly : (point : ControlPoint) (moves : List DeviceMove) (key : Key)
    → point.direct ≡ false
    → (select_answer (state_in point moves) key ≡ select.Granted)
    ↔ MayTake point (tag_of moves).tag (Holds point moves) key
granted_exactly point moves key selectable =
    let s = state_in point moves in
    let tests = granted_if s.point.direct (is_held_by_other key s.hold)
    (s.tag == 1)
    (ap (λ (p : ControlPoint). p.direct) (point_stays point moves) ∙ selectable) in
    let may = may_take point moves key (agrees_always point moves) in
    (λ e. may.0 (tests.0 e), λ p. tests.1 (may.1 p))

pub ended_exactly : (point : ControlPoint) (moves : List DeviceMove) (key : Key) (until now : ℕ)
    → (hold_ended point moves now ≡ Some (record { key = key; until = until }))
    ↔ (Holds point moves key until × (until ≤ now))
ended_exactly point moves key until now =
    ended_by_a_tick now (state_in point moves).hold key until (Holds point moves key until)
    (agrees_always point moves key until)
