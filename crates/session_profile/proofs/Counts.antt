-- The rules of connect and accept, said by counts.
use Rattle.std.proofs.Common.{◌≡◌, ℕ, ◌+◌, ◌≤◌, Bool, true, false, eqb, List, [], ◌∷◌, ◌++◌, Option, Some, None, is_some, refl, sym, subst, ◌∙◌, inl, inr, arith}
use Rattle.std.proofs.lemmas.Bool.{eqb-true, false≢true}
use Rattle.ber_values.specs.declared.fault.Span.{Span}
use Rattle.session_profile.specs.Parameters.{Parameter, BeginsParameters, found, last_parameter_of}
use Rattle.session_profile.specs.Rules.{MayFollow, SpellsAll}
use Rattle.session_profile.specs.Connections.{Connection, parameter_contents, span_of, seen_in, may_follow, connection_of, connection}
use Rattle.session_profile.specs.Counts.{count_of, AreOnce, HaveSoundContents}
use Rattle.session_profile.proofs.Connections.{found_push, is_false, decide}

some_contents : (o : Option Parameter) → is_some (parameter_contents o) ≡ is_some o
some_contents None = refl
some_contents (Some p) = refl

some_span : (o : Option Parameter) → is_some (span_of o) ≡ is_some o
some_span None = refl
some_span (Some p) = refl

-- one that came can't come again
abbrev Blocks : ℕ → Type 0
Blocks i = (before : List Parameter) → is_some (found i before) ≡ true → may_follow (seen_in before) i ≡ false

blocks_item : Blocks 5
blocks_item before e = rw e refl

blocks_requirements : Blocks 20
blocks_requirements before e = rw e refl

blocks_called : Blocks 52
blocks_called before e = rw (some_contents (found 52 before), e) refl

blocks_user_data : Blocks 193
blocks_user_data before e = rw (some_span (found 193 before), e) refl

abbrev Counted : ℕ → List Parameter → List Parameter → Type 0
Counted i before ps = (count_of i ps ≤ 1) × (is_some (found i before) ≡ true → count_of i ps ≡ 0)

counted : (i : ℕ) → Blocks i → (before ps : List Parameter) → MayFollow connection before ps → Counted i before ps
unfolding connection
counted i blocks before [] kept = (omega arith, λ e. refl)
counted i blocks before (p ∷ ps) kept =
    let rest = counted i blocks (before ++ p ∷ []) ps kept.2 in
    elim (decide (eqb p.identifier i)) [
      | inl here ↦ (
          let came : is_some (found i (before ++ p ∷ [])) ≡ true = rw (found_push i before p, here) refl in
          let none : count_of i ps ≡ 0 = rest.1 came in
          let one : count_of i (p ∷ ps) ≡ 1 + count_of i ps = rw here refl in
          let is : p.identifier ≡ i = eqb-true p.identifier i here in
          (omega (arith, one, none), λ e. absurd (false≢true (sym (blocks before e) ∙ subst (λ (n : ℕ). may_follow (seen_in before) n ≡ true) is kept.0)))
          )
      | inr other ↦ (
          let same : is_some (found i (before ++ p ∷ [])) ≡ is_some (found i before) = rw (found_push i before p, other) refl in
          let one : count_of i (p ∷ ps) ≡ 0 + count_of i ps = rw other refl in
          (omega (arith, one, rest.0), λ e. omega (arith, one, rest.1 (same ∙ e)))
          )
    ]

-- extended user data never come
never_counted : (before ps : List Parameter) → MayFollow connection before ps → count_of 194 ps ≡ 0
unfolding connection
never_counted before [] kept = refl
never_counted before (p ∷ ps) kept =
    elim (decide (eqb p.identifier 194)) [
      | inl here ↦ absurd (let is : p.identifier ≡ 194 = eqb-true p.identifier 194 here in false≢true (sym (refused before) ∙ subst (λ (n : ℕ). may_follow (seen_in before) n ≡ true) is kept.0))
      | inr other ↦ (let one : count_of 194 (p ∷ ps) ≡ 0 + count_of 194 ps = rw other refl in omega (arith, one, never_counted (before ++ p ∷ []) ps kept.2))
    ]
  where
    refused : (before : List Parameter) → may_follow (seen_in before) 194 ≡ false
    refused before = refl

-- one that is found is counted
found_counted : (i : ℕ) (ps : List Parameter) → is_some (found i ps) ≡ true → 1 ≤ count_of i ps
found_counted i [] e = absurd (false≢true e)
found_counted i (p ∷ ps) e =
    elim (decide (eqb p.identifier i)) [
      | inl here ↦ (let one : count_of i (p ∷ ps) ≡ 1 + count_of i ps = rw here refl in omega (arith, one))
      | inr other ↦ (
          let one : count_of i (p ∷ ps) ≡ 0 + count_of i ps = rw other refl in
          let same : is_some (found i (p ∷ ps)) ≡ is_some (found i ps) = rw other (skipped p (found i ps)) in
          omega (arith, one, found_counted i ps (sym same ∙ e))
          )
    ]
  where
    skipped : (p : Parameter) (o : Option Parameter) → is_some (last_parameter_of false p o) ≡ is_some o
    skipped p None = refl
    skipped p (Some q) = refl

value_needs : (item : Bool) (called : Option (List ℕ)) (body : Option Span) (c : Connection) → connection_of item called body ≡ Some c → (item ≡ true) × (is_some body ≡ true)
value_needs true called (Some body) c e = (refl, refl)
value_needs true called None c e = absurd cc
value_needs false called (Some body) c e = absurd cc
value_needs false called None c e = absurd cc

sounds : (before ps : List Parameter) → MayFollow connection before ps → HaveSoundContents ps
unfolding connection
sounds before [] kept = tt
sounds before (p ∷ ps) kept = (kept.1, sounds (before ++ p ∷ []) ps kept.2)

pub once_each : (at : ℕ) (c : Connection) (octets : List ℕ) (s : SpellsAll connection at c octets) → AreOnce s.parameters × HaveSoundContents s.parameters
unfolding connection
once_each at c octets s =
    let ps = s.parameters in
    let needs = value_needs (is_some (found 5 ps)) (parameter_contents (found 52 ps)) (span_of (found 193 ps)) c s.is in
    let item = (counted 5 blocks_item [] ps s.kept).0 in
    let user_data = (counted 193 blocks_user_data [] ps s.kept).0 in (
      record {
        item = omega (arith, item, found_counted 5 ps needs.0);
        user_data = omega (arith, user_data, found_counted 193 ps (sym (some_span (found 193 ps)) ∙ needs.1));
        requirements = (counted 20 blocks_requirements [] ps s.kept).0;
        called = (counted 52 blocks_called [] ps s.kept).0;
        extended = never_counted [] ps s.kept;
      },
      sounds [] ps s.kept,
    )

-- ---- parameters that are counted so are a connection

open_item : (before : List Parameter) → is_some (found 5 before) ≡ false → may_follow (seen_in before) 5 ≡ true
open_item before e = rw e refl

open_requirements : (before : List Parameter) → is_some (found 20 before) ≡ false → may_follow (seen_in before) 20 ≡ true
open_requirements before e = rw e refl

open_called : (before : List Parameter) → is_some (found 52 before) ≡ false → may_follow (seen_in before) 52 ≡ true
open_called before e = rw (some_contents (found 52 before), e) refl

open_user_data : (before : List Parameter) → is_some (found 193 before) ≡ false → may_follow (seen_in before) 193 ≡ true
open_user_data before e = rw (some_span (found 193 before), e) refl

open_other : (before : List Parameter) (i : ℕ) → eqb i 5 ≡ false → eqb i 20 ≡ false → eqb i 52 ≡ false → eqb i 193 ≡ false → eqb i 194 ≡ false → may_follow (seen_in before) i ≡ true
open_other before i a b c d e = rw (a, b, c, d, e) refl

here_counted : (i : ℕ) (p : Parameter) (ps : List Parameter) → eqb p.identifier i ≡ true → count_of i (p ∷ ps) ≡ 1 + count_of i ps
here_counted i p ps here = rw here refl

other_counted : (i : ℕ) (p : Parameter) (ps : List Parameter) → eqb p.identifier i ≡ false → count_of i (p ∷ ps) ≡ 0 + count_of i ps
other_counted i p ps other = rw other refl

next_counted : (i : ℕ) (before : List Parameter) (p : Parameter) (ps : List Parameter) → Counted i before (p ∷ ps) → Counted i (before ++ p ∷ []) ps
next_counted i before p ps h =
    elim (decide (eqb p.identifier i)) [
      | inl here ↦ (let one = here_counted i p ps here in (omega (arith, one, h.0), λ e. omega (arith, one, h.0)))
      | inr other ↦ (
          let one = other_counted i p ps other in
          let same : is_some (found i (before ++ p ∷ [])) ≡ is_some (found i before) = rw (found_push i before p, other) refl in
          (omega (arith, one, h.0), λ e. omega (arith, one, h.1 (sym same ∙ e)))
          )
    ]

-- one that comes now didn't come before
not_before : (i : ℕ) (before : List Parameter) (p : Parameter) (ps : List Parameter) → Counted i before (p ∷ ps) → eqb p.identifier i ≡ true → is_some (found i before) ≡ false
not_before i before p ps h here = is_false (is_some (found i before)) (λ e. omega (arith, here_counted i p ps here, h.1 e))

-- none of the four twice from here on, and no extended user data
record Rest (before ps : List Parameter) : Type 0 where
  item : Counted 5 before ps
  requirements : Counted 20 before ps
  called : Counted 52 before ps
  user_data : Counted 193 before ps
  extended : count_of 194 ps ≡ 0

next_rest : (before : List Parameter) (p : Parameter) (ps : List Parameter) → eqb p.identifier 194 ≡ false → Rest before (p ∷ ps) → Rest (before ++ p ∷ []) ps
next_rest before p ps other h = record {
  item = next_counted 5 before p ps h.item;
  requirements = next_counted 20 before p ps h.requirements;
  called = next_counted 52 before p ps h.called;
  user_data = next_counted 193 before p ps h.user_data;
  extended = omega (arith, other_counted 194 p ps other, h.extended);
}

not_extended : (before : List Parameter) (p : Parameter) (ps : List Parameter) → Rest before (p ∷ ps) → eqb p.identifier 194 ≡ false
not_extended before p ps h = is_false (eqb p.identifier 194) (λ here. omega (arith, here_counted 194 p ps here, h.extended))

may_now : (before : List Parameter) (p : Parameter) (ps : List Parameter) → Rest before (p ∷ ps) → may_follow (seen_in before) p.identifier ≡ true
may_now before p ps h =
    let may : ℕ → Type 0 = λ n. may_follow (seen_in before) n ≡ true in
    elim (decide (eqb p.identifier 5)) [
      | inl here ↦ subst may (sym (eqb-true p.identifier 5 here)) (open_item before (not_before 5 before p ps h.item here))
      | inr a ↦ elim (decide (eqb p.identifier 20)) [
        | inl here ↦ subst may (sym (eqb-true p.identifier 20 here)) (open_requirements before (not_before 20 before p ps h.requirements here))
        | inr b ↦ elim (decide (eqb p.identifier 52)) [
          | inl here ↦ subst may (sym (eqb-true p.identifier 52 here)) (open_called before (not_before 52 before p ps h.called here))
          | inr c ↦ elim (decide (eqb p.identifier 193)) [
            | inl here ↦ subst may (sym (eqb-true p.identifier 193 here)) (open_user_data before (not_before 193 before p ps h.user_data here))
            | inr d ↦ open_other before p.identifier a b c d (not_extended before p ps h)
          ]
        ]
      ]
    ]

follows : (before ps : List Parameter) → Rest before ps → HaveSoundContents ps → MayFollow connection before ps
unfolding connection
follows before [] h sound = tt
follows before (p ∷ ps) h sound = (may_now before p ps h, sound.0, follows (before ++ p ∷ []) ps (next_rest before p ps (not_extended before p ps h) h) sound.1)

here_found : (p : Parameter) (o : Option Parameter) → is_some (last_parameter_of true p o) ≡ true
here_found p None = refl
here_found p (Some q) = refl

other_found : (p : Parameter) (o : Option Parameter) → is_some (last_parameter_of false p o) ≡ is_some o
other_found p None = refl
other_found p (Some q) = refl

counted_found : (i : ℕ) (ps : List Parameter) → 1 ≤ count_of i ps → is_some (found i ps) ≡ true
counted_found i [] le = absurd (omega (arith, le))
counted_found i (p ∷ ps) le =
    elim (decide (eqb p.identifier i)) [
      | inl here ↦ rw here (here_found p (found i ps))
      | inr other ↦ rw other (other_found p (found i ps) ∙ counted_found i ps (omega (arith, le, other_counted i p ps other)))
    ]

has_value : (item : Bool) (called : Option (List ℕ)) (body : Option Span) → item ≡ true → is_some body ≡ true → (c : Connection) × (connection_of item called body ≡ Some c)
has_value true called (Some body) a b = (_, refl)
has_value true called None a b = absurd (false≢true b)
has_value false called (Some body) a b = absurd (false≢true a)
has_value false called None a b = absurd (false≢true a)

pub any_order : (at : ℕ) (octets : List ℕ) (ps : List Parameter) (end : ℕ) → BeginsParameters at octets ps end [] → AreOnce ps → HaveSoundContents ps → (c : Connection) × SpellsAll connection at c octets
unfolding connection
any_order at octets ps end spelled once sound =
    let nothing : (i : ℕ) → is_some (found i []) ≡ true → count_of i ps ≡ 0 = λ i e. absurd (false≢true e) in
    let rest : Rest [] ps = record {
      item = (omega (arith, once.item), nothing 5);
      requirements = (once.requirements, nothing 20);
      called = (once.called, nothing 52);
      user_data = (omega (arith, once.user_data), nothing 193);
      extended = once.extended;
    } in
    let item = counted_found 5 ps (omega (arith, once.item)) in
    let user_data = counted_found 193 ps (omega (arith, once.user_data)) in
    let value = has_value (is_some (found 5 ps)) (parameter_contents (found 52 ps)) (span_of (found 193 ps)) item (some_span (found 193 ps) ∙ user_data) in
    (value.0, record { parameters = ps; end = end; spelled = spelled; kept = follows [] ps rest sound; is = value.1 })
