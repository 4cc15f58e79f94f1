-- The rules of connect and accept are followed by reading.
use Rattle.std.proofs.Common.{◌≡◌, ◌≢◌, ℕ, ◌+◌, ◌<◌, ◌≤◌, Bool, true, false, ◌||◌, cond, eqb, leb, List, [], ◌∷◌, ◌++◌, length, get_or, Option, Some, None, is_some, Ok, Err, refl, sym, ap, ◌∙◌, inl, inr, ◌⊎◌, arith}
use Rattle.std.proofs.lemmas.Bool.{eqb-true, eqb-false, eq-eqb, ne_eqb, leb-true, le-leb, false≢true}
use Rattle.ber_values.specs.declared.fault.Why.TheVariants as whys
use Rattle.ber_values.specs.Faults.{fault_at}
use Rattle.ber_values.specs.Leaves.{span_at}
use Rattle.ber_values.specs.Reading.{IsReading}
use Rattle.ber_values.proofs.Reading.{IsReading-as}
use Rattle.ber_values.proofs.Grammars.{IsReading-done, IsReading-failed, IsReading-test}
use Rattle.session_profile.specs.Parameters.{Parameter, last_parameter_of, found, ParameterContentsFault, judged_by}
use Rattle.session_profile.specs.Rules.{SpellsAll, FaultAmong, sound_in, next_in, all_parameters_in}
use Rattle.session_profile.specs.Connections.{has_second_bit, IsVersion, VersionFault, version_in, item, parameter_contents, span_of, seen_in, IsRequirements, RequirementsFault, requirements_in, IsSoundParameter, BreaksItsRule, judged, with_one, connection}
use Rattle.session_profile.proofs.Rules.{IsRules, all_reads}

-- ---- what came

last_cond : (here : Bool) (q : Parameter) (there : Bool) (p : Parameter) (o : Option Parameter) → last_parameter_of here q (cond there (Some p) o) ≡ cond there (Some p) (last_parameter_of here q o)
last_cond here q true p o = refl
last_cond here q false p o = refl

pub found_push : (identifier : ℕ) (ps : List Parameter) (p : Parameter) → found identifier (ps ++ p ∷ []) ≡ cond (eqb p.identifier identifier) (Some p) (found identifier ps)
found_push identifier [] p = refl
found_push identifier (q ∷ qs) p =
    ap (last_parameter_of (eqb q.identifier identifier) q) (found_push identifier qs p) ∙ last_cond (eqb q.identifier identifier) q (eqb p.identifier identifier) p (found identifier qs)

some_cond : (here : Bool) (p : Parameter) (o : Option Parameter) → is_some (cond here (Some p) o) ≡ (is_some o || here)
some_cond true p None = refl
some_cond true p (Some q) = refl
some_cond false p None = refl
some_cond false p (Some q) = refl

contents_cond : (here : Bool) (p : Parameter) (o : Option Parameter) → parameter_contents (cond here (Some p) o) ≡ cond here (Some p.contents) (parameter_contents o)
contents_cond true p o = refl
contents_cond false p o = refl

span_cond : (here : Bool) (p : Parameter) (o : Option Parameter) → span_of (cond here (Some p) o) ≡ cond here (Some (span_at p.body p.contents)) (span_of o)
span_cond true p o = refl
span_cond false p o = refl

some_push : (identifier : ℕ) (ps : List Parameter) (p : Parameter) → is_some (found identifier (ps ++ p ∷ [])) ≡ (is_some (found identifier ps) || eqb p.identifier identifier)
some_push identifier ps p = ap (λ (o : Option Parameter). is_some o) (found_push identifier ps p) ∙ some_cond (eqb p.identifier identifier) p (found identifier ps)

seen_push : (ps : List Parameter) (p : Parameter) → seen_in (ps ++ p ∷ []) ≡ with_one (seen_in ps) p
seen_push ps p =
    let a = some_push 5 ps p in
    let b = some_push 20 ps p in
    let c = ap parameter_contents (found_push 52 ps p) ∙ contents_cond (eqb p.identifier 52) p (found 52 ps) in
    let d = ap span_of (found_push 193 ps p) ∙ span_cond (eqb p.identifier 193) p (found 193 ps) in
    rw (a, b, c, d) refl

-- ---- contents

pub is_false : (b : Bool) → (b ≡ true → ⊥) → b ≡ false
is_false true never = absurd (never refl)
is_false false never = refl

pub decide : (b : Bool) → (b ≡ true) ⊎ (b ≡ false)
decide true = inl refl
decide false = inr refl

judged_reads : (Allowed : Type 0) (allowed kept : Bool) (p : Parameter) → (allowed ≡ true → Allowed) → (Allowed → allowed ≡ true) → IsReading (Unit {0}) (λ u. Allowed × (kept ≡ true)) (ParameterContentsFault Allowed (kept ≡ false) p) (judged_by allowed kept p)
judged_reads Allowed allowed kept p may back =
    IsReading-as (Unit {0}) _ (λ u. Allowed × (kept ≡ true)) _ (ParameterContentsFault Allowed (kept ≡ false) p) _
    (λ u h. elim h [ inl a ↦ (may a.0, elim a.1 [ inl k ↦ k.0 | inr k ↦ absurd k.1 ]) | inr b ↦ absurd b.1 ])
    (λ u h. inl (back h.0, inl (h.1, refl)))
    (λ f h. elim h [ inl a ↦ elim a.1 [ inl k ↦ absurd k.1 | inr k ↦ inr (may a.0, k.0, k.1) ] | inr b ↦ inl (λ x. false≢true (sym b.0 ∙ back x), b.1) ])
    (λ f h. elim h [ inl a ↦ inr (is_false allowed (λ e. a.0 (may e)), a.1) | inr b ↦ inl (back b.0, inr (b.1, b.2)) ])
    (IsReading-test (Unit {0}) (λ u. ((kept ≡ true) × (u ≡ tt)) ⊎ ((kept ≡ false) × ⊥)) (λ u. ⊥) (λ f. ((kept ≡ true) × ⊥) ⊎ ((kept ≡ false) × (f ≡ fault_at p.body whys.Value))) (λ f. f ≡ fault_at (p.place + 1) whys.Length) allowed (cond kept (Ok tt) (Err (fault_at p.body whys.Value))) (Err (fault_at (p.place + 1) whys.Length))
    (λ e. IsReading-test (Unit {0}) (λ u. u ≡ tt) (λ u. ⊥) (λ f. ⊥) (λ f. f ≡ fault_at p.body whys.Value) kept (Ok tt) (Err (fault_at p.body whys.Value)) (λ k. IsReading-done (Unit {0}) tt) (λ k. IsReading-failed (Unit {0}) (fault_at p.body whys.Value)))
    (λ e. IsReading-failed (Unit {0}) (fault_at (p.place + 1) whys.Length)))

-- so many contents octets
length_reads : (n : ℕ) (kept : Bool) (p : Parameter) → IsReading (Unit {0}) (λ u. (length p.contents ≡ n) × (kept ≡ true)) (ParameterContentsFault (length p.contents ≡ n) (kept ≡ false) p) (judged_by (eqb (length p.contents) n) kept p)
length_reads n kept p = judged_reads (length p.contents ≡ n) (eqb (length p.contents) n) kept p (eqb-true (length p.contents) n) (eq-eqb (length p.contents) n)

called_reads : (p : Parameter) → IsReading (Unit {0}) (λ u. length p.contents ≤ 32) (ParameterContentsFault (length p.contents ≤ 32) ⊥ p) (judged_by (leb (length p.contents) 32) true p)
called_reads p =
    IsReading-as (Unit {0}) _ (λ u. length p.contents ≤ 32) _ (ParameterContentsFault (length p.contents ≤ 32) ⊥ p) _
    (λ u h. h.0) (λ u h. (h, refl))
    (λ f h. elim h [ inl a ↦ inl a | inr b ↦ absurd (false≢true (sym b.1)) ]) (λ f h. elim h [ inl a ↦ inl a | inr b ↦ absurd b.1 ])
    (judged_reads (length p.contents ≤ 32) (leb (length p.contents) 32) true p (leb-true (length p.contents) 32) (le-leb (length p.contents) 32))

-- ---- the item

abbrev InItem : Parameter → Type 0
InItem p = p.identifier ≡ 22 → IsVersion p

version_reads : (p : Parameter) → IsReading (Unit {0}) (λ u. InItem p) (λ f. (p.identifier ≡ 22) × VersionFault p f) (cond (eqb p.identifier 22) (version_in p) (Ok tt))
version_reads p =
    IsReading-as (Unit {0}) _ (λ u. InItem p) _ (λ f. (p.identifier ≡ 22) × VersionFault p f) _
    (λ u h. elim h [ inl a ↦ λ e. a.1 | inr b ↦ λ e. absurd (eqb-false p.identifier 22 b.0 e) ])
    (λ u h. elim (decide (eqb p.identifier 22)) [ inl e ↦ inl (e, h (eqb-true p.identifier 22 e)) | inr e ↦ inr (e, refl) ])
    (λ f h. elim h [ inl a ↦ (eqb-true p.identifier 22 a.0, a.1) | inr b ↦ absurd b.1 ])
    (λ f h. inl (eq-eqb p.identifier 22 h.0, h.1))
    (IsReading-test (Unit {0}) (λ u. IsVersion p) (λ u. u ≡ tt) (VersionFault p) (λ f. ⊥) (eqb p.identifier 22) (version_in p) (Ok tt) (λ e. length_reads 1 (has_second_bit (get_or p.contents 0 0)) p) (λ e. IsReading-done (Unit {0}) tt))

pub item_rules : IsRules item
unfolding item
item_rules = record { adds = some_push 22; judges = version_reads }

-- ---- connect and accept

sound_item : (p : Parameter) → p.identifier ≡ 5 → SpellsAll item p.body tt p.contents → IsSoundParameter p
sound_item p is s = record { item_kept = λ e. s; requirements_kept = λ e. absurd (omega (arith, is, e)); called_kept = λ e. absurd (omega (arith, is, e)) }

sound_requirements : (p : Parameter) → p.identifier ≡ 20 → IsRequirements p → IsSoundParameter p
sound_requirements p is s = record { item_kept = λ e. absurd (omega (arith, is, e)); requirements_kept = λ e. s; called_kept = λ e. absurd (omega (arith, is, e)) }

sound_called : (p : Parameter) → p.identifier ≡ 52 → length p.contents ≤ 32 → IsSoundParameter p
sound_called p is s = record { item_kept = λ e. absurd (omega (arith, is, e)); requirements_kept = λ e. absurd (omega (arith, is, e)); called_kept = λ e. s }

sound_other : (p : Parameter) → p.identifier ≢ 5 → p.identifier ≢ 20 → p.identifier ≢ 52 → IsSoundParameter p
sound_other p a b c = record { item_kept = λ e. absurd (a e); requirements_kept = λ e. absurd (b e); called_kept = λ e. absurd (c e) }

-- contents by their identifier, the next three levels of the tests
abbrev Third : Parameter → Type 0
Third p = ((eqb p.identifier 52 ≡ true) × (length p.contents ≤ 32)) ⊎ ((eqb p.identifier 52 ≡ false) × (tt {0} ≡ tt))

abbrev Second : Parameter → Type 0
Second p = ((eqb p.identifier 20 ≡ true) × IsRequirements p) ⊎ ((eqb p.identifier 20 ≡ false) × Third p)

abbrev First : Parameter → Type 0
First p = ((eqb p.identifier 5 ≡ true) × SpellsAll item p.body tt p.contents) ⊎ ((eqb p.identifier 5 ≡ false) × Second p)

sound_from : (p : Parameter) → First p → IsSoundParameter p
sound_from p h = elim h [
  | inl a ↦ sound_item p (eqb-true p.identifier 5 a.0) a.1
  | inr b ↦ elim b.1 [
    | inl a ↦ sound_requirements p (eqb-true p.identifier 20 a.0) a.1
    | inr c ↦ elim c.1 [
      | inl a ↦ sound_called p (eqb-true p.identifier 52 a.0) a.1
      | inr d ↦ sound_other p (eqb-false p.identifier 5 b.0) (eqb-false p.identifier 20 c.0) (eqb-false p.identifier 52 d.0)
    ]
  ]
]

from_sound : (p : Parameter) → IsSoundParameter p → First p
from_sound p h = elim (decide (eqb p.identifier 5)) [
  | inl a ↦ inl (a, h.item_kept (eqb-true p.identifier 5 a))
  | inr b ↦ inr (
    b,
    elim (decide (eqb p.identifier 20)) [
      | inl a ↦ inl (a, h.requirements_kept (eqb-true p.identifier 20 a))
      | inr c ↦ inr (
        c,
        elim (decide (eqb p.identifier 52)) [
          | inl a ↦ inl (a, h.called_kept (eqb-true p.identifier 52 a))
          | inr d ↦ inr (d, refl)
        ],
      )
    ],
  )
]

sound_reads : (p : Parameter) → IsReading (Unit {0}) (λ u. IsSoundParameter p) (BreaksItsRule p) (judged p)
sound_reads p =
    IsReading-as (Unit {0}) _ (λ u. IsSoundParameter p) _ (BreaksItsRule p) _
    (λ u h. sound_from p h) (λ u h. from_sound p h)
    (λ f h. elim h [
      | inl a ↦ inl (eqb-true p.identifier 5 a.0, a.1)
      | inr b ↦ elim b.1 [
        | inl a ↦ inr (inl (eqb-true p.identifier 20 a.0, a.1))
        | inr c ↦ elim c.1 [ inl a ↦ inr (inr (eqb-true p.identifier 52 a.0, a.1)) | inr d ↦ absurd d.1 ]
      ]
    ])
    (λ f h. elim h [
      | inl a ↦ inl (eq-eqb p.identifier 5 a.0, a.1)
      | inr b ↦ elim b [
        | inl a ↦ inr (ne_eqb p.identifier 5 (λ e. omega (arith, a.0, e)), inl (eq-eqb p.identifier 20 a.0, a.1))
        | inr a ↦ inr (ne_eqb p.identifier 5 (λ e. omega (arith, a.0, e)), inr (ne_eqb p.identifier 20 (λ e. omega (arith, a.0, e)), inl (eq-eqb p.identifier 52 a.0, a.1)))
      ]
    ])
    (IsReading-test (Unit {0}) (λ u. SpellsAll item p.body u p.contents) (λ u. Second p) (FaultAmong item p.body p.contents) _ (eqb p.identifier 5) (all_parameters_in item p.body p.contents) _
    (λ e. all_reads item item_rules p.body p.contents)
    (λ e. IsReading-test (Unit {0}) (λ u. IsRequirements p) (λ u. Third p) (RequirementsFault p) _ (eqb p.identifier 20) (requirements_in p) _
    (λ e. length_reads 2 (has_second_bit (get_or p.contents 1 0)) p)
    (λ e. IsReading-test (Unit {0}) (λ u. length p.contents ≤ 32) (λ u. u ≡ tt) (ParameterContentsFault (length p.contents ≤ 32) ⊥ p) (λ f. ⊥) (eqb p.identifier 52) (judged_by (leb (length p.contents) 32) true p) (Ok tt)
    (λ e. called_reads p) (λ e. IsReading-done (Unit {0}) tt))))

pub connection_rules : IsRules connection
unfolding connection
connection_rules = record { adds = seen_push; judges = sound_reads }

-- anything may follow in the item
pub item_next : (s : Bool) (at : ℕ) (octets : List ℕ) → 0 < length octets → next_in item s at octets ≡ sound_in item at octets
unfolding item
item_next s at [] lt = absurd (omega (arith, lt))
item_next s at (identifier ∷ octets) lt = refl
