-- Whether two names are one, as a comparison.
use Rattle.std.specs.Prelude.{◌≡◌, Bool, true, false}
use Rattle.std.specs.Bool.{Decides}
use Rattle.std.specs.Cmp.{IsEquivalence}
use Rattle.std.specs.Str.{bytes_eq}
use Rattle.std.proofs.Common.{refl, ap, sym}
use Rattle.std.proofs.lemmas.Bool.{and_parts}
use Rattle.std.proofs.lemmas.Slice.Eq.{bytes_eq-Decides}
use Rattle.mms_data.specs.declared.object_name.Scope.{Scope}
use Rattle.mms_data.specs.declared.object_name.Scope.TheVariants.{Vmd, Domain, Association}
use Rattle.mms_data.specs.ObjectName.{ObjectName, same_scope, same_name}

pub same_scope-Decides : (a b : Scope) → Decides (same_scope a b) (a ≡ b)
same_scope-Decides Vmd Vmd = (λ _. refl, λ _. refl)
same_scope-Decides Vmd (Domain b) = (λ e. cc, λ e. cc)
same_scope-Decides Vmd Association = (λ e. cc, λ e. cc)
same_scope-Decides (Domain a) Vmd = (λ e. cc, λ e. cc)
same_scope-Decides (Domain a) (Domain b) =
    (λ e. ap Domain ((bytes_eq-Decides a b).0 e), λ e. (bytes_eq-Decides a b).1 cc)
same_scope-Decides (Domain a) Association = (λ e. cc, λ e. cc)
same_scope-Decides Association Vmd = (λ e. cc, λ e. cc)
same_scope-Decides Association (Domain b) = (λ e. cc, λ e. cc)
same_scope-Decides Association Association = (λ _. refl, λ _. refl)

pub same_name-Decides : (a b : ObjectName) → Decides (same_name a b) (a ≡ b)
same_name-Decides a b = (
  λ e.
      let parts = and_parts (same_scope a.scope b.scope) (bytes_eq a.item b.item) e in
      let scopes : a.scope ≡ b.scope = (same_scope-Decides a.scope b.scope).0 parts.0 in
      let items : a.item ≡ b.item = (bytes_eq-Decides a.item b.item).0 parts.1 in
      λ i. record { scope = scopes i; item = items i },
  λ e.
      let scopes : same_scope a.scope b.scope
      ≡ true = (same_scope-Decides a.scope b.scope).1 (ap (λ (n : ObjectName). n.scope) e) in
      let items : bytes_eq a.item b.item
      ≡ true = (bytes_eq-Decides a.item b.item).1 (ap (λ (n : ObjectName). n.item) e) in
      rw (scopes, items) refl,
)

same_truth : (a b : Bool) → (a ≡ true → b ≡ true) → (b ≡ true → a ≡ true) → a ≡ b
same_truth true true f g = refl
same_truth true false f g = sym (f refl)
same_truth false true f g = g refl
same_truth false false f g = refl

-- a test that decides whether two things are one is an equivalence
pub IsEquivalence-Decides : {K : Type 0} (same : K → K → Bool)
    → ((a b : K) → Decides (same a b) (a ≡ b)) → IsEquivalence same
IsEquivalence-Decides same decides =
    record {
      refl = λ x. (decides x x).1 refl;
      symm = λ x y. same_truth (same x y) (same y x)
          (λ e. (decides y x).1 (sym ((decides x y).0 e)))
          (λ e. (decides x y).1 (sym ((decides y x).0 e)));
      congr = λ x y z e. ap (λ k. same k z) ((decides x y).0 e);
    }

-- `same_name` is an equivalence
pub same_name-IsEquivalence : IsEquivalence same_name
same_name-IsEquivalence = IsEquivalence-Decides same_name same_name-Decides

-- `same_scope` is an equivalence
pub same_scope-IsEquivalence : IsEquivalence same_scope
same_scope-IsEquivalence = IsEquivalence-Decides same_scope same_scope-Decides
