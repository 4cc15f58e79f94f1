-- Two values that agree in what a layout carries are shown alike, and what it doesn't carry.
use Rattle.std.proofs.Common.{◌≡◌, ℕ, zero, suc, List, [], ◌∷◌, map, refl, sym, ap, ◌∙◌, inl, inr}
use Rattle.mms_data.specs.Datum.{Datum, structure, data_of}
use Rattle.tase_points.specs.declared.kind.Kind.{Kind}
use Rattle.tase_points.specs.declared.kind.Kind.TheVariants as kinds
use Rattle.tase_points.specs.declared.body.Body.{Body}
use Rattle.tase_points.specs.declared.body.Body.TheVariants.{State, Discrete, Real}
use Rattle.tase_points.specs.declared.layout.Component.{Component}
use Rattle.tase_points.specs.declared.layout.Component.TheVariants.{Value, Time, Millis, Flags, Cov}
use Rattle.tase_points.specs.Points.{kind_of, zero_body}
use Rattle.tase_points.specs.Sample.{Sample}
use Rattle.point_data.specs.Bare.{IsBare}
use Rattle.point_data.specs.Parts.{HasComponent, CarriesFlags}
use Rattle.point_data.specs.Shown.{octet_bits, shown_body, shown_component, shown_as}
use Rattle.point_data.proofs.Members.{Has-Contains}

same_body : (b : Body) (f g : ℕ) → (kind_of b ≡ kinds.State → f ≡ g)
    → shown_body b f ≡ shown_body b g
same_body (State s) f g same = ap (λ n. shown_body (State s) n) (same refl)
same_body (Discrete d) f g same = refl
same_body (Real r) f g same = refl

same_map : (f g : Component → Datum) (layout : List Component)
    → ((c : Component) → HasComponent layout c → f c ≡ g c) → map f layout ≡ map g layout
same_map f g [] same = refl
same_map f g (c ∷ more) same =
    let here : f c ≡ g c = same c (zero, refl) in
    let rest : map f more ≡ map g more = same_map f g more (λ d h. same d (suc h.0, h.1)) in cc

same_shown : (a v : Sample) (count cov : ℕ) (layout : List Component)
    → ((c : Component) → HasComponent layout c → shown_component a count c ≡ shown_component v cov c)
    → shown_as a count layout ≡ shown_as v cov layout
same_shown a v count cov [] same = refl
same_shown a v count cov (only ∷ []) same = same only (zero, refl)
same_shown a v count cov (first ∷ next ∷ more) same =
    ap (λ ds. structure (data_of ds))
    (same_map (shown_component a count) (shown_component v cov) (first ∷ next ∷ more) same)

component_same : (layout : List Component) (kind : Kind) (a v : Sample) (count cov : ℕ)
    → kind_of v.body ≡ kind → (HasComponent layout Value → a.body ≡ v.body)
    → (CarriesFlags layout kind → a.flags ≡ v.flags) → (HasComponent layout Time → a.seconds ≡ v.seconds)
    → (HasComponent layout Millis → a.millis ≡ v.millis) → (HasComponent layout Cov → count ≡ cov) → (c : Component)
    → HasComponent layout c → shown_component a count c ≡ shown_component v cov c
component_same layout kind a v count cov k body flags time millis cov_same Value h =
    ap (λ b. shown_body b a.flags) (body h)
    ∙ same_body v.body a.flags v.flags (λ state. flags (inr (h, sym k ∙ state)))
component_same layout kind a v count cov k body flags time millis cov_same Time h =
    let e = time h in cc
component_same layout kind a v count cov k body flags time millis cov_same Millis h =
    let e = millis h in cc
component_same layout kind a v count cov k body flags time millis cov_same Flags h =
    ap octet_bits (flags (inl h))
component_same layout kind a v count cov k body flags time millis cov_same Cov h =
    let e = cov_same h in cc

-- what agrees with a value that is shown, where the layout carries it, is shown alike
pub shown_as-agreeing : (layout : List Component) (value : Datum) (kind : Kind) (a v : Sample)
    (count cov : ℕ) → shown_as v cov layout ≡ value → kind_of v.body ≡ kind
    → (HasComponent layout Value → a.body ≡ v.body) → (CarriesFlags layout kind → a.flags ≡ v.flags)
    → (HasComponent layout Time → a.seconds ≡ v.seconds) → (HasComponent layout Millis → a.millis ≡ v.millis)
    → (HasComponent layout Cov → count ≡ cov) → shown_as a count layout ≡ value
shown_as-agreeing layout value kind a v count cov shown k body flags time millis cov_same =
    same_shown a v count cov layout
    (component_same layout kind a v count cov k body flags time millis cov_same) ∙ shown

-- a value that is zero where the layout has nothing of it
pub IsBare-absent : (layout : List Component) (kind : Kind) (v : Sample) → kind_of v.body ≡ kind
    → (¬ HasComponent layout Value → v.body ≡ zero_body kind) → (¬ CarriesFlags layout kind → v.flags ≡ 0)
    → (¬ HasComponent layout Time → v.seconds ≡ 0) → (¬ HasComponent layout Millis → v.millis ≡ 0) → IsBare layout v
IsBare-absent layout kind v k body flags time millis =
    record {
      body = λ no. body (λ h. no (Has-Contains layout Value h)) ∙ ap zero_body (sym k);
      flags = λ no both. flags
          (λ carries.
          elim carries [
            | inl h ↦ no (Has-Contains layout Flags h)
            | inr p ↦ both
                (Has-Contains layout Value p.0, k ∙ p.1)
          ]);
      time = λ no. time (λ h. no (Has-Contains layout Time h));
      millis = λ no. millis (λ h. no (Has-Contains layout Millis h));
    }
