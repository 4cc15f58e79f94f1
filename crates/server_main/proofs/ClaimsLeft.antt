-- Numbers under which no event was taken may be left out of what a log keeps.
use Rattle.std.proofs.Common.{◌≡◌, ℕ, ◌⊎◌, List, [], ◌∷◌, ◌++◌, subst, ◌∙◌}
use Rattle.std.proofs.Common.{inl, inr, append_assoc}
use Rattle.tase_views.specs.declared.event.EventKind.{EventKind}
use Rattle.share_turn.specs.Entries.{Each, own, Keeps, Claims, AllDiffer}
use Rattle.share_turn.proofs.Owned.{none_both, is_own}
use Rattle.node_server.specs.NodeCalls.{NodeLog}
use Rattle.server_main.specs.Run.Gathering.{SeatClaim, ClosesOver}

each-front : {A : Type 0} (P : A → Type 0) (xs ys : List A) → Each P (xs ++ ys) → Each P xs
each-front P [] ys each = tt
each-front P (x ∷ xs) ys each = (each.0, each-front P xs ys each.1)

each-behind : {A : Type 0} (P : A → Type 0) (xs ys : List A) → Each P (xs ++ ys) → Each P ys
each-behind P [] ys each = each
each-behind P (x ∷ xs) ys each = each-behind P xs ys each.1

pub each-both : {A : Type 0} (P Q R : A → Type 0) → ((x : A) → P x → Q x → R x) → (xs : List A)
    → Each P xs → Each Q xs → Each R xs
each-both P Q R f [] ps qs = tt
each-both P Q R f (x ∷ xs) ps qs = (f x ps.0 qs.0, each-both P Q R f xs ps.1 qs.1)

claims-more : (xs ys : List SeatClaim) (n : ℕ) → Claims xs n → Claims (xs ++ ys) n
claims-more [] ys n claims = absurd claims
claims-more (x ∷ xs) ys n (inl same) = inl same
claims-more (x ∷ xs) ys n (inr claims) = inr (claims-more xs ys n claims)

claims-either : (xs ys : List SeatClaim) (n : ℕ) → Claims (xs ++ ys) n
    → Claims xs n ⊎ Claims ys n
claims-either [] ys n claims = inr claims
claims-either (x ∷ xs) ys n (inl same) = inl (inl same)
claims-either (x ∷ xs) ys n (inr claims) =
    elim (claims-either xs ys n claims) [ inl a ↦ inl (inr a) | inr b ↦ inr b ]

differ-front : (xs ys : List SeatClaim) → AllDiffer (xs ++ ys) → AllDiffer xs
differ-front [] ys differ = tt
differ-front (x ∷ xs) ys differ =
    (λ claims. differ.0 (claims-more xs ys x.0 claims), differ-front xs ys differ.1)

-- the log has no event under the number
none-claimed : (log : NodeLog) (claims : List SeatClaim) (n : ℕ) → Each (Keeps log) claims
    → Each (λ (claim : SeatClaim). own claim.0 claim.1 ≡ []) claims → Claims claims n
    → own n log ≡ []
none-claimed log [] n keeps none claims = absurd claims
none-claimed log (p ∷ ps) n keeps none (inl same) =
    subst (λ (m : ℕ). own m log ≡ []) same (keeps.0.1 ∙ none.0)
none-claimed log (p ∷ ps) n keeps none (inr claims) =
    none-claimed log ps n keeps.1 none.1 claims

HasOwn : NodeLog → ℕ × EventKind → Type 0
HasOwn log entry = own entry.0 log ≡ [] → ⊥

-- each entry is one of its number
owned-from : (before rest : NodeLog) → Each (HasOwn (before ++ rest)) rest
unfolding HasOwn
owned-from before [] = tt
owned-from before (e ∷ rest) = (
  λ none. let mine = is_own e.0 e.1 in
      let gone = (none_both e.0 (e ∷ []) rest (none_both e.0 before (e ∷ rest) none).1).0 in
      absurd (cc (mine, gone)),
  subst (λ (log : NodeLog). Each (HasOwn log) rest) (append_assoc before (e ∷ []) rest)
      (owned-from (before ++ e ∷ []) rest),
)

not-of : (log : NodeLog) (claims none : List SeatClaim) → Each (Keeps log) none
    → Each (λ (claim : SeatClaim). own claim.0 claim.1 ≡ []) none → (e : ℕ × EventKind)
    → Claims (claims ++ none) e.0 → HasOwn log e → Claims claims e.0
unfolding HasOwn
not-of log claims none keeps empty e claimed has =
    elim (claims-either claims none e.0 claimed) [
      | inl a ↦ a
      | inr b ↦ absurd (has (none-claimed log none e.0 keeps empty b))
    ]

pub closes-left : (claims none : List SeatClaim) (log : NodeLog) → ClosesOver (claims ++ none) log
    → Each (λ (claim : SeatClaim). own claim.0 claim.1 ≡ []) none → ClosesOver claims log
closes-left claims none log closes empty = record {
  keeps = each-front (Keeps log) claims none closes.keeps;
  differ = differ-front claims none closes.differ;
  no_other = each-both (λ (e : ℕ × EventKind). Claims (claims ++ none) e.0) (HasOwn log)
      (λ (e : ℕ × EventKind). Claims claims e.0)
      (not-of log claims none (each-behind (Keeps log) claims none closes.keeps) empty) log
      closes.no_other (owned-from [] log);
}
