-- What is kept of the messages that have come, with one message more.
use Rattle.std.proofs.Common.{◌≡◌, ℕ, Bool, true, false, not, ◌&&◌, ◌||◌, List, []}
use Rattle.std.proofs.Common.{◌∷◌, ◌++◌, length, Option, Some, None, is_some, refl, sym, ap}
use Rattle.std.proofs.Common.{◌∙◌, arith}
use Rattle.std.specs.List.{list_any}
use Rattle.std.proofs.lemmas.Bool.{le-leb}
use Rattle.std.proofs.lemmas.List.{length-append}
use Rattle.stack_assoc.specs.declared.messages.expecting.Expecting.{Expecting}
use Rattle.stack_assoc.specs.declared.messages.expecting.Phase.{Phase}
use Rattle.stack_assoc.specs.declared.messages.expecting.Side.{Side}
use Rattle.stack_assoc.specs.declared.messages.heard.Connecting.{Connecting}
use Rattle.stack_assoc.specs.declared.wire.setup.AssociationSetup.{AssociationSetup}
use Rattle.stack_assoc.specs.declared.milestones.Milestones.{Milestones}
use Rattle.stack_assoc.specs.Arrivals.{Arrival, Role, called, calling, side_of, or_else, first_in, size_in}
use Rattle.stack_assoc.specs.Arrivals.{confirm_in, connect_in, accept_in, is_refuse, is_conclude}
use Rattle.stack_assoc.specs.Arrivals.{is_concluded}
use Rattle.stack_assoc.specs.Expectations.{setup_by, size_by, setup_after, phase_after}
use Rattle.stack_assoc.specs.Expectations.{awaited_after, expecting_after}
use Rattle.stack_assoc.specs.Knowing.{Knows, known_with, sized_by, fixed_by, setup_with}
use Rattle.stack_assoc.specs.Knowing.{called_phase, calling_phase, phase_by, expecting_by}
use Rattle.stack_assoc.specs.Courses.{IsSince}

or_else_none : {A : Type 0} (o : Option A) → or_else o None ≡ o
or_else_none None = refl
or_else_none (Some x) = refl

or_else_assoc : {A : Type 0} (a b c : Option A) → or_else a (or_else b c) ≡ or_else (or_else a b) c
or_else_assoc None b c = refl
or_else_assoc (Some x) b c = refl

first_push : {A B : Type 0} (f : A → Option B) (xs : List A) (x : A)
    → first_in f (xs ++ x ∷ []) ≡ or_else (first_in f xs) (f x)
first_push f [] x = or_else_none (f x)
first_push {A = A} {B = B} f (y ∷ xs) x =
    ap (λ (o : Option B). or_else (f y) o) (first_push f xs x)
    ∙ or_else_assoc (f y) (first_in f xs) (f x)

some_or : {A : Type 0} (a b : Option A) → is_some (or_else a b) ≡ (is_some b || is_some a)
some_or None None = refl
some_or None (Some y) = refl
some_or (Some x) None = refl
some_or (Some x) (Some y) = refl

is_first_push : {A B : Type 0} (f : A → Option B) (xs : List A) (x : A) (b : Bool)
    → b ≡ is_some (first_in f xs) → (is_some (f x) || b) ≡ is_some (first_in f (xs ++ x ∷ []))
is_first_push {A = A} {B = B} f xs x b e =
    ap (λ (c : Bool). is_some (f x) || c) e ∙ sym (some_or (first_in f xs) (f x))
    ∙ ap (λ (o : Option B). is_some o) (sym (first_push f xs x))

or_swap : (a b : Bool) → (a || (b || false)) ≡ (b || a)
or_swap true true = refl
or_swap true false = refl
or_swap false true = refl
or_swap false false = refl

or_assoc : (a b c : Bool) → (a || (b || c)) ≡ (b || (a || c))
or_assoc true true c = refl
or_assoc true false c = refl
or_assoc false true c = refl
or_assoc false false c = refl

or_false : (a : Bool) → (a || false) ≡ a
or_false true = refl
or_false false = refl

any_push : {A : Type 0} (p : A → Bool) (xs : List A) (x : A)
    → list_any p (xs ++ x ∷ []) ≡ (p x || list_any p xs)
any_push p [] x = refl
any_push {A = A} p (y ∷ xs) x = ap (λ (b : Bool). p y || b) (any_push p xs x)
    ∙ or_assoc (p y) (p x) (list_any p xs)

is_any_push : {A : Type 0} (p : A → Bool) (xs : List A) (x : A) (b : Bool) → b ≡ list_any p xs
    → (p x || b) ≡ list_any p (xs ++ x ∷ [])
is_any_push p xs x b e = ap (λ (c : Bool). p x || c) e ∙ sym (any_push p xs x)

pub knows_more : (role : Role) (told : List Arrival) (k : Milestones) (t : Arrival) → Knows role told k
    → Knows role (told ++ t ∷ []) (known_with k t)
knows_more role told k t s = record {
  side = s.side;
  begun = is_first_push size_in told t k.begun s.begun;
  confirmed = is_first_push confirm_in told t k.confirmed s.confirmed;
  connected = is_first_push connect_in told t k.connected s.connected;
  accepted = is_first_push accept_in told t k.accepted s.accepted;
  refused = is_any_push is_refuse told t k.refused s.refused;
  concluding = is_any_push is_conclude told t k.concluding s.concluding;
  concluded = is_any_push is_concluded told t k.concluded s.concluded;
  said = s.said;
}

-- what is said after a message more
fixed_more : (size : Option (Option ℕ)) (connect : Option Connecting) (s : Option (Option ℕ))
    (c : Option Connecting) → sized_by s (is_some size) (fixed_by c (is_some connect)
    (setup_by (size_by size) connect)) ≡ setup_by (size_by (or_else size s)) (or_else connect c)
fixed_more None None None None = refl
fixed_more None None None (Some d) = refl
fixed_more None None (Some n) None = refl
fixed_more None None (Some n) (Some d) = refl
fixed_more None (Some e) None None = refl
fixed_more None (Some e) None (Some d) = refl
fixed_more None (Some e) (Some n) None = refl
fixed_more None (Some e) (Some n) (Some d) = refl
fixed_more (Some m) None None None = refl
fixed_more (Some m) None None (Some d) = refl
fixed_more (Some m) None (Some n) None = refl
fixed_more (Some m) None (Some n) (Some d) = refl
fixed_more (Some m) (Some e) None None = refl
fixed_more (Some m) (Some e) None (Some d) = refl
fixed_more (Some m) (Some e) (Some n) None = refl
fixed_more (Some m) (Some e) (Some n) (Some d) = refl

pub setup_more : (role : Role) (told : List Arrival) (k : Milestones) (s : AssociationSetup) (t : Arrival)
    → Knows role told k → s ≡ setup_after told → setup_with k s t ≡ setup_after (told ++ t ∷ [])
setup_more role told k s t knows is =
    let size = size_in t in
    let connect = connect_in t in
    ap (λ (b : Bool). sized_by size b (fixed_by connect k.connected s)) knows.begun
    ∙ ap (λ (b : Bool). sized_by size (is_some (first_in size_in told)) (fixed_by connect b s))
    knows.connected
    ∙ ap (λ (x : AssociationSetup). sized_by size (is_some (first_in size_in told))
    (fixed_by connect (is_some (first_in connect_in told)) x)) is
    ∙ fixed_more (first_in size_in told) (first_in connect_in told) size connect
    ∙ ap (λ (o : Option (Option ℕ)). setup_by (size_by o) (or_else (first_in connect_in told) connect))
    (sym (first_push size_in told t))
    ∙ ap (λ (o : Option Connecting). setup_by (size_by (first_in size_in (told ++ t ∷ []))) o)
    (sym (first_push connect_in told t))

pub since_more : (role : Role) (told later : List Arrival) → IsSince role told
    → IsSince role (told ++ later)
since_more called told later s = tt
since_more (calling title None) told later s = tt
since_more (calling title (Some n)) told later s =
    let l = length-append told later in omega (arith, l, s)

-- what is expected is what is kept
abbrev expected_with : Side → Phase → ℕ → ℕ → Bool → Expecting
expected_with side phase acse mms awaited = record {
  side = side;
  phase = phase;
  acse = acse;
  mms = mms;
  awaited = awaited;
}

phase_known : (role : Role) (told : List Arrival) (k : Milestones) → Knows role told k
    → phase_by k.side k ≡ phase_after role told
phase_known called told k s = ap (λ (side : Side). phase_by side k) s.side
    ∙ ap (λ (b : Bool). called_phase b k.concluding) s.connected
    ∙ ap (λ (b : Bool). called_phase (is_some (first_in connect_in told)) b) s.concluding
phase_known (calling title said) told k s = ap (λ (side : Side). phase_by side k) s.side
    ∙ ap (λ (b : Bool). calling_phase b k.refused k.accepted k.concluded) s.confirmed
    ∙ ap (λ (b : Bool). calling_phase (is_some (first_in confirm_in told)) b k.accepted k.concluded)
    s.refused
    ∙ ap (λ (b : Bool). calling_phase (is_some (first_in confirm_in told))
    (list_any is_refuse told) b k.concluded) s.accepted
    ∙ ap (λ (b : Bool). calling_phase (is_some (first_in confirm_in told))
    (list_any is_refuse told) (is_some (first_in accept_in told)) b) s.concluded

awaited_known : (role : Role) (told : List Arrival) (k : Milestones) → Knows role told k
    → IsSince role told → (k.said && not k.concluded) ≡ awaited_after role told
awaited_known called told k s since = ap (λ (b : Bool). b && not k.concluded) s.said
awaited_known (calling title None) told k s since = ap (λ (b : Bool). b && not k.concluded) s.said
awaited_known (calling title (Some n)) told k s since =
    ap (λ (b : Bool). b && not k.concluded) s.said
    ∙ ap (λ (b : Bool). not b) s.concluded
    ∙ ap (λ (b : Bool). b && not (list_any is_concluded told)) (sym (le-leb n (length told) since))

pub expecting_known : (role : Role) (told : List Arrival) (k : Milestones) (s : AssociationSetup)
    → Knows role told k → IsSince role told → s ≡ setup_after told
    → expecting_by k s.acse s.mms ≡ expecting_after role told
expecting_known role told k s knows since is =
    ap (λ (x : Side). expected_with x (phase_by k.side k) s.acse s.mms (k.said && not k.concluded))
    knows.side
    ∙ ap (λ (x : Phase). expected_with (side_of role) x s.acse s.mms (k.said && not k.concluded))
    (phase_known role told k knows)
    ∙ ap (λ (x : AssociationSetup). expected_with (side_of role) (phase_after role told) x.acse x.mms
    (k.said && not k.concluded)) is
    ∙ ap (λ (x : Bool). expected_with (side_of role) (phase_after role told)
    (setup_after told).acse (setup_after told).mms x) (awaited_known role told k knows since)
