-- Reading a layer and then what stands inside it is exact.
use Rattle.std.proofs.Common.{◌≡◌, Result, Ok, Err, IfOk, refl, sym, ap, subst, inl, inr, Option, Some, None, Bool, true, false}
use Rattle.std.specs.Option.{option_map}
use Rattle.std.specs.declared.alloc.AllocError.{AllocError}
use Rattle.stack_assoc.specs.declared.messages.fault.StackFault.{StackFault}
use Rattle.stack_assoc.specs.Messages.Meanings.{Meaning, says_just, says_nothing, says_some, inside, where_allowed, IsReadAs}

abbrev pub done : {X : Type 0} → X → Result X StackFault
done x = Ok x

abbrev pub failed : {X : Type 0} → StackFault → Result X StackFault
failed f = Err f

pub Ok_is : {X : Type 0} (x y : X) → done x ≡ done y → x ≡ y
Ok_is x y e = cc

pub Err_is : {X : Type 0} (f g : StackFault) → failed {X = X} f ≡ failed g → f ≡ g
Err_is f g e = cc

pub not_both : {X : Type 0} (x : X) (f : StackFault) → done x ≡ failed f → ⊥
not_both x f e = cc

-- ---- a reading by what it answers

pub read-ok : {X : Type 0} (m : Meaning X) (x : X) → m.says x → ((y : X) → m.says y → x ≡ y)
    → ((f : StackFault) → m.breaks f → ⊥) → IsReadAs m (Ok x)
read-ok {X} m x said only none = record {
  found = said;
  only = λ y s. ap (λ (z : X). done z) (only y s);
  fault = λ f. (λ e. absurd (not_both x f e), λ b. absurd (none f b));
}

pub read-err : {X : Type 0} (m : Meaning X) (f : StackFault) → m.breaks f
    → ((g : StackFault) → m.breaks g → f ≡ g) → ((x : X) → m.says x → ⊥) → IsReadAs m (Err f)
read-err {X} m f broken only none = record {
  found = tt;
  only = λ x s. absurd (none x s);
  fault = λ g. (
    λ e. subst m.breaks (Err_is {X = X} f g e) broken,
    λ b. ap (λ (h : StackFault). failed {X = X} h) (only g b),
  );
}

pub only_one : {X : Type 0} (m : Meaning X) (x : X) → IsReadAs m (Ok x) → (y : X) → m.says y
    → x ≡ y
only_one m x r y said = Ok_is x y (r.only y said)

pub no_fault : {X : Type 0} (m : Meaning X) (x : X) → IsReadAs m (Ok x) → (f : StackFault)
    → m.breaks f → ⊥
no_fault m x r f broken = not_both x f ((r.fault f).1 broken)

pub breaks_so : {X : Type 0} (m : Meaning X) (f : StackFault) → IsReadAs m (Err f) → m.breaks f
breaks_so m f r = (r.fault f).0 refl

pub one_fault : {X : Type 0} (m : Meaning X) (f : StackFault) → IsReadAs m (Err f)
    → (g : StackFault) → m.breaks g → f ≡ g
one_fault {X} m f r g broken = Err_is {X = X} f g ((r.fault g).1 broken)

pub says_none : {X : Type 0} (m : Meaning X) (f : StackFault) → IsReadAs m (Err f) → (x : X)
    → m.says x → ⊥
says_none m f r x said = not_both x f (sym (r.only x said))

-- ---- what is known

pub just_read : {X : Type 0} (x : X) → IsReadAs (says_just x) (Ok x)
unfolding says_just
just_read x = read-ok (says_just x) x refl (λ y e. sym e) (λ f b. b)

pub nothing-read : {X : Type 0} (f : StackFault) → IsReadAs (says_nothing {X = X} f) (Err f)
unfolding says_nothing
nothing-read {X} f = read-err (says_nothing {X = X} f) f refl (λ g e. sym e) (λ x b. b)

-- ---- one layer, then the next inside it

pub inside-read : {X Y : Type 0} (outer : Meaning X) (inner : X → Meaning Y) (x : X)
    (read : Result Y StackFault) → IsReadAs outer (Ok x) → IsReadAs (inner x) read
    → IsReadAs (inside outer inner) read
unfolding inside
inside-read {X} {Y} outer inner x (Ok y) o i =
    read-ok (inside outer inner) y (x, o.found, i.found)
    (λ z h. only_one (inner x) y i z
    (subst (λ (w : X). (inner w).says z) (sym (only_one outer x o h.0 h.1)) h.2))
    (λ f h. elim h [
      | inl a ↦ no_fault outer x o f a
      | inr b ↦ no_fault (inner x) y i f
          (subst (λ (w : X). (inner w).breaks f) (sym (only_one outer x o b.0 b.1)) b.2)
    ])
inside-read {X} {Y} outer inner x (Err f) o i =
    read-err (inside outer inner) f (inr (x, o.found, breaks_so (inner x) f i))
    (λ g h. elim h [
      | inl a ↦ absurd (no_fault outer x o g a)
      | inr b ↦ one_fault (inner x) f i g
          (subst (λ (w : X). (inner w).breaks g) (sym (only_one outer x o b.0 b.1)) b.2)
    ])
    (λ z h. says_none (inner x) f i z
    (subst (λ (w : X). (inner w).says z) (sym (only_one outer x o h.0 h.1)) h.2))

pub inside-broken : {X Y : Type 0} (outer : Meaning X) (inner : X → Meaning Y) (f : StackFault)
    → IsReadAs outer (Err f) → IsReadAs (inside outer inner) (Err f)
unfolding inside
inside-broken outer inner f o =
    read-err (inside outer inner) f (inl (breaks_so outer f o))
    (λ g h. elim h [
      | inl a ↦ one_fault outer f o g a
      | inr b ↦ absurd (says_none outer f o b.0 b.1)
    ])
    (λ z h. says_none outer f o h.0 h.1)

-- ---- the same of functions, by what their calls answered

-- the call for the inner layer may want memory
pub inside-goes : {X Y : Type 0} (outer : Meaning X) (inner : X → Meaning Y) (x : X)
    (r : Result X StackFault) (q : Result (Result Y StackFault) AllocError) → r ≡ Ok x
    → IsReadAs outer r → IfOk q (λ read. IsReadAs (inner x) read)
    → IfOk q (λ read. IsReadAs (inside outer inner) read)
inside-goes {X} outer inner x r (Ok read) is o i =
    inside-read outer inner x read (subst (λ (s : Result X StackFault). IsReadAs outer s) is o) i
inside-goes outer inner x r (Err a) is o i = tt

pub inside-answers : {X Y : Type 0} (outer : Meaning X) (inner : X → Meaning Y) (x : X)
    (r : Result X StackFault) (read : Result Y StackFault) → r ≡ Ok x → IsReadAs outer r
    → IsReadAs (inner x) read → IsReadAs (inside outer inner) read
inside-answers {X} outer inner x r read is o i =
    inside-read outer inner x read (subst (λ (s : Result X StackFault). IsReadAs outer s) is o) i

pub inside-stops : {X Y : Type 0} (outer : Meaning X) (inner : X → Meaning Y) (f : StackFault)
    (r : Result X StackFault) → r ≡ Err f → IsReadAs outer r
    → IsReadAs (inside outer inner) (Err f)
inside-stops {X} outer inner f r is o =
    inside-broken outer inner f (subst (λ (s : Result X StackFault). IsReadAs outer s) is o)

pub nothing_so : {X : Type 0} (f g : StackFault) → g ≡ f
    → IsReadAs (says_nothing {X = X} f) (Err g)
nothing_so {X} f g is = subst
    (λ (h : StackFault). IsReadAs (says_nothing {X = X} f) (Err h)) (sym is) (nothing-read f)

-- ---- a value, where there is one

pub some-read : {A X : Type 0} (f : StackFault) (made : A → X) (o : Option A) (a : A)
    → o ≡ Some a → IsReadAs (says_some f (option_map made o)) (Ok (made a))
some-read {A} f made o a is = subst
    (λ (b : Option A). IsReadAs (says_some f (option_map made b)) (Ok (made a))) (sym is)
    (just_read (made a))

pub none-read : {A X : Type 0} (f g : StackFault) (made : A → X) (o : Option A) → o ≡ None
    → g ≡ f → IsReadAs (says_some f (option_map made o)) (Err g)
none-read {A} f g made o is so = subst
    (λ (b : Option A). IsReadAs (says_some f (option_map made b)) (Err g)) (sym is)
    (nothing_so f g so)

-- ---- what may come

pub allowed-goes : {X : Type 0} (may : Bool) (f : StackFault) (m : Meaning X)
    (q : Result (Result X StackFault) AllocError) → may ≡ true
    → IfOk q (λ read. IsReadAs m read) → IfOk q (λ read. IsReadAs (where_allowed may f m) read)
allowed-goes {X} may f m q is i = subst
    (λ (b : Bool). IfOk q (λ read. IsReadAs (where_allowed b f m) read)) (sym is) i

pub refused-so : {X : Type 0} (may : Bool) (f g : StackFault) (m : Meaning X) → may ≡ false
    → g ≡ f → IsReadAs (where_allowed may f m) (Err g)
refused-so {X} may f g m is so = subst
    (λ (b : Bool). IsReadAs (where_allowed b f m) (Err g)) (sym is) (nothing_so f g so)
