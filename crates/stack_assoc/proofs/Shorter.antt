-- What is handed out leaves less to be read.
use Rattle.std.proofs.Common.{◌≡◌, ℕ, ◌+◌, ◌<◌, ◌≤◌, length, Option, Some, None, IfOk, OnSome}
use Rattle.std.proofs.Common.{subst, arith, refl}
use Rattle.tpkt_cotp.specs.Streams.{Message}
use Rattle.stack_assoc.specs.declared.messages.expecting.Expecting.{Expecting}
use Rattle.stack_assoc.specs.declared.taken.Came.{Came}
use Rattle.stack_assoc.specs.declared.taken.Came.TheVariants as cames
use Rattle.stack_assoc.specs.declared.taken.Said.{Said}
use Rattle.stack_assoc.specs.declared.taken.Said.TheVariants as saids
use Rattle.stack_assoc.specs.Taking.{SaysMessage}
use Rattle.stack_assoc.specs.Courses.{Course}
use Rattle.stack_assoc.specs.Steps.{one_if, left_of, FewerLeft, IsEmpty, told_with, told_answer}
use Rattle.stack_assoc.proofs.Answered.{answered}

abbrev pub LessLeft : Course → Came → Said → Course → Type 0
LessLeft old came said v = IfOk (told_answer came said) (λ input. OnSome input
    (left_of (told_with came said (answered v)) < left_of old))

one_less : (n : ℕ) (held : Option Message) (m : Message) (k : ℕ) → held ≡ Some m
    → n + one_if held ≤ k → n + 0 < k
one_less n None m k e le = absurd cc
one_less n (Some x) m k e le = omega (arith, le)

none_some : (o : Option Message) (m : Message) → o ≡ None → o ≡ Some m → ⊥
none_some None m a b = cc
none_some (Some n) m a b = cc

no_rest : (e : Expecting) (v : Course) (came : Came) (m : Message) → v.held ≡ Some m
    → IsEmpty came v → came ≡ cames.Message
no_rest e v cames.Message m is empty = refl
no_rest e v cames.Nothing m is empty = absurd (none_some v.held m empty is)
no_rest e v (cames.Fault f) m is empty = absurd (none_some v.held m empty is)

less_by : (old v : Course) (came : Came) (m : Message) (e : Expecting) → v.held ≡ Some m
    → FewerLeft came old v → IsEmpty came v → length v.line.unread + 0 < left_of old
less_by old v came m e is fewer empty =
    let P : Came → Type 0 = λ x. FewerLeft x old v in
    one_less (length v.line.unread) v.held m (left_of old) is
    (subst P (no_rest e v came m is empty) fewer)

left_nothing : (old v : Course) (came : Came) → LessLeft old came saids.Nothing v
left_nothing old v cames.Message = tt
left_nothing old v cames.Nothing = tt
left_nothing old v (cames.Fault f) = tt

less_held : (old v : Course) (came : Came) (said : Said) (e : Expecting) (held : Option Message)
    → v.held ≡ held → FewerLeft came old v → IsEmpty came v → SaysMessage e held said
    → LessLeft old came said v
less_held old v came saids.Nothing e held is fewer empty says = left_nothing old v came
less_held old v came (saids.Broken f) e held is fewer empty says = tt
less_held old v came saids.Gone e None is fewer empty says = absurd says
less_held old v came saids.Gone e (Some m) is fewer empty says = less_by old v came m e is fewer empty
less_held old v came (saids.Heard h results) e None is fewer empty says = absurd says
less_held old v came (saids.Heard h results) e (Some m) is fewer empty says =
    less_by old v came m e is fewer empty

pub less_left : (old v : Course) (came : Came) (said : Said) (e : Expecting)
    → FewerLeft came old v → IsEmpty came v → SaysMessage e v.held said → LessLeft old came said v
less_left old v came said e fewer empty says =
    less_held old v came said e v.held refl fewer empty says
