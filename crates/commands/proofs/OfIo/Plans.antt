-- That a command whose inputs are read in turn does what its plan says.
use Rattle.std.proofs.Common.{◌≡◌, ℕ, Bool, true, false, ◌||◌, ◌<◌, ◌≤◌, cond, List, []}
use Rattle.std.proofs.Common.{◌+◌, length, replicate, refl, sym, ◌∙◌, ap, subst, arith}
use Rattle.std.proofs.lemmas.List.{length-replicate}
use Rattle.std.specs.Prelude.{Result, Ok, Err, Vec, IfOk, MatchResult, bytes_eq, nat_lt}
use Rattle.std.specs.declared.alloc.AllocError.{AllocError}
use Rattle.std.specs.declared.alloc.Global.{Global}
use Rattle.std.proofs.lemmas.Bool.Decides.{nat_tests}
use Rattle.outside.specs.Names.Outside.{OutsideTold}
use Rattle.commands.specs.declared.io.status.Status.{Status}
use Rattle.commands.specs.declared.io.status.Status.TheVariants as statuses
use Rattle.commands.specs.declared.io.input.Refusal.{Refusal}
use Rattle.commands.specs.declared.io.input.Refusal.TheVariants.{Long, BadLine, BadKey}
use Rattle.commands.specs.declared.io.input.InputEnd.{InputEnd}
use Rattle.commands.specs.declared.io.input.InputEnd.TheVariants.{Refused, Outside, Memory}
use Rattle.commands.specs.Io.Saying.{Said, Text, untold, missing, told, emptied, text_of, texts_of}
use Rattle.commands.specs.Io.Saying.{Duty, prints, duty_to_say}
use Rattle.commands.specs.Io.Inputs.{value_or_end, value_as, IsInput, ReadsInput, OpensInput}
use Rattle.commands.specs.Io.Statuses.{is_outside}
use Rattle.commands.specs.Io.Runs.{IsRun}
use Rattle.commands.specs.Io.Plans.{Asked, Plan, says, reads, refused_said, by_value, reads_value}
use Rattle.commands.specs.Io.Plans.{texts_behind, opening, IsFound, OwesWithin, OwesFound, Owes}
use Rattle.commands.specs.Io.Plans.{RunsPlan, EndsPlan, IsSpelled}
use Rattle.commands.specs.Io.Plans.{IsValue, ReadsValue, OnValue, whole_text, octets_of}
use Rattle.commands.proofs.OfIo.Exchanging.{name_is}
use Rattle.commands.proofs.OfIo.Running.{IsCut, IsRun-then, IsRun-unread, IsRun-idle}

-- a run of a plan has what it owes
runs_duty : (plan : Plan) (b a : OutsideTold) (status : Status) → RunsPlan plan b a status
    → (duty : Duty) × Owes plan (texts_of b) duty × IsRun duty b a status
runs_duty (says said) b a status run = (duty_to_say true said, refl, run)
runs_duty (reads asked next) b a status run = run

module _ (asked : Asked) (P : List ℕ → Duty → Type 0) where
  -- a fact of what is owed behind an input, whatever that is found to be
  found_fact : (fact : Duty → Type 0)
      → ((said : Said) → fact (duty_to_say true said))
      → ((octets : List ℕ) (duty : Duty) → P octets duty → fact duty)
      → (found : Text) (duty : Duty) → OwesFound asked P found duty → fact duty
  found_fact fact told_so behind untold duty owes = absurd owes
  found_fact fact told_so behind missing duty owes =
      subst fact (sym owes) (told_so (prints statuses.Outside []))
  found_fact fact told_so behind (told octets) duty owes =
      by (nat_lt asked.limit (length octets)) owes
    where
      by : (long : Bool) → OwesWithin long (duty_to_say true (refused_said asked.called Long))
          (P octets) duty → fact duty
      by true o = subst fact (sym o) (told_so (refused_said asked.called Long))
      by false o = behind octets duty o

  -- what is owed where each octets owe something else
  found_map : (Q : List ℕ → Duty → Type 0)
      → ((octets : List ℕ) (duty : Duty) → P octets duty → Q octets duty)
      → (found : Text) (duty : Duty) → OwesFound asked P found duty → OwesFound asked Q found duty
  found_map Q each untold duty owes = owes
  found_map Q each missing duty owes = owes
  found_map Q each (told octets) duty owes = by (nat_lt asked.limit (length octets)) owes
    where
      by : (long : Bool) → OwesWithin long (duty_to_say true (refused_said asked.called Long))
          (P octets) duty
          → OwesWithin long (duty_to_say true (refused_said asked.called Long)) (Q octets) duty
      by true o = o
      by false o = each octets duty o

-- what a plan owes is owed for words that are a command
owes_command : (plan : Plan) (texts : List ℕ → Text) (duty : Duty) → Owes plan texts duty
    → duty.is_command ≡ true
owes_command (says said) texts duty owes = ap (λ (d : Duty). d.is_command) owes
owes_command (reads asked next) texts duty owes =
    ap (λ (d : Duty). d.is_command) owes.2.2
    ∙ found_fact asked (λ octets. Owes (next octets) (texts_behind texts asked.file))
    (λ d. d.is_command ≡ true) (λ said. refl)
    (λ octets d o. owes_command (next octets) (texts_behind texts asked.file) d o)
    owes.0 owes.2.0 owes.2.1

-- what a plan owes depends on what is told under each name alone
owes_same : (plan : Plan) (s t : List ℕ → Text) → ((name : List ℕ) → s name ≡ t name)
    → (duty : Duty) → Owes plan s duty → Owes plan t duty
owes_same (says said) s t same duty owes = owes
owes_same (reads asked next) s t same duty owes = (
  owes.0,
  subst (λ t. IsFound t owes.0) (same asked.file) owes.1,
  (
    owes.2.0,
    found_map asked (λ octets. Owes (next octets) (texts_behind s asked.file))
        (λ octets. Owes (next octets) (texts_behind t asked.file))
        (λ octets d o. owes_same (next octets) (texts_behind s asked.file)
        (texts_behind t asked.file) behind d o)
        owes.0 owes.2.0 owes.2.1,
    owes.2.2,
  ),
)
  where
    behind : (name : List ℕ) → texts_behind s asked.file name ≡ texts_behind t asked.file name
    behind name = by (bytes_eq name asked.file)
      where
        by : (b : Bool) → cond b (emptied (s asked.file)) (s name)
            ≡ cond b (emptied (t asked.file)) (t name)
        by true = ap emptied (same asked.file)
        by false = same name

-- something is owed
pub owes_some : (plan : Plan) (texts : List ℕ → Text) → (duty : Duty) × Owes plan texts duty
owes_some (says said) texts = (duty_to_say true said, refl)
owes_some (reads asked next) texts =
    here (texts asked.file) (λ octets. owes_some (next octets) (texts_behind texts asked.file))
  where
    here : (t : Text)
        → ((octets : List ℕ) → (duty : Duty)
        × Owes (next octets) (texts_behind texts asked.file) duty)
        → (duty : Duty) × ((found : Text) × IsFound t found × ((rest : Duty)
        × OwesFound asked (λ octets. Owes (next octets) (texts_behind texts asked.file)) found rest
        × (duty ≡ opening asked.file rest)))
    here untold each =
        let rest : Duty = duty_to_say true (prints statuses.Outside []) in
        (opening asked.file rest, (missing, tt, (rest, refl, refl)))
    here missing each =
        let rest : Duty = duty_to_say true (prints statuses.Outside []) in
        (opening asked.file rest, (missing, refl, (rest, refl, refl)))
    here (told octets) each =
        let rest = by (nat_lt asked.limit (length octets)) in
        (opening asked.file rest.0, (told octets, refl, (rest.0, rest.1, refl)))
      where
        by : (long : Bool) → (rest : Duty)
            × OwesWithin long (duty_to_say true (refused_said asked.called Long))
            (λ duty. Owes (next octets) (texts_behind texts asked.file) duty) rest
        by true = (duty_to_say true (refused_said asked.called Long), refl)
        by false = each octets

-- memory ran out before anything was opened
pub RunsPlan-idle : (plan : Plan) (b : OutsideTold) → RunsPlan plan b b statuses.Memory
RunsPlan-idle (says said) b = IsRun-idle (duty_to_say true said) b refl
RunsPlan-idle (reads asked next) b =
    let some = owes_some (reads asked next) (texts_of b) in (
      some.0,
      some.1,
      IsRun-idle some.0 b (owes_command (reads asked next) (texts_of b) some.0 some.1),
    )

-- a run that ended where it stood
same_run : (P : OutsideTold → Status → Type 0) (m a : OutsideTold) (s status : Status)
    → (status ≡ s) × (a ≡ m) → P m s → P a status
same_run P m a s status same run =
    subst (λ t. P a t) (sym same.0) (subst (λ o. P o s) (sym same.1) run)

is_less : (m n : ℕ) → m < n → nat_lt m n ≡ true
is_less m n h = grind (arith, nat_tests)

is_within : (m n : ℕ) → n ≤ m → nat_lt m n ≡ false
is_within m n h = grind (arith, nat_tests)

-- the texts behind an input that was read
texts_read : (b m : OutsideTold) (file : List ℕ) (limit : ℕ) (text : Vec ℕ Global)
    → ReadsInput b m file limit (Ok text) → (name : List ℕ)
    → texts_behind (texts_of b) file name ≡ texts_of m name
texts_read b m file limit text input name = here (bytes_eq name file) refl
  where
    here : (same : Bool) → bytes_eq name file ≡ same
        → cond same (emptied (texts_of b file)) (texts_of b name) ≡ texts_of m name
    here true at = sym input.spent ∙ ap (texts_of m) (sym (name_is name file at))
    here false at =
        ap text_of (sym (input.opens.uses.sources.others name (ap (λ t. t || false) at)))

module _ (b m a : OutsideTold) (asked : Asked) (next : List ℕ → Plan) where
  -- an input was found to be this, and then the rest
  runs_found : (found : Text) (rest : Duty) (status : Status)
      → IsFound (texts_of b asked.file) found
      → OwesFound asked (λ octets. Owes (next octets) (texts_behind (texts_of b) asked.file)) found
      rest
      → OpensInput b m asked.file false → IsRun rest m a status
      → RunsPlan (reads asked next) b a status
  runs_found found rest status is owes opens run = (
    opening asked.file rest,
    (found, is, (rest, owes, refl)),
    IsRun-then rest b m a asked.file status opens run,
  )

  -- one input is there, and then the rest
  IsRun-there : (text : Vec ℕ Global) (status : Status)
      → ReadsInput b m asked.file asked.limit (Ok text)
      → RunsPlan (next text.items) m a status → RunsPlan (reads asked next) b a status
  IsRun-there text status input run =
      let r = runs_duty (next text.items) m a status run in
      let few : length text.items ≤ asked.limit = few_read (texts_of b asked.file) input.text in
      runs_found (told text.items) r.0 status (found_so (texts_of b asked.file) input.text)
      (subst (λ long. OwesWithin long (duty_to_say true (refused_said asked.called Long))
      (Owes (next text.items) (texts_behind (texts_of b) asked.file)) r.0)
      (sym (is_within asked.limit (length text.items) few))
      (owes_same (next text.items) (texts_of m) (texts_behind (texts_of b) asked.file)
      (λ name. sym (texts_read b m asked.file asked.limit text input name)) r.0 r.1))
      input.opens r.2
    where
      found_so : (t : Text) → IsInput asked.limit (Ok text) t → IsFound t (told text.items)
      found_so untold is = tt
      found_so missing is = absurd cc
      found_so (told octets) is = ap (λ (o : List ℕ). told o) (sym is.0)

      few_read : (t : Text) → IsInput asked.limit (Ok text) t → length text.items ≤ asked.limit
      few_read untold is = is
      few_read missing is = absurd cc
      few_read (told octets) is = subst (λ (o : List ℕ). length o ≤ asked.limit) is.0 is.1

  -- it is refused
  IsRun-refused : (refusal : Refusal) (status : Status)
      → ReadsInput b m asked.file asked.limit (Err (Refused refusal))
      → IsRun (duty_to_say true (refused_said asked.called refusal)) m a status
      → RunsPlan (reads asked next) b a status
  IsRun-refused refusal status input run =
      here refusal (texts_of b asked.file) refl input.text run
    where
      long : (octets : List ℕ) → asked.limit < length octets
          → IsFound (texts_of b asked.file) (told octets)
          → IsRun (duty_to_say true (refused_said asked.called Long)) m a status
          → RunsPlan (reads asked next) b a status
      long octets many is ran =
          runs_found (told octets) (duty_to_say true (refused_said asked.called Long)) status is
          (subst (λ more. OwesWithin more (duty_to_say true (refused_said asked.called Long))
          (Owes (next octets) (texts_behind (texts_of b) asked.file))
          (duty_to_say true (refused_said asked.called Long)))
          (sym (is_less asked.limit (length octets) many)) refl)
          input.opens ran

      here : (r : Refusal) (t : Text) → texts_of b asked.file ≡ t
          → IsInput asked.limit (Err (Refused r)) t
          → IsRun (duty_to_say true (refused_said asked.called r)) m a status
          → RunsPlan (reads asked next) b a status
      here Long untold at is ran =
          let octets : List ℕ = replicate (asked.limit + 1) 0 in
          long octets (omega (arith, length-replicate {A = ℕ} (asked.limit + 1) 0))
          (subst (λ t. IsFound t (told octets)) (sym at) tt) ran
      here Long missing at is ran = absurd cc
      here Long (told octets) at is ran =
          long octets is (subst (λ t. IsFound t (told octets)) (sym at) refl) ran
      here (BadLine line) untold at is ran = absurd is
      here (BadLine line) missing at is ran = absurd cc
      here (BadLine line) (told octets) at is ran = absurd is
      here BadKey untold at is ran = absurd is
      here BadKey missing at is ran = absurd cc
      here BadKey (told octets) at is ran = absurd is

  -- it isn't there, since something outside failed or memory ran out
  runs_unread : (status : Status) → IsCut status → OpensInput b m asked.file (is_outside status)
      → RunsPlan (reads asked next) b m status
  runs_unread status cut opens =
      let some = owes_some (reads asked next) (texts_of b) in (
        some.0,
        some.1,
        IsRun-unread some.0 b m asked.file some.1.2.0.inputs status cut
            (owes_command (reads asked next) (texts_of b) some.0 some.1)
            (ap (λ (d : Duty). d.inputs) some.1.2.2) opens,
      )

  -- a run of a plan: its first input is read to this, and it goes on by its octets or ends
  pub IsRun-reads : (read : Result (Vec ℕ Global) InputEnd) (status : Status)
      → ReadsInput b m asked.file asked.limit read
      → EndsPlan asked.called (λ (text : Vec ℕ Global). next text.items) read m a status
      → RunsPlan (reads asked next) b a status
  IsRun-reads (Ok text) status input run = IsRun-there text status input run
  IsRun-reads (Err (Refused refusal)) status input run = IsRun-refused refusal status input run.0
  IsRun-reads (Err Outside) status input run =
      same_run (λ o s. RunsPlan (reads asked next) b o s) m a statuses.Outside status run
      (runs_unread statuses.Outside tt input.opens)
  IsRun-reads (Err Memory) status input run =
      same_run (λ o s. RunsPlan (reads asked next) b o s) m a statuses.Memory status run
      (runs_unread statuses.Memory tt input.opens)

-- the same by the value that the input spells
module _ {V : Type 0} (b m a : OutsideTold) (asked : Asked) (spelled : List ℕ → Result V ℕ)
    (then : V → Plan) where
  spelled_plan : (octets : List ℕ) (result : Result V InputEnd) (status : Status)
      → IsSpelled result (spelled octets) → EndsPlan asked.called then result m a status
      → RunsPlan (by_value asked.called then (spelled octets)) m a status
  spelled_plan octets (Ok value) status is run =
      subst (λ r. RunsPlan (by_value asked.called then r) m a status) (sym is)
      run
  spelled_plan octets (Err (Refused Long)) status is run = absurd is
  spelled_plan octets (Err (Refused (BadLine line))) status is run =
      subst (λ r. RunsPlan (by_value asked.called then r) m a status) (sym is)
      run.0
  spelled_plan octets (Err (Refused BadKey)) status is run = absurd is
  spelled_plan octets (Err Outside) status is run = absurd is
  spelled_plan octets (Err Memory) status is run =
      let plan = by_value asked.called then (spelled octets) in
      same_run (λ o s. RunsPlan plan m o s) m a statuses.Memory status run (RunsPlan-idle plan m)

  value_plan : (read : Result (Vec ℕ Global) InputEnd) (result : Result V InputEnd)
      (status : Status) → IsValue spelled read result → EndsPlan asked.called then result m a status
      → EndsPlan asked.called
      (λ (text : Vec ℕ Global). by_value asked.called then (spelled text.items)) read m a status
  value_plan (Ok text) result status is run = spelled_plan text.items result status is run
  value_plan (Err end) result status is run =
      subst (λ r. EndsPlan asked.called then r m a status) is run

  pub IsRun-value : (result : Result V InputEnd) (status : Status)
      → ReadsValue spelled asked.file asked.limit result b m
      → EndsPlan asked.called then result m a status
      → RunsPlan (reads_value asked spelled then) b a status
  IsRun-value result status value run =
      IsRun-reads b m a asked (λ octets. by_value asked.called then (spelled octets))
      value.0 status value.1 (value_plan value.0 result status value.2 run)

-- what a reader makes of octets, by what its value means
pub IsSpelled-from : {T V : Type 0} (meant : T → V) (spelled : Result V ℕ)
    (read : Result (Result T ℕ) AllocError)
    → IfOk read (λ r. MatchResult r (λ value. spelled ≡ Ok (meant value))
    (λ line. spelled ≡ Err line))
    → IsSpelled (value_as meant (value_or_end read)) spelled
IsSpelled-from meant spelled (Ok (Ok value)) is = is
IsSpelled-from meant spelled (Ok (Err line)) is = is
IsSpelled-from meant spelled (Err out_of_memory) is = tt

-- a text as the value that it spells
pub ReadsValue-text : (b m : OutsideTold) (name : List ℕ) (limit : ℕ)
    (read : Result (Vec ℕ Global) InputEnd) → ReadsInput b m name limit read
    → ReadsValue whole_text name limit (value_as octets_of read) b m
ReadsValue-text b m name limit read input = (read, input, is read)
  where
    is : (r : Result (Vec ℕ Global) InputEnd)
        → IsValue whole_text r (value_as octets_of r)
    is (Ok text) = refl
    is (Err end) = refl

module _ {V : Type 0} (spelled : List ℕ → Result V ℕ) (name : List ℕ) (limit : ℕ)
    (b m : OutsideTold) where
  -- the texts behind an input of which there is a value
  pub texts_valued : (value : V) → ReadsValue spelled name limit (Ok value) b m
      → (other : List ℕ) → texts_behind (texts_of b) name other ≡ texts_of m other
  texts_valued value (Ok text, input, is) other = texts_read b m name limit text input other
  texts_valued value (Err end, input, is) other = absurd cc

  -- a fact of the value that was read; of each where there is none, unless the input is refused
  abbrev pub OnEnd : Result V InputEnd → (V → Type 0) → Type 0
  OnEnd (Ok value) fact = fact value
  OnEnd (Err (Refused refusal)) fact = Unit {0}
  OnEnd (Err Outside) fact = (value : V) → fact value
  OnEnd (Err Memory) fact = (value : V) → fact value

  module _ (fact : V → Type 0) where
    each : (result : Result V ℕ) → ((value : V) → fact value) → IfOk result fact
    each (Ok value) all = all value
    each (Err line) all = tt

    fact_spelled : (octets : List ℕ) (result : Result V InputEnd)
        → IsSpelled result (spelled octets) → OnEnd result fact → IfOk (spelled octets) fact
    fact_spelled octets (Ok value) is end = subst (λ r. IfOk r fact) (sym is) end
    fact_spelled octets (Err (Refused Long)) is end = absurd is
    fact_spelled octets (Err (Refused (BadLine line))) is end =
        subst (λ r. IfOk r fact) (sym is) tt
    fact_spelled octets (Err (Refused BadKey)) is end = absurd is
    fact_spelled octets (Err Outside) is end = absurd is
    fact_spelled octets (Err Memory) is end = each (spelled octets) end

    fact_read : (read : Result (Vec ℕ Global) InputEnd) (result : Result V InputEnd) (t : Text)
        → IsInput limit read t → IsValue spelled read result → OnEnd result fact
        → OnValue spelled limit fact t
    fact_read read result untold input is end = tt
    fact_read read result missing input is end = tt
    fact_read (Ok text) result (told octets) input is end =
        λ within. subst (λ (o : List ℕ). IfOk (spelled o) fact) (sym input.0)
        (fact_spelled text.items result is end)
    fact_read (Err (Refused Long)) result (told octets) input is end =
        λ within. absurd (omega (arith, input, within))
    fact_read (Err (Refused (BadLine line))) result (told octets) input is end = absurd input
    fact_read (Err (Refused BadKey)) result (told octets) input is end = absurd input
    fact_read (Err Outside) result (told octets) input is end =
        λ within. each (spelled octets) (subst (λ r. OnEnd r fact) is end)
    fact_read (Err Memory) result (told octets) input is end =
        λ within. each (spelled octets) (subst (λ r. OnEnd r fact) is end)

    pub OnValue-read : (result : Result V InputEnd) → ReadsValue spelled name limit result b m
        → OnEnd result fact → OnValue spelled limit fact (texts_of b name)
    OnValue-read result value end =
        fact_read value.0 result (texts_of b name) value.1.text value.2 end
