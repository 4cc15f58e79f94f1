-- What is spelled is read, whatever follows it.
use Rattle.std.proofs.Common.{◌≡◌, ◌≢◌, ℕ, ◌+◌, ◌-◌, ◌*◌, ◌<◌, ◌≤◌, Bool, true, false, ◌&&◌, eqb}
use Rattle.std.proofs.Common.{leb, List, [], ◌∷◌, ◌++◌, length, slice_index, Option, Some, Ok, refl}
use Rattle.std.proofs.Common.{sym, ap, ◌∙◌, arith, append_assoc}
use Rattle.std.proofs.lemmas.Bool.{lt-ltb, le-ltb, le-leb, eq-eqb, ne_eqb}
use Rattle.std.proofs.lemmas.List.{take_at, drop_at, length-append}
use Rattle.tpkt_cotp.specs.declared.limits.TheConstants.{TSDU_LIMIT}
use Rattle.tpkt_cotp.specs.declared.tpdu.Parameters.{Parameters}
use Rattle.tpkt_cotp.specs.declared.turn.Turn.{Turn}
use Rattle.tpkt_cotp.specs.declared.turn.Kind.{Kind}
use Rattle.tpkt_cotp.specs.declared.turn.Kind.TheVariants as kinds
use Rattle.tpkt_cotp.specs.Turns.{tpdu_kind_of, may_come, is_count}
use Rattle.tpkt_cotp.specs.Tpdus.{Tpdu, request, confirm, disconnect, part, TpduParameter}
use Rattle.tpkt_cotp.specs.Tpdus.{parameter_octets, parameters_octets, AddUp, is_twice}
use Rattle.tpkt_cotp.specs.Tpdus.{is_length_of, is_value_of, with_value, no_parameters, SpellsTpkt}
use Rattle.tpkt_cotp.specs.Tpdus.{SpellsConnect}
use Rattle.tpkt_cotp.specs.Readings.{Read, TakenParameter, tpkt_of, tpdu_parameter_in, parameters_in}
use Rattle.tpkt_cotp.specs.Readings.{connect_with, marked_in, data_part_in, disconnect_in, connection_request_in}
use Rattle.tpkt_cotp.specs.Readings.{tpdu_body_in, known_in, tpdu_in, sized_in, tpkt_in}
use Rattle.tpkt_cotp.specs.Streams.{Comes}
use Rattle.tpkt_cotp.proofs.Exact.{headed}
use Rattle.tpkt_cotp.proofs.Passing.{parameters_in-done, parameters_in-passed, parameters_in-one}
use Rattle.tpkt_cotp.proofs.Passing.{bind_some, after}

-- a head without a fault
pub head_again : (turn : Turn) (total reserved high low count code : ℕ) (k : Kind)
    (octets : List ℕ) → 7 ≤ high * 256 + low → tpdu_kind_of code ≡ Some k
    → is_count k (high * 256 + low) count ≡ true → may_come turn k ≡ true
    → tpkt_in turn total (headed reserved high low count code octets) ≡ tpdu_body_in k total
    (high * 256 + low) octets
unfolding tpkt_in sized_in tpdu_in
head_again turn total reserved high low count code k octets long is counted order =
    let size = high * 256 + low in
    rw (le-ltb size 7 long)
    (ap (λ (o : Option Kind). known_in turn total size count o octets) is
    ∙ rw (counted, order) refl)

sum_again : (sum : ℕ) (marked : Bool) → (marked ≡ true → 0 < sum) → (marked && eqb sum 0) ≡ false
sum_again sum true some = let more : 0 < sum = some refl in let ne : sum ≢ 0 = omega arith in
    ne_eqb sum 0 ne
sum_again sum false some = refl

part_again : (total size mark : ℕ) (held rest : List ℕ) → size ≡ 7 + length held
    → total + length held ≤ TSDU_LIMIT → (leb 128 mark ≡ true → 0 < total + length held)
    → tpdu_body_in kinds.Part total size (mark ∷ (held ++ rest)) ≡ tpkt_of size
    (part (leb 128 mark) held)
unfolding tpdu_body_in data_part_in marked_in
part_again total size mark held rest is within some =
    let n : size - 7 ≡ length held = omega arith in
    let len = length-append held rest in
    let enough : length held ≤ length (held ++ rest) = omega (arith, len) in
    rw n (rw (le-ltb TSDU_LIMIT (total + length held) within)
    (rw (sum_again (total + length held) (leb 128 mark) some)
    (rw (le-ltb (length (held ++ rest)) (length held) enough)
    (rw (take_at held rest (length held) refl) refl))))

disconnect_again : (total size : ℕ) (more rest : List ℕ) → size ≡ 6 + length more
    → tpdu_body_in kinds.Disconnect total size (more ++ rest) ≡ tpkt_of size disconnect
unfolding tpdu_body_in disconnect_in
disconnect_again total size more rest is =
    let len = length-append more rest in
    let enough : size ≤ length (more ++ rest) + 6 = omega (arith, len) in
    rw (le-ltb (length (more ++ rest) + 6) size enough) refl

-- one parameter, whatever follows
pub parameter_again : (seen : Parameters) (at room : ℕ) (p : TpduParameter) (rest : List ℕ)
    → is_twice seen p.code ≡ false → is_length_of p.code (length p.value) ≡ true
    → is_value_of p.code (slice_index p.value 0) ≡ true → length p.value + 2 ≤ room
    → tpdu_parameter_in seen at room p.code (length p.value ∷ (p.value ++ rest)) ≡ Ok
    (Some (record { seen = with_value seen p.code p.value; count = length p.value }))
parameter_again seen at room p rest new counted sound fits =
    let n = length p.value in
    let ne : room ≢ 1 = omega arith in
    let len = length-append p.value rest in
    let enough : n ≤ length (p.value ++ rest) = omega (arith, len) in
    rw new (rw (ne_eqb room 1 ne) (rw counted
    (rw (le-leb (n + 2) room fits) (rw (le-ltb (length (p.value ++ rest)) n enough)
    (rw (take_at p.value rest n refl) (rw sound refl))))))

some_read : Parameters → Read Parameters
some_read s = Ok (Some s)

parameters_again : (seen : Parameters) (at room : ℕ) (ps : List TpduParameter) (all : Parameters)
    (rest : List ℕ) → AddUp seen ps all → room ≡ length (parameters_octets ps)
    → parameters_in seen at room 0 (parameters_octets ps ++ rest) ≡ Ok (Some all)
unfolding some_read
parameters_again seen at room [] all rest adds is = parameters_in-done seen at room rest is
    ∙ ap some_read (sym adds)
parameters_again seen at room (p ∷ ps) all rest adds is =
    let n = length p.value in
    let tail = parameters_octets ps ++ rest in
    let octets : List ℕ = n ∷ (p.value ++ tail) in
    let len = length-append (parameter_octets p) (parameters_octets ps) in
    let room_is : room ≡ n + 2 + length (parameters_octets ps) = omega (arith, len) in
    let ne : room ≢ 0 = omega arith in
    let fits : n + 2 ≤ room = omega arith in
    let t : TakenParameter = record { seen = with_value seen p.code p.value; count = n } in
    let long : n + 1 ≤ length octets = let l = length-append p.value tail in omega (arith, l) in
    let front : length (n ∷ p.value) ≡ n + 1 = omega arith in
    let left : room - 1 - (n + 1) ≡ length (parameters_octets ps) = omega arith in
    ap (λ (os : List ℕ). parameters_in seen at room 0 (p.code ∷ n ∷ os))
    (append_assoc p.value (parameters_octets ps) rest)
    ∙ parameters_in-one seen at room p.code octets ne
    ∙ bind_some (tpdu_parameter_in seen at room p.code octets) (after at room octets) t
    (parameter_again seen at room p tail adds.0 adds.1 adds.2 fits)
    ∙ parameters_in-passed t.seen (at + 1) (room - 1) (n + 1) octets long
    ∙ ap (λ (os : List ℕ). parameters_in t.seen (at + 1 + (n + 1)) (room - 1 - (n + 1)) 0 os)
    (drop_at (n ∷ p.value) tail (n + 1) front)
    ∙ parameters_again t.seen (at + 1 + (n + 1)) (room - 1 - (n + 1)) ps all rest adds.3 left

connect_again : (r : Bool) (size th tl sh sl class : ℕ) (ps : List TpduParameter) (all : Parameters)
    (rest : List ℕ) → size ≡ 11 + length (parameters_octets ps) → class < 16
    → AddUp no_parameters ps all
    → connection_request_in r size (th ∷ tl ∷ sh ∷ sl ∷ class ∷ (parameters_octets ps ++ rest)) ≡ connect_with
    r size (th * 256 + tl) (sh * 256 + sl) (some_read all)
unfolding connection_request_in some_read
connect_again r size th tl sh sl class ps all rest is zero_class adds =
    let long : 11 ≤ size = omega arith in
    let room : size - 11 ≡ length (parameters_octets ps) = omega arith in
    rw (le-ltb size 11 long) (rw (lt-ltb class 16 zero_class)
    (ap (λ (read : Read Parameters). connect_with r size (th * 256 + tl) (sh * 256 + sl) read)
    (parameters_again no_parameters 11 (size - 11) ps all rest adds room)))

request_again : (turn : Turn) (total target source : ℕ) (all : Parameters) (spelling rest : List ℕ)
    → may_come turn kinds.Request ≡ true → SpellsConnect 224 target source all spelling
    → tpkt_in turn total (spelling ++ rest) ≡ tpkt_of (length spelling)
    (request (record { source = source; parameters = all }))
unfolding tpdu_body_in some_read
request_again turn total target source all spelling rest order s =
    let size = s.high * 256 + s.low in
    let is : spelling ≡ headed s.reserved s.high s.low s.count 224
    (s.target_high ∷ s.target_low ∷ s.source_high ∷ s.source_low ∷ s.class
    ∷ parameters_octets s.parameters) = s.is in
    let long : 7 ≤ size = omega (arith, s.size) in
    let same : size ≡ length spelling = let l = ap length is in omega (arith, l, s.size) in
    let counted : eqb (s.count + 5) size ≡ true = eq-eqb (s.count + 5) size s.counted in
    ap (λ (os : List ℕ). tpkt_in turn total (os ++ rest)) is
    ∙ head_again turn total s.reserved s.high s.low s.count 224 kinds.Request
    (s.target_high ∷ s.target_low ∷ s.source_high ∷ s.source_low ∷ s.class
    ∷ (parameters_octets s.parameters ++ rest)) long refl counted order
    ∙ connect_again true size s.target_high s.target_low s.source_high s.source_low s.class
    s.parameters all rest s.size s.class_zero s.adds_up
    ∙ ap (λ (n : ℕ). tpkt_of size (request (record { source = n; parameters = all })))
    (sym s.source_is)
    ∙ ap (λ (n : ℕ). tpkt_of n (request (record { source = source; parameters = all }))) same

confirm_again : (turn : Turn) (total target source : ℕ) (all : Parameters) (spelling rest : List ℕ)
    → may_come turn kinds.Confirm ≡ true → SpellsConnect 208 target source all spelling
    → tpkt_in turn total (spelling ++ rest) ≡ tpkt_of (length spelling)
    (confirm (record { target = target; source = source; parameters = all }))
unfolding tpdu_body_in some_read
confirm_again turn total target source all spelling rest order s =
    let size = s.high * 256 + s.low in
    let is : spelling ≡ headed s.reserved s.high s.low s.count 208
    (s.target_high ∷ s.target_low ∷ s.source_high ∷ s.source_low ∷ s.class
    ∷ parameters_octets s.parameters) = s.is in
    let long : 7 ≤ size = omega (arith, s.size) in
    let same : size ≡ length spelling = let l = ap length is in omega (arith, l, s.size) in
    let counted : eqb (s.count + 5) size ≡ true = eq-eqb (s.count + 5) size s.counted in
    ap (λ (os : List ℕ). tpkt_in turn total (os ++ rest)) is
    ∙ head_again turn total s.reserved s.high s.low s.count 208 kinds.Confirm
    (s.target_high ∷ s.target_low ∷ s.source_high ∷ s.source_low ∷ s.class
    ∷ (parameters_octets s.parameters ++ rest)) long refl counted order
    ∙ connect_again false size s.target_high s.target_low s.source_high s.source_low s.class
    s.parameters all rest s.size s.class_zero s.adds_up
    ∙ ap (λ (n : ℕ). tpkt_of size (confirm (record
    { target = n; source = s.source_high * 256 + s.source_low; parameters = all })))
    (sym s.target_is)
    ∙ ap (λ (n : ℕ). tpkt_of size (confirm (record
    { target = target; source = n; parameters = all }))) (sym s.source_is)
    ∙ ap (λ (n : ℕ). tpkt_of n (confirm (record
    { target = target; source = source; parameters = all }))) same

-- what is spelled and may come is read
pub tpkt_again : (turn : Turn) (total : ℕ) (tpdu : Tpdu) (spelling rest : List ℕ)
    → SpellsTpkt tpdu spelling → Comes turn total tpdu
    → tpkt_in turn total (spelling ++ rest) ≡ tpkt_of (length spelling) tpdu
tpkt_again turn total (request r) spelling rest s comes = request_again turn total s.0 r.source
    r.parameters spelling rest comes.order s.1
tpkt_again turn total (confirm c) spelling rest s comes = confirm_again turn total c.target
    c.source c.parameters spelling rest comes.order s
tpkt_again turn total disconnect spelling rest s comes =
    let size = s.high * 256 + s.low in
    let is : spelling ≡ headed s.reserved s.high s.low s.count 128 s.more = s.is in
    let long : 7 ≤ size = omega (arith, s.size, s.some) in
    let same : size ≡ length spelling = let l = ap length is in omega (arith, l, s.size) in
    ap (λ (os : List ℕ). tpkt_in turn total (os ++ rest)) is
    ∙ head_again turn total s.reserved s.high s.low s.count 128 kinds.Disconnect (s.more ++ rest)
    long refl refl comes.order
    ∙ disconnect_again total size s.more rest s.size
    ∙ ap (λ (n : ℕ). tpkt_of n disconnect) same
tpkt_again turn total (part last held) spelling rest s comes =
    let size = s.high * 256 + s.low in
    let is : spelling ≡ headed s.reserved s.high s.low 2 240 (s.mark ∷ held) = s.is in
    let long : 7 ≤ size = omega (arith, s.size) in
    let same : size ≡ length spelling = let l = ap length is in omega (arith, l, s.size) in
    let some : leb 128 s.mark ≡ true → 0 < total + length held = λ marked. comes.fits.1
    (s.last_is ∙ marked) in
    ap (λ (os : List ℕ). tpkt_in turn total (os ++ rest)) is
    ∙ head_again turn total s.reserved s.high s.low 2 240 kinds.Part (s.mark ∷ (held ++ rest)) long
    refl refl comes.order
    ∙ part_again total size s.mark held rest s.size comes.fits.0 some
    ∙ ap (λ (b : Bool). tpkt_of size (part b held)) (sym s.last_is)
    ∙ ap (λ (n : ℕ). tpkt_of n (part last held)) same
