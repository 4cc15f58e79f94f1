-- A TPKT is read only where it is spelled.
use Rattle.std.proofs.Common.{◌≡◌, ℕ, ◌+◌, ◌-◌, ◌*◌, ◌<◌, ◌≤◌, Bool, true, false, ◌&&◌, cond, eqb}
use Rattle.std.proofs.Common.{ltb, leb, List, [], ◌∷◌, ◌++◌, length, take, drop, Some, None, Ok}
use Rattle.std.proofs.Common.{Err, refl, sym, ap, subst, arith}
use Rattle.std.proofs.lemmas.Bool.{cond_both, eqb-false, ltb-false}
use Rattle.std.proofs.lemmas.List.{take-append-drop, length-take-le}
use Rattle.ber_values.specs.declared.fault.Why.TheVariants as whys
use Rattle.tpkt_cotp.specs.declared.limits.TheConstants.{TSDU_LIMIT}
use Rattle.tpkt_cotp.specs.declared.turn.Turn.{Turn}
use Rattle.tpkt_cotp.specs.declared.turn.Kind.TheVariants as kinds
use Rattle.tpkt_cotp.specs.Turns.{may_come}
use Rattle.tpkt_cotp.specs.Tpdus.{disconnect, part, Tpkt, SpellsTpkt}
use Rattle.tpkt_cotp.specs.Readings.{Read, broken, tpkt_of, marked_in, data_part_in, disconnect_in}
use Rattle.tpkt_cotp.specs.Streams.{Comes}

-- the octets begin with a TPKT that may come
pub record Begins (turn : Turn) (total : ℕ) (octets : List ℕ) (p : Tpkt) : Type 0 where
  pub spelling : List ℕ
  pub rest : List ℕ
  pub is : octets ≡ spelling ++ rest
  pub size : p.size ≡ length spelling
  pub spelled : SpellsTpkt p.tpdu spelling
  pub comes : Comes turn total p.tpdu

abbrev pub Right : {X : Type 0} → (X → Type 0) → Read X → Type 0
Right P (Ok (Some x)) = P x
Right P (Ok None) = Unit {0}
Right P (Err f) = Unit {0}

-- the octets of a head
abbrev pub headed : ℕ → ℕ → ℕ → ℕ → ℕ → List ℕ → List ℕ
headed reserved high low count code octets = 3 ∷ reserved ∷ high ∷ low ∷ count ∷ code ∷ octets

over_none : (sum : ℕ) (marked : Bool) → (marked && eqb sum 0) ≡ false → marked ≡ true → 0 < sum
over_none sum marked e is =
    let none : eqb sum 0 ≡ false = subst (λ (b : Bool). (b && eqb sum 0) ≡ false) is e in
    let some : sum ≡ 0 → ⊥ = eqb-false sum 0 none in
    omega (arith, some)

marked_right : (turn : Turn) (total reserved high low mark : ℕ) (octets : List ℕ)
    → may_come turn kinds.Part ≡ true → 7 ≤ high * 256 + low
    → total + (high * 256 + low - 7) ≤ TSDU_LIMIT
    → (leb 128 mark && eqb (total + (high * 256 + low - 7)) 0) ≡ false
    → ltb (length octets) (high * 256 + low - 7) ≡ false
    → Begins turn total (headed reserved high low 2 240 (mark ∷ octets))
    (record {
      size = high * 256 + low;
      tpdu = part (leb 128 mark)
          (take (high * 256 + low - 7) octets);
    })
marked_right turn total reserved high low mark octets order long within some enough =
    let n = high * 256 + low - 7 in
    let le : n ≤ length octets = ltb-false (length octets) n enough in
    let len : length (take n octets) ≡ n = length-take-le n octets le in
    record {
      spelling = headed reserved high low 2 240 (mark ∷ take n octets);
      rest = drop n octets;
      is = ap (λ (os : List ℕ). headed reserved high low 2 240 (mark ∷ os))
          (sym (take-append-drop n octets));
      size = omega (arith, len);
      spelled = record {
        reserved = reserved;
        high = high;
        low = low;
        mark = mark;
        is = refl;
        size = omega (arith, len);
        last_is = refl;
      };
      comes = record {
        order = order;
        fits = (
          omega (arith, len),
          λ is. let more : 0 < total + n = over_none (total + n) (leb 128 mark) some is in omega
              (arith, len, more),
        );
      };
    }

pub part_right : (turn : Turn) (total reserved high low : ℕ) (octets : List ℕ)
    → may_come turn kinds.Part ≡ true → 7 ≤ high * 256 + low
    → Right (Begins turn total (headed reserved high low 2 240 octets))
    (data_part_in total (high * 256 + low) octets)
unfolding data_part_in marked_in
part_right turn total reserved high low [] order long =
    let n = high * 256 + low - 7 in
    cond_both (ltb TSDU_LIMIT (total + n)) (broken 2 whys.Long) (Ok None)
    (Right (Begins turn total (headed reserved high low 2 240 []))) (λ e. tt) (λ e. tt)
part_right turn total reserved high low (mark ∷ octets) order long =
    let size = high * 256 + low in
    let n = size - 7 in
    let P : Read Tpkt → Type 0 = Right (Begins turn total
    (headed reserved high low 2 240 (mark ∷ octets))) in
    let whole : Read Tpkt = tpkt_of size (part (leb 128 mark) (take n octets)) in
    let marked : Read Tpkt = cond (leb 128 mark && eqb (total + n) 0) (broken size whys.Short)
    (cond (ltb (length octets) n) (Ok None) whole) in
    cond_both (ltb TSDU_LIMIT (total + n)) (broken 2 whys.Long) marked P (λ e. tt)
    (λ within. cond_both (leb 128 mark && eqb (total + n) 0) (broken size whys.Short)
    (cond (ltb (length octets) n) (Ok None) whole) P (λ e. tt)
    (λ some. cond_both (ltb (length octets) n) (Ok None) whole P (λ e. tt)
    (λ enough. marked_right turn total reserved high low mark octets order long
    (ltb-false TSDU_LIMIT (total + n) within) some enough)))

pub disconnect_right : (turn : Turn) (total reserved high low count : ℕ) (octets : List ℕ)
    → may_come turn kinds.Disconnect ≡ true → 7 ≤ high * 256 + low
    → Right (Begins turn total (headed reserved high low count 128 octets))
    (disconnect_in (high * 256 + low) octets)
unfolding disconnect_in
disconnect_right turn total reserved high low count octets order long =
    let size = high * 256 + low in
    let n = size - 6 in
    cond_both (ltb (length octets + 6) size) (Ok None) (tpkt_of size disconnect)
    (Right (Begins turn total (headed reserved high low count 128 octets))) (λ e. tt)
    (λ enough.
    let le : n ≤ length octets = omega (arith, ltb-false (length octets + 6) size enough) in
    let len : length (take n octets) ≡ n = length-take-le n octets le in
    record {
      spelling = headed reserved high low count 128 (take n octets);
      rest = drop n octets;
      is = ap (λ (os : List ℕ). headed reserved high low count 128 os)
          (sym (take-append-drop n octets));
      size = omega (arith, len);
      spelled = record {
        reserved = reserved;
        high = high;
        low = low;
        count = count;
        more = take n octets;
        is = refl;
        size = omega (arith, len);
        some = omega (arith, len);
      };
      comes = record { order = order; fits = tt };
    })
