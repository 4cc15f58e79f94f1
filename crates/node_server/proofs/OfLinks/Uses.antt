-- Uses of a link, one after another.
use Rattle.std.proofs.Common.{◌≡◌, ℕ, ◌+◌, Bool, false, List, [], ◌∷◌, ◌++◌, length}
use Rattle.std.proofs.Common.{Option, Some, None, IfSome, refl}
use Rattle.std.proofs.Common.{sym, ap, subst, ◌∙◌, append_assoc, arith}
use Rattle.std.proofs.Common.{length-append, length-take, add_assoc, add-zero}
use Rattle.std.specs.Prelude.{option_map}
use Rattle.std.proofs.lemmas.List.{append-nil}
use Rattle.outside.specs.Faults.{counted}
use Rattle.outside.specs.Sink.{octets_taken, is_failed_write}
use Rattle.outside.specs.declared.sink.WriteEnd.{WriteEnd}
use Rattle.outside.specs.declared.sink.WriteEnd.TheVariants.{Took, Failed}
use Rattle.outside.proofs.Writing.{Adds-append}
use Rattle.outside.specs.declared.links.link.Recv.{Recv}
use Rattle.outside.specs.Links.LinkAnswers.{LinkAnswer, LinkAnswers, LinkClose}
use Rattle.outside.specs.Links.LinkAnswers.{received_of, next_answer, with_answer, count_taken}
use Rattle.outside.specs.Links.LinkAnswers.{with_send}
use Rattle.outside.specs.Links.Links.{LinkTold, ReceivesPiece, SendsPiece, is_failed_recv}
use Rattle.outside.specs.Links.Links.{IsSendCount}
use Rattle.node_server.specs.Links.LinkUses.{HasHeard, answered_by, UsesLink}

-- ---- what may be untold

module _ {A B : Type 0} where
  -- where it is told it is this
  mapped_at : (f : A → B) (x : A) (o : Option A) → IfSome o (λ a. a ≡ x)
      → option_map f o ≡ option_map (λ _. f x) o
  mapped_at f x None is = refl
  mapped_at f x (Some a) is = ap (λ (y : A). Some (f y)) is

  told_at : (x : B) (o : Option A) → IfSome (option_map (λ _. x) o) (λ b. b ≡ x)
  told_at x None = tt
  told_at x (Some a) = refl

mapped_on : {A B C : Type 0} (x : B) (y : C) (o : Option A)
    → option_map (λ (b : B). y) (option_map (λ (a : A). x) o) ≡ option_map (λ (a : A). y) o
mapped_on x y None = refl
mapped_on x y (Some a) = refl

answered_on : (first more : ℕ) (o : Option LinkClose)
    → option_map (answered_by more) (option_map (answered_by first) o)
    ≡ option_map (answered_by (first + more)) o
answered_on first more None = refl
answered_on first more (Some close) =
    ap (λ (n : ℕ). Some (record { answered = n; closed = close.closed }))
    (add_assoc close.answered first more)

answered_none : (o : Option LinkClose) → option_map (answered_by 0) o ≡ o
answered_none None = refl
answered_none (Some close) =
    ap (λ (n : ℕ). Some (record { answered = n; closed = close.closed })) (add-zero close.answered)

added_none : (o : Option (List ℕ)) → option_map (λ (told : List ℕ). told ++ []) o ≡ o
added_none None = refl
added_none (Some told) = ap (λ (l : List ℕ). Some l) (append-nil told)

-- ---- uses

-- it was not used yet
pub uses_none : (link : LinkTold) (first : LinkAnswers) → HasHeard link first
    → UsesLink link link first first [] [] false
uses_none link first heard = record {
  heard = heard;
  hearing = unmapped link.hearing heard;
  answers = sym (append-nil first.answers);
  sent = sym (add-zero first.sent);
  took = sym (added_none link.taken);
  faults = refl;
  closing = sym (answered_none link.closing);
  is_closed = refl;
  name = refl;
}
  where
    unmapped : (o : Option LinkAnswers) → IfSome o (λ h. h ≡ first) → o ≡ option_map (λ _. first) o
    unmapped None is = refl
    unmapped (Some h) is = ap (λ (x : LinkAnswers). Some x) is

-- and what it has heard then
pub heard_then : (before after : LinkTold) (first now : LinkAnswers) (given : List LinkAnswer)
    (taken : List ℕ) (has_failed : Bool)
    → UsesLink before after first now given taken has_failed → HasHeard after now
heard_then before after first now given taken has_failed u =
    let P : Option LinkAnswers → Type 0 = λ o. IfSome o (λ h. h ≡ now) in
    subst P (sym u.hearing) (told_at now before.hearing)

-- one use behind another
pub uses_then : (before between after : LinkTold) (first mid now : LinkAnswers)
    (given more : List LinkAnswer) (taken octets : List ℕ) (has_failed : Bool)
    → UsesLink before between first mid given taken false
    → UsesLink between after mid now more octets has_failed
    → UsesLink before after first now (given ++ more) (taken ++ octets) has_failed
uses_then before between after first mid now given more taken octets has_failed u v = record {
  heard = u.heard;
  hearing = v.hearing ∙ ap (option_map (λ (h : LinkAnswers). now)) u.hearing
      ∙ mapped_on mid now before.hearing;
  answers = v.answers ∙ ap (λ (l : List LinkAnswer). l ++ more) u.answers
      ∙ append_assoc first.answers given more;
  sent = omega (arith, u.sent, v.sent, length-append taken octets);
  took = Adds-append before.taken between.taken after.taken taken octets u.took v.took;
  faults = v.faults ∙ ap (counted has_failed) u.faults;
  closing = v.closing ∙ ap (option_map (answered_by (length more))) u.closing
      ∙ answered_on (length given) (length more) before.closing
      ∙ ap (λ (n : ℕ). option_map (answered_by n) before.closing)
      (sym (length-append given more));
  is_closed = v.is_closed ∙ u.is_closed;
  name = v.name ∙ u.name;
}

-- a recv
pub recv_uses : (before after : LinkTold) (first : LinkAnswers) (end : Recv) (buf : List ℕ)
    → HasHeard before first → ReceivesPiece before after end buf
    → UsesLink before after first (with_answer (received_of end buf) first)
    (next_answer (received_of end buf) first ∷ []) [] (is_failed_recv end)
recv_uses before after first end buf heard r = record {
  heard = heard;
  hearing = r.hearing ∙ mapped_at (with_answer (received_of end buf)) first before.hearing heard;
  answers = refl;
  sent = sym (add-zero first.sent);
  took = r.taken ∙ sym (added_none before.taken);
  faults = r.faults;
  closing = r.closing;
  is_closed = r.is_closed;
  name = r.name;
}

-- a send
counted_octets : (end : WriteEnd) (piece : List ℕ) → IsSendCount end (length piece)
    → count_taken end ≡ length (octets_taken end piece)
counted_octets (Took count) piece is = omega (arith, is, length-take count piece)
counted_octets Failed piece is = refl

pub send_uses : (before after : LinkTold) (first : LinkAnswers) (end : WriteEnd) (piece : List ℕ)
    → HasHeard before first → SendsPiece before after end piece
    → UsesLink before after first (with_send end first) [] (octets_taken end piece)
    (is_failed_write end)
send_uses before after first end piece heard s = record {
  heard = heard;
  hearing = s.hearing ∙ mapped_at (with_send end) first before.hearing heard;
  answers = sym (append-nil first.answers);
  sent = ap (λ n. first.sent + n) (counted_octets end piece s.count);
  took = s.taken;
  faults = s.faults;
  closing = s.closing ∙ sym (answered_none before.closing);
  is_closed = s.is_closed;
  name = s.name;
}
