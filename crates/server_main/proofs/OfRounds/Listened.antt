-- What a listener tells behind calls of accept.
use Rattle.std.proofs.Common.{◌≡◌, ℕ, ◌+◌, ◌-◌, ◌^◌, ◌<◌, ◌≤◌, Bool, false, List, [], ◌∷◌, ◌++◌}
use Rattle.std.proofs.Common.{refl, sym, ap, ◌∙◌, subst, append_assoc, arith, Option, Some, None}
use Rattle.std.proofs.lemmas.List.{append-nil}
use Rattle.std.specs.Option.{option_map}
use Rattle.std.specs.Prelude.{IfSome}
use Rattle.outside.specs.Faults.{counted, next_count}
use Rattle.outside.specs.Links.Links.{LinkTold, IsNewLink, closed_link}
use Rattle.outside.specs.Links.Listeners.{ListenerTold, AcceptsLink, with_retired}
use Rattle.share_turn.specs.Entries.{Each}
use Rattle.share_turn.proofs.Owned.{each_append}
use Rattle.server_main.specs.Run.Retiring.{with_all_retired}
use Rattle.server_main.specs.Rounds.Rounds.{counted_up, ListenerAfterRounds}
use Rattle.server_main.proofs.OfRounds.Counts.{up_below, up_then}

-- accept was called so often, at least this often, and these links were turned away
pub record ListenerSoFar (before after : ListenerTold) (least : ℕ) (turned : List LinkTold)
    (failed : Bool) : Type 0 where
  pub often : ℕ
  pub enough : least ≤ often
  pub calls : after.calls ≡ option_map (counted_up often) before.calls
  pub closed : Each (λ (link : LinkTold). (new : LinkTold) × IsNewLink new
      × (link ≡ closed_link new)) turned
  pub retired : after.retired ≡ (with_all_retired before turned).retired
  pub faults : after.faults ≡ counted failed before.faults
  pub name : after.name ≡ before.name

-- ---- what is told in options

none_up : (calls : Option ℕ) → calls ≡ option_map (counted_up 0) calls
none_up None = refl
none_up (Some count) = refl

one_up : (calls : Option ℕ) → option_map next_count calls ≡ option_map (counted_up 1) calls
one_up None = refl
one_up (Some count) = refl

both_up : (first then : ℕ) (calls : Option ℕ)
    → option_map (counted_up then) (option_map (counted_up first) calls)
    ≡ option_map (counted_up (first + then)) calls
both_up first then None = refl
both_up first then (Some count) = ap (λ (n : ℕ). Some n) (up_then first then count)

none_more : (retired : Option (List LinkTold))
    → retired ≡ option_map (λ links. links ++ []) retired
none_more None = refl
none_more (Some links) = ap (λ (l : List LinkTold). Some l) (sym (append-nil links))

both_more : (xs ys : List LinkTold) (retired : Option (List LinkTold))
    → option_map (λ links. links ++ ys) (option_map (λ links. links ++ xs) retired)
    ≡ option_map (λ links. links ++ (xs ++ ys)) retired
both_more xs ys None = refl
both_more xs ys (Some links) = ap (λ (l : List LinkTold). Some l) (append_assoc links xs ys)

enough_calls : (often least : ℕ) (calls : Option ℕ) → least ≤ often
    → IfSome calls (λ first. IfSome (option_map (counted_up often) calls)
    (λ last. last < 2 ^ 64 - 1 → first + least ≤ last))
enough_calls often least None enough = tt
enough_calls often least (Some first) enough = λ below.
    let up : first + often ≤ counted_up often first = up_below often first below in
    omega (arith, enough, up)

-- ---- one call

pub listener-same : (listener : ListenerTold) → ListenerSoFar listener listener 0 [] false
listener-same listener = record {
  often = 0;
  enough = omega arith;
  calls = none_up listener.calls;
  closed = tt;
  retired = none_more listener.retired;
  faults = refl;
  name = refl;
}

pub listener-called : (before after : ListenerTold) (given : Option LinkTold) (failed : Bool)
    → AcceptsLink before after given failed → ListenerSoFar before after 1 [] failed
listener-called before after given failed accepts = record {
  often = 1;
  enough = omega arith;
  calls = accepts.calls ∙ one_up before.calls;
  closed = tt;
  retired = accepts.retired ∙ none_more before.retired;
  faults = accepts.faults;
  name = accepts.name;
}

-- the link that was given is turned away
pub listener-turned : (before given after : ListenerTold) (link : LinkTold)
    → AcceptsLink before given (Some link) false → after ≡ with_retired given (closed_link link)
    → ListenerSoFar before after 1 (closed_link link ∷ []) false
listener-turned before given after link accepts same =
    subst (λ (l : ListenerTold). ListenerSoFar before l 1 (closed_link link ∷ []) false) (sym same)
    (record {
      often = 1;
      enough = omega arith;
      calls = accepts.calls ∙ one_up before.calls;
      closed = ((link, accepts.link, refl), tt);
      retired = ap (λ (r : Option (List LinkTold)).
          option_map (λ links. links ++ closed_link link ∷ []) r) accepts.retired;
      faults = accepts.faults;
      name = accepts.name;
    })

-- ---- one after another

-- fewer calls are at least as many
pub listener-fewer : (before after : ListenerTold) (least less : ℕ) (turned : List LinkTold)
    (failed : Bool) → less ≤ least → ListenerSoFar before after least turned failed
    → ListenerSoFar before after less turned failed
listener-fewer before after least less turned failed few so_far =
    let enough : least ≤ so_far.often = so_far.enough in
    record {
      often = so_far.often;
      enough = omega (arith, few, enough);
      calls = so_far.calls;
      closed = so_far.closed;
      retired = so_far.retired;
      faults = so_far.faults;
      name = so_far.name;
    }

pub listener-then : (a b c : ListenerTold) (m n : ℕ) (xs ys : List LinkTold) (failed : Bool)
    → ListenerSoFar a b m xs false → ListenerSoFar b c n ys failed
    → ListenerSoFar a c (m + n) (xs ++ ys) failed
listener-then a b c m n xs ys failed first then =
    let one : m ≤ first.often = first.enough in
    let two : n ≤ then.often = then.enough in
    record {
      often = first.often + then.often;
      enough = omega (arith, one, two);
      calls = then.calls ∙ (ap (option_map (counted_up then.often)) first.calls
          ∙ both_up first.often then.often a.calls);
      closed = each_append _ xs ys first.closed then.closed;
      retired = then.retired ∙ (ap (λ (r : Option (List LinkTold)).
          option_map (λ links. links ++ ys) r) first.retired ∙ both_more xs ys a.retired);
      faults = then.faults ∙ ap (counted failed) first.faults;
      name = then.name ∙ first.name;
    }

pub listener-after : (before after : ListenerTold) (calls : ℕ) (turned : List LinkTold)
    (failed : Bool) → ListenerSoFar before after calls turned failed
    → ListenerAfterRounds before after calls turned failed
listener-after before after calls turned failed so_far = record {
  few = subst (λ (o : Option ℕ). IfSome before.calls (λ first. IfSome o
      (λ last. last < 2 ^ 64 - 1 → first + calls ≤ last))) (sym so_far.calls)
      (enough_calls so_far.often calls before.calls so_far.enough);
  closed = so_far.closed;
  retired = so_far.retired;
  faults = so_far.faults;
  name = so_far.name;
}
