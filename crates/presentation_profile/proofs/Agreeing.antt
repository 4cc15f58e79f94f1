-- The only offer of an abstract syntax, among the offers so far.
use Rattle.std.proofs.Common.{◌≡◌, ℕ, ◌+◌, ◌≤◌, ◌<◌, true, cond, List, [], ◌∷◌, ◌++◌, length, take, drop, get_or, Option, Some, None, Ok, is_some, ap, ◌∙◌, arith}
use Rattle.std.proofs.lemmas.List.{length-append, take-append-drop}
use Rattle.std.proofs.lemmas.Bool.{false≢true, ne_eqb}
use Rattle.std.proofs.lemmas.List.Elements.{filter-append, filter_more}
use Rattle.presentation_profile.specs.declared.offers.Offered.{Offered}
use Rattle.presentation_profile.specs.declared.agreement.Agreed.{Agreed}
use Rattle.presentation_profile.specs.Agreements.{is_of, offers_of, IsOnly, Agrees, acse_of, mms_of}

one_more : (name : List ℕ) (xs : List Offered) (i : ℕ) (d : Offered) → i < length xs → is_of name (get_or xs i d) ≡ true → offers_of name (take (i + 1) xs) ≡ offers_of name (take i xs) ++ get_or xs i d ∷ []
one_more name xs i d lt e = filter_more (is_of name) xs i d lt ∙ ap (λ b. offers_of name (take i xs) ++ cond b (get_or xs i d ∷ []) []) e

front_fewer : (name : List ℕ) (xs : List Offered) (n : ℕ) → length (offers_of name (take n xs)) ≤ length (offers_of name xs)
front_fewer name xs n = omega (arith, ap (λ os. length (offers_of name os)) (take-append-drop n xs), ap length (filter-append (is_of name) (take n xs) (drop n xs)), length-append (offers_of name (take n xs)) (offers_of name (drop n xs)))

pub only-second : (name : List ℕ) (xs : List Offered) (i : ℕ) (d : Offered) (id : ℕ) → i < length xs → is_of name (get_or xs i d) ≡ true → IsOnly (offers_of name (take i xs)) (Ok (Some id)) → 2 ≤ length (offers_of name xs)
only-second name xs i d id lt e is = omega (arith, front_fewer name xs (i + 1), ap length (one_more name xs i d lt e), length-append (offers_of name (take i xs)) (get_or xs i d ∷ []), ap length is.1)

pub only-twice : (name : List ℕ) (xs : List Offered) (i : ℕ) (d : Offered) (only : Option ℕ) → i < length xs → is_of name (get_or xs i d) ≡ true → is_some only ≡ true → IsOnly (offers_of name (take i xs)) (Ok only) → 2 ≤ length (offers_of name xs)
only-twice name xs i d None lt e some is = absurd (false≢true some)
only-twice name xs i d (Some id) lt e some is = only-second name xs i d id lt e is

-- the id that is agreed on is the one that user data have
pub acse_agreed : (contexts : List Offered) (agreed : Agreed) → Agrees contexts agreed → Some agreed.acse ≡ acse_of contexts
acse_agreed contexts agreed a = rw (a.one_acse, a.one_mms, ne_eqb a.acse.id a.mms.id a.differ) (ap (λ (x : Agreed). Some x.acse) a.ids)

pub mms_agreed : (contexts : List Offered) (agreed : Agreed) → Agrees contexts agreed → Some agreed.mms ≡ mms_of contexts
mms_agreed contexts agreed a = rw (a.one_acse, a.one_mms, ne_eqb a.acse.id a.mms.id a.differ) (ap (λ (x : Agreed). Some x.mms) a.ids)
