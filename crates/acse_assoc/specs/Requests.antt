-- AARQ (ISO 8650-1, AARQ-apdu): its elements rise, and those that count for nothing are passed
-- over.
use Rattle.std.specs.Prelude.{ℕ, ◌+◌, List, Option, Some, None}
use Rattle.ber_values.specs.Grammars.{Grammar, then_in, map_in}
use Rattle.ber_values.specs.Parts.{Contents, part_in, all_in}
use Rattle.ber_values.specs.Leaves.{oid}
use Rattle.acse_assoc.specs.declared.numbers.TheConstants.{CONTEXT_NAME, CALLING_TITLE}
use Rattle.acse_assoc.specs.declared.numbers.TheConstants.{USER_INFORMATION, LARGEST_NUMBER}
use Rattle.acse_assoc.specs.declared.request.AssociateRequest.{AssociateRequest}
use Rattle.ber_values.specs.declared.external.External.{External}
use Rattle.acse_assoc.specs.declared.expected.Expected.{Expected}
use Rattle.acse_assoc.specs.Rising.{rising_in, named_in, perhaps_in, least_after, attempt}
use Rattle.acse_assoc.specs.Users.{user_information}

-- a name, alone
unfoldable pub one_oid : Contents (List ℕ)
one_oid = all_in (part_in 6 oid)

-- the application context's name
unfoldable pub context_name : Grammar (List ℕ)
context_name = then_in (rising_in CONTEXT_NAME 0) (λ least. named_in CONTEXT_NAME one_oid least)

-- the calling title, if there is one, and the least number that may follow
pub record Titled : Type 0 where
  pub title : Option (List ℕ)
  pub least : ℕ

-- a title in another form counts as none
abbrev pub title_of : Option (Option (List ℕ)) → Option (List ℕ)
title_of None = None
title_of (Some title) = title

abbrev pub titled : ℕ → Option (Option (List ℕ)) → Titled
titled least title =
    record { title = title_of title; least = least_after CALLING_TITLE least title }

unfoldable pub calling_title : Grammar Titled
calling_title = then_in (rising_in CALLING_TITLE (CONTEXT_NAME + 1)) (λ least.
    map_in (titled least) (perhaps_in CALLING_TITLE (attempt one_oid) least))

-- the user information, and the elements after it
unfoldable pub user_last : Expected → ℕ → Grammar External
user_last e from = then_in (rising_in USER_INFORMATION from) (λ least.
    then_in (named_in USER_INFORMATION (user_information e.request_id) least) (λ user.
    map_in (λ last. user) (rising_in LARGEST_NUMBER (USER_INFORMATION + 1))))

abbrev pub aarq_of : List ℕ → Titled → External → AssociateRequest
aarq_of context t user =
    record { context = context; title = t.title; user = user }

unfoldable pub request : Expected → Contents AssociateRequest
request e = all_in
    (then_in context_name (λ context.
    then_in calling_title (λ t.
    map_in (aarq_of context t) (user_last e t.least))))
