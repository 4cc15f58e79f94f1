-- The elements of an AARQ, as a control centre sends it.
use Rattle.std.proofs.Common.{◌≢◌, ℕ, ◌<◌, ◌%◌, false, List, [], ◌∷◌, length, Some, refl, inl, inr}
use Rattle.std.proofs.Common.{arith}
use Rattle.ber_values.specs.Tags.{tag_with, length_in}
use Rattle.ber_values.specs.Numbers.{unsigned_in}
use Rattle.ber_values.specs.TextContents.{oid_in}
use Rattle.ber_values.specs.Grammars.{gives, then_in, map_in, branch_in, refused}
use Rattle.ber_values.specs.Parts.{sized_part_in, parted_in, part_in, choose_in, maybe_in}
use Rattle.ber_values.specs.Parts.{contents_where, all_in}
use Rattle.ber_values.specs.Leaves.{unsigned, oid, span}
use Rattle.ber_values.specs.Externals.{external_of, external}
use Rattle.ber_values.specs.Runs.{AnyElement, IsSoundElement, elements_octets}
use Rattle.ber_values.specs.declared.head.Head.{Head}
use Rattle.acse_assoc.specs.Users.{user_information}
use Rattle.acse_assoc.specs.Requests.{one_oid}
use Rattle.acse_assoc.specs.Sequences.{IsAarq}
use Rattle.acse_assoc.proofs.ApdusRead.{one_oid_contents, user_contents}
use Rattle.acse_assoc.proofs.Sequences.{rises-sequence}
use Rattle.acse_assoc.proofs.Worked.{any}
use Rattle.ber_values.specs.Heads.{extent_of, extent_within}
use Rattle.ber_values.specs.Extents.{definite}

-- an element with a tag and a length of one octet
abbrev short : ℕ → List ℕ → AnyElement
short tag contents = record {
  tag = tag_with tag (tag % 32) false;
  tagged = tag ∷ [];
  sized = length contents ∷ [];
  contents = contents;
  closing = [];
}

short_sound : (tag : ℕ) (contents : List ℕ) → tag % 32 ≢ 31 → length contents < 128
    → IsSoundElement (short tag contents)
short_sound tag contents single few = record {
  tag = (single, refl);
  behind = inl (inl (few, refl, refl), refl);
}

abbrev head_at : ℕ → Head
head_at at = record {
  class = 0;
  constructed = false;
  number = 0;
  long_form = false;
  length_at = 0;
  body = at;
  end = 0;
  next = 0;
}

-- a context, a title, an element that counts for nothing, and four octets of user data
abbrev asked : List AnyElement
asked = short 161 (6 ∷ 5 ∷ 40 ∷ 202 ∷ 34 ∷ 2 ∷ 3 ∷ []) ∷ short 166 (6 ∷ 4 ∷ 41 ∷ 135 ∷ 103 ∷ 1 ∷ [])
    ∷ short 167 (2 ∷ 1 ∷ 12 ∷ [])
    ∷ short 190 (40 ∷ 13 ∷ 6 ∷ 2 ∷ 81 ∷ 1 ∷ 2 ∷ 1 ∷ 3 ∷ 160 ∷ 4 ∷ 168 ∷ 2 ∷ 128 ∷ 0 ∷ []) ∷ []

asked_is : IsAarq any 102 (elements_octets asked) asked (record {
  context = 40 ∷ 202 ∷ 34 ∷ 2 ∷ 3 ∷ [];
  title = Some (41 ∷ 135 ∷ 103 ∷ 1 ∷ []);
  user = external_of 3 (record { from = 137; to = 141 });
})
unfolding one_oid user_information external all_in part_in parted_in sized_part_in length_in
    unsigned_in oid_in gives then_in map_in branch_in refused choose_in maybe_in contents_where
    unsigned oid span extent_of extent_within definite
asked_is = record {
  sequence = rises-sequence (elements_octets asked) asked refl (
    short_sound 161 _ (omega arith) (omega arith),
    refl,
    omega arith,
    (
      short_sound 166 _ (omega arith) (omega arith),
      refl,
      omega arith,
      (
        short_sound 167 _ (omega arith) (omega arith),
        refl,
        omega arith,
        (short_sound 190 _ (omega arith) (omega arith), refl, omega arith, tt),
      ),
    ),
  );
  context = inl (refl, (one_oid_contents (head_at 104) _).found _ refl);
  title = inr (inl (refl, (one_oid_contents (head_at 113) _).found _ refl));
  user = inr (inr (inr (inl (refl, (user_contents any.request_id (head_at 126) _).found _ refl))));
}
