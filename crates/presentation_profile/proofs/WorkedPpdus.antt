-- PPDUs as two control centres send them, computed.
use Rattle.std.proofs.Common.{◌≡◌, List, ℕ, [], ◌∷◌, true, false, Some, Ok, Err, refl, inl}
use Rattle.ber_values.specs.declared.fault.Why.TheVariants as whys
use Rattle.ber_values.specs.Faults.{fault_at}
use Rattle.ber_values.specs.Tags.{tag_in, length_in}
use Rattle.ber_values.specs.Numbers.{unsigned_in}
use Rattle.ber_values.specs.TextContents.{oid_in}
use Rattle.ber_values.specs.Heads.{head_in}
use Rattle.ber_values.specs.Grammars.{taken, gives, then_in, map_in, branch_in, refused, by_length}
use Rattle.ber_values.specs.Passing.{skip, pass_in}
use Rattle.ber_values.specs.Parts.{whole_in, sized_part_in, parted_in, part_in, choose_in, maybe_in, contents_as, contents_where, all_in}
use Rattle.ber_values.specs.Lists.{more_in, list_in, count_in}
use Rattle.ber_values.specs.Leaves as leaves
use Rattle.presentation_profile.specs.declared.expected.Expected.TheVariants as expects
use Rattle.presentation_profile.specs.declared.ppdu.Ppdu.TheVariants.{Connect, Accept, Carry}
use Rattle.presentation_profile.specs.Offers.{transfers, offered, offer_contents, offer, offers}
use Rattle.presentation_profile.specs.Others.{others, after_others, before_others, selector_element}
use Rattle.ber_values.specs.Externals.{external}
use Rattle.presentation_profile.specs.UserData.{user_data}
use Rattle.presentation_profile.specs.Results.{result_contents, one_result, begin_then_in, accepting_results, results}
use Rattle.presentation_profile.specs.Ppdus.{connect_selectors, connect, accept, parameters, mode, set_up_contents, set_up, ppdu}
use Rattle.ber_values.specs.Heads.{head_by, element_by, extent_of, extent_within}
use Rattle.ber_values.specs.Extents.{definite}
use Rattle.ber_values.specs.Grammars.{passed_within, passed_in}
use Rattle.ber_values.specs.Tags.{tag_with}
use Rattle.ber_values.specs.Runs.{AnyElement, IsSoundElement, HasPassingTag}
use Rattle.presentation_profile.specs.Ppdus.{is_between, HasResultsFirst}
use Rattle.presentation_profile.proofs.PpdusRead.{results-decided}
use Rattle.std.proofs.Common.{arith}
use Rattle.std.proofs.lemmas.Bool.{false≢true}
use Rattle.std.proofs.lemmas.List.Elements.{All-nil, All-cons}

-- a connect, after the 24 octets of its session, whose body has 77 octets
connect_octets : List ℕ
connect_octets =
    49 ∷ 129 ∷ 143 ∷ 160 ∷ 3 ∷ 128 ∷ 1 ∷ 1 ∷ 162 ∷ 129 ∷ 135 ∷ 129 ∷ 4 ∷ 0 ∷ 0 ∷ 0 ∷ 1 ∷ 130 ∷
    4 ∷ 0 ∷ 0 ∷ 0 ∷ 1 ∷ 164 ∷ 35 ∷ 48 ∷ 15 ∷ 2 ∷ 1 ∷ 1 ∷ 6 ∷ 4 ∷ 82 ∷ 1 ∷ 0 ∷ 1 ∷ 48 ∷ 4 ∷ 6 ∷
    2 ∷ 81 ∷ 1 ∷ 48 ∷ 16 ∷ 2 ∷ 1 ∷ 3 ∷ 6 ∷ 5 ∷ 40 ∷ 202 ∷ 34 ∷ 2 ∷ 1 ∷ 48 ∷ 4 ∷ 6 ∷ 2 ∷ 81 ∷ 1
    ∷ 97 ∷ 84 ∷ 48 ∷ 82 ∷ 2 ∷ 1 ∷ 1 ∷ 160 ∷ 77 ∷ 96 ∷ 75 ∷ 161 ∷ 7 ∷ 6 ∷ 5 ∷ 40 ∷ 202 ∷ 34 ∷ 2
    ∷ 3 ∷ 166 ∷ 6 ∷ 6 ∷ 4 ∷ 41 ∷ 135 ∷ 103 ∷ 1 ∷ 167 ∷ 3 ∷ 2 ∷ 1 ∷ 12 ∷ 190 ∷ 51 ∷ 40 ∷ 49 ∷ 6
    ∷ 2 ∷ 81 ∷ 1 ∷ 2 ∷ 1 ∷ 3 ∷ 160 ∷ 40 ∷ 168 ∷ 38 ∷ 128 ∷ 3 ∷ 0 ∷ 253 ∷ 232 ∷ 129 ∷ 1 ∷ 5 ∷
    130 ∷ 1 ∷ 5 ∷ 131 ∷ 1 ∷ 5 ∷ 164 ∷ 22 ∷ 128 ∷ 1 ∷ 1 ∷ 129 ∷ 3 ∷ 5 ∷ 241 ∷ 0 ∷ 130 ∷ 12 ∷ 3 ∷
    238 ∷ 28 ∷ 0 ∷ 0 ∷ 4 ∷ 8 ∷ 0 ∷ 0 ∷ 121 ∷ 239 ∷ 24 ∷ []

connect_read : (ppdu expects.Connect).reading 24 connect_octets ≡ Ok (taken
    (Connect (Some (0 ∷ 0 ∷ 0 ∷ 1 ∷ [])) (offered 1 (82 ∷ 1 ∷ 0 ∷ 1 ∷ []) true ∷ offered 3 (40 ∷ 202 ∷ 34 ∷ 2 ∷ 1 ∷ []) true ∷ []) 1 (record { from = 93; to = 170 }))
    170 [])
unfolding connect_octets ppdu whole_in set_up set_up_contents mode parameters connect
    connect_selectors after_others before_others others selector_element user_data external offers offer
    offer_contents transfers part_in parted_in sized_part_in length_in tag_in head_in gives then_in
    map_in branch_in refused skip by_length pass_in choose_in maybe_in contents_as contents_where
    all_in more_in list_in count_in leaves.unsigned_within leaves.unsigned leaves.oid leaves.span
    leaves.selector leaves.selector_in leaves.fixed unsigned_in oid_in extent_of extent_within
    definite head_by element_by passed_within passed_in
connect_read = refl

-- the accept that answers it, whose body has 72 octets
accept_octets : List ℕ
accept_octets =
    49 ∷ 114 ∷ 160 ∷ 3 ∷ 128 ∷ 1 ∷ 1 ∷ 162 ∷ 107 ∷ 131 ∷ 4 ∷ 0 ∷ 0 ∷ 0 ∷ 1 ∷ 165 ∷ 18 ∷ 48 ∷ 7
    ∷ 128 ∷ 1 ∷ 0 ∷ 129 ∷ 2 ∷ 81 ∷ 1 ∷ 48 ∷ 7 ∷ 128 ∷ 1 ∷ 0 ∷ 129 ∷ 2 ∷ 81 ∷ 1 ∷ 97 ∷ 79 ∷ 48 ∷
    77 ∷ 2 ∷ 1 ∷ 1 ∷ 160 ∷ 72 ∷ 97 ∷ 70 ∷ 161 ∷ 7 ∷ 6 ∷ 5 ∷ 40 ∷ 202 ∷ 34 ∷ 2 ∷ 3 ∷ 162 ∷ 3 ∷ 2
    ∷ 1 ∷ 0 ∷ 163 ∷ 5 ∷ 161 ∷ 3 ∷ 2 ∷ 1 ∷ 0 ∷ 190 ∷ 47 ∷ 40 ∷ 45 ∷ 2 ∷ 1 ∷ 3 ∷ 160 ∷ 40 ∷ 169 ∷
    38 ∷ 128 ∷ 3 ∷ 0 ∷ 253 ∷ 232 ∷ 129 ∷ 1 ∷ 5 ∷ 130 ∷ 1 ∷ 5 ∷ 131 ∷ 1 ∷ 5 ∷ 164 ∷ 22 ∷ 128 ∷ 1
    ∷ 1 ∷ 129 ∷ 3 ∷ 5 ∷ 225 ∷ 0 ∷ 130 ∷ 12 ∷ 3 ∷ 110 ∷ 28 ∷ 0 ∷ 0 ∷ 0 ∷ 0 ∷ 0 ∷ 0 ∷ 0 ∷ 1 ∷ 16
    ∷ []

accept_read : (ppdu (expects.Accept (Some 1))).reading 24 accept_octets ≡ Ok (taken
    (Accept (Some (0 ∷ 0 ∷ 0 ∷ 1 ∷ [])) (0 ∷ 0 ∷ []) 1 (record { from = 68; to = 140 })) 140 [])
unfolding accept_octets ppdu whole_in set_up set_up_contents mode parameters accept results
    accepting_results begin_then_in one_result result_contents after_others before_others others
    selector_element user_data external part_in parted_in sized_part_in length_in tag_in head_in gives
    then_in map_in branch_in refused skip by_length pass_in choose_in maybe_in contents_as
    contents_where all_in more_in list_in count_in leaves.unsigned leaves.oid leaves.octet
    leaves.octet_in leaves.span leaves.selector leaves.selector_in leaves.fixed unsigned_in oid_in
    extent_of extent_within definite head_by element_by passed_within passed_in
accept_read = refl

-- the results of an accept, where they are judged: 0 0, then 0 1, 0 alone, none, and 0 0 1
results_read : ((results true).reading 9 (165 ∷ 10 ∷ 48 ∷ 3 ∷ 128 ∷ 1 ∷ 0 ∷ 48 ∷ 3 ∷ 128 ∷ 1 ∷ 0 ∷ []) ≡ Ok (taken (0 ∷ 0 ∷ []) 21 []))
    × ((results true).reading 9 (165 ∷ 10 ∷ 48 ∷ 3 ∷ 128 ∷ 1 ∷ 0 ∷ 48 ∷ 3 ∷ 128 ∷ 1 ∷ 1 ∷ []) ≡ Err (fault_at 20 whys.Value))
    × ((results true).reading 9 (165 ∷ 5 ∷ 48 ∷ 3 ∷ 128 ∷ 1 ∷ 0 ∷ []) ≡ Err (fault_at 16 whys.Short))
    × ((results true).reading 9 (165 ∷ 0 ∷ []) ≡ Err (fault_at 11 whys.Short))
    × ((results true).reading 9 (165 ∷ 15 ∷ 48 ∷ 3 ∷ 128 ∷ 1 ∷ 0 ∷ 48 ∷ 3 ∷ 128 ∷ 1 ∷ 0 ∷ 48 ∷ 3 ∷ 128 ∷ 1 ∷ 1 ∷ []) ≡ Ok (taken (0 ∷ 0 ∷ 1 ∷ []) 26 []))
    × ((results false).reading 9 (165 ∷ 10 ∷ 48 ∷ 3 ∷ 128 ∷ 1 ∷ 0 ∷ 48 ∷ 3 ∷ 128 ∷ 1 ∷ 1 ∷ []) ≡ Ok (taken (0 ∷ 1 ∷ []) 21 []))
unfolding results accepting_results begin_then_in one_result result_contents part_in parted_in
    sized_part_in length_in tag_in head_in gives then_in map_in branch_in refused skip by_length
    pass_in choose_in maybe_in contents_as contents_where all_in more_in list_in count_in leaves.oid
    leaves.octet leaves.octet_in oid_in extent_of extent_within definite head_by element_by
    passed_within passed_in
results_read = (refl, refl, refl, refl, refl, refl)

-- data of context 3, with a body of three octets
carry_read : (ppdu (expects.Carry 3)).reading 4 (97 ∷ 10 ∷ 48 ∷ 8 ∷ 2 ∷ 1 ∷ 3 ∷ 160 ∷ 3 ∷ 1 ∷ 2 ∷ 3 ∷ []) ≡ Ok (taken (Carry 3 (record { from = 13; to = 16 })) 16 [])
unfolding ppdu whole_in user_data external part_in parted_in sized_part_in length_in gives then_in
    map_in branch_in refused choose_in maybe_in all_in contents_where leaves.unsigned leaves.oid
    leaves.span unsigned_in oid_in extent_of extent_within definite
carry_read = refl

-- results behind a selector come first
results_first : HasResultsFirst (131 ∷ 1 ∷ 5 ∷ 165 ∷ 0 ∷ [])
results_first =
    let selector : AnyElement =
    record {
      tag = tag_with 131 3 false;
      tagged = 131 ∷ [];
      sized = 1 ∷ [];
      contents = 5 ∷ [];
      closing = [];
    } in
    let sound : IsSoundElement selector =
    record { tag = (omega arith, refl); behind = inl (inl (omega arith, refl, refl), refl) } in (
      selector ∷ [],
      0 ∷ [],
      record {
        sound = All-cons IsSoundElement selector [] sound (All-nil IsSoundElement);
        parts = refl;
        passed = All-cons (HasPassingTag is_between) selector [] refl
            (All-nil (HasPassingTag is_between));
      },
    )

-- but not behind offers, nor behind an element whose length is broken
offers_first : (HasResultsFirst (129 ∷ 0 ∷ 164 ∷ 0 ∷ 165 ∷ 0 ∷ []) → ⊥)
    × (HasResultsFirst (129 ∷ 9 ∷ 165 ∷ 0 ∷ []) → ⊥)
unfolding others pass_in by_length branch_in then_in gives skip head_in tag_in length_in extent_of
    extent_within definite head_by element_by passed_within passed_in
offers_first = (
  λ h. false≢true ((results-decided _).1 h),
  λ h. false≢true ((results-decided _).1 h),
)
