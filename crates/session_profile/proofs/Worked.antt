-- The definitions computed on rows that were worked out by hand.
use Rattle.std.proofs.Common.{◌≡◌, ℕ, List, [], ◌∷◌, Ok, Err, Some, None, refl}
use Rattle.ber_values.specs.declared.fault.Why.{Why}
use Rattle.ber_values.specs.declared.fault.Why.TheVariants as whys
use Rattle.ber_values.specs.Faults.{fault_at}
use Rattle.session_profile.specs.declared.spdu.Spdu.{Spdu}
use Rattle.session_profile.specs.declared.spdu.Spdu.TheVariants.{Connect, Accept, Carry}
use Rattle.session_profile.specs.Lengths.{session_length_in}
use Rattle.session_profile.specs.Parameters.{parameter_in}
use Rattle.session_profile.specs.Rules.{rest_in, all_parameters_in}
use Rattle.session_profile.specs.Connections.{item, connection}
use Rattle.session_profile.specs.Spdus.{spdu_coded_in, whole_spdu_in, spdu_in}

abbrev Reads : List ℕ → Spdu → Type 0
Reads tsdu spdu = spdu_in tsdu ≡ Ok spdu

abbrev Breaks : List ℕ → ℕ → Why → Type 0
Breaks tsdu place why = spdu_in tsdu ≡ Err (fault_at place why)

-- a connect with all that is written, and a body of one octet
connect_read : Reads (13 ∷ 23 ∷ 5 ∷ 6 ∷ 19 ∷ 1 ∷ 0 ∷ 22 ∷ 1 ∷ 2 ∷ 20 ∷ 2 ∷ 0 ∷ 2 ∷ 51 ∷ 2 ∷ 0 ∷ 1 ∷ 52 ∷ 2 ∷ 0 ∷ 1 ∷ 193 ∷ 1 ∷ 49 ∷ []) (Connect (Some (0 ∷ 1 ∷ [])) (record { from = 24; to = 25 }))
unfolding spdu_in whole_spdu_in spdu_coded_in all_parameters_in rest_in connection item parameter_in session_length_in
connect_read = refl

-- the parameters in another order, an empty selector, a long length
order_free : Reads (14 ∷ 255 ∷ 0 ∷ 11 ∷ 193 ∷ 0 ∷ 52 ∷ 0 ∷ 5 ∷ 255 ∷ 0 ∷ 3 ∷ 22 ∷ 1 ∷ 2 ∷ []) (Accept None (record { from = 6; to = 6 }))
unfolding spdu_in whole_spdu_in spdu_coded_in all_parameters_in rest_in connection item parameter_in session_length_in
order_free = refl

extended_refused : Breaks (13 ∷ 2 ∷ 194 ∷ 0 ∷ []) 2 whys.Tag
unfolding spdu_in whole_spdu_in spdu_coded_in all_parameters_in rest_in connection item parameter_in session_length_in
extended_refused = refl

-- a second empty selector
twice_refused : Breaks (13 ∷ 4 ∷ 52 ∷ 0 ∷ 52 ∷ 0 ∷ []) 4 whys.Tag
unfolding spdu_in whole_spdu_in spdu_coded_in all_parameters_in rest_in connection item parameter_in session_length_in
twice_refused = refl

-- the item ends without a version
version_missed : Breaks (13 ∷ 5 ∷ 5 ∷ 3 ∷ 19 ∷ 1 ∷ 0 ∷ []) 7 whys.Short
unfolding spdu_in whole_spdu_in spdu_coded_in all_parameters_in rest_in connection item parameter_in session_length_in
version_missed = refl

carry_read : Reads (1 ∷ 0 ∷ 1 ∷ 0 ∷ 97 ∷ 0 ∷ []) (Carry (record { from = 4; to = 6 }))
unfolding spdu_in
carry_read = refl

carry_wrong : Breaks (1 ∷ 0 ∷ 2 ∷ []) 2 whys.Value
unfolding spdu_in
carry_wrong = refl

octets_follow : Breaks (9 ∷ 1 ∷ 7 ∷ 8 ∷ []) 3 whys.Tag
unfolding spdu_in whole_spdu_in spdu_coded_in parameter_in session_length_in
octets_follow = refl
