use Rattle.std.proofs.Common.{◌≡◌, ◌∙◌, Ok, Err, ap, sym, subst}
use Rattle.ber_values.proofs.Reading.{Ok_is, Err_is, not_both}
use Rattle.session_profile.specs.declared.fault.SessionFault.{SessionFault}
use Rattle.session_profile.specs.declared.spdu.Spdu.{Spdu}
use Rattle.session_profile.specs.Seen.{ber_fault_of, session_fault_of}
use Rattle.session_profile.specs.Spdus.{SpduFault}
use Rattle.session_profile.proofs.Spdus.{spdu_reads}
use Rattle.session_profile.proofs.spdu.read_spdu.Goals as goal

pub returns-in-Ok-clause-found : goal.returns-in-Ok-clause-found
returns-in-Ok-clause-found c = (spdu_reads c.args.tsdu.now).found c.in-Ok.spdu (sym (sym c.in-Ok.is ∙ c.in_ok-spdu.ensures.exact))

pub returns-in-Ok-clause-only : goal.returns-in-Ok-clause-only
returns-in-Ok-clause-only c spdu s = ap (λ (x : Spdu). Ok x) (Ok_is c.in-Ok.spdu spdu ((sym c.in-Ok.is ∙ c.in_ok-spdu.ensures.exact) ∙ (spdu_reads c.args.tsdu.now).only spdu s))

pub returns-in-Ok-clause-fault : goal.returns-in-Ok-clause-fault
returns-in-Ok-clause-fault c fault = (λ e. absurd cc, λ s. absurd (not_both c.in-Ok.spdu (ber_fault_of fault) ((sym c.in-Ok.is ∙ c.in_ok-spdu.ensures.exact) ∙ (spdu_reads c.args.tsdu.now).first (ber_fault_of fault) s)))

pub returns-in-Err-clause-only : goal.returns-in-Err-clause-only
returns-in-Err-clause-only c spdu s = absurd (not_both spdu c.in-Err.fault (sym ((sym c.in-Err.is ∙ c.in_ok-spdu.ensures.exact) ∙ (spdu_reads c.args.tsdu.now).only spdu s)))

pub returns-in-Err-clause-fault : goal.returns-in-Err-clause-fault
returns-in-Err-clause-fault c fault = (
  λ e. let same : c.session_fault.result ≡ fault = cc in
      let is : c.in-Err.fault ≡ ber_fault_of fault = ap ber_fault_of (sym c.session_fault.ensures ∙ same) in
      subst (SpduFault c.args.tsdu.now) is ((spdu_reads c.args.tsdu.now).fault c.in-Err.fault (sym (sym c.in-Err.is ∙ c.in_ok-spdu.ensures.exact))),
  λ s. ap (λ (f : SessionFault). Err f) (c.session_fault.ensures ∙ ap session_fault_of (Err_is {X = Spdu} c.in-Err.fault (ber_fault_of fault) ((sym c.in-Err.is ∙ c.in_ok-spdu.ensures.exact) ∙ (spdu_reads c.args.tsdu.now).first (ber_fault_of fault) s))),
)
