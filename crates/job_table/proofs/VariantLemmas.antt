-- Clauses on a `Result` that a `?` hands on.
use Rattle.std.proofs.Common.{◌≡◌, Option, None, Some, Result, Ok, Err, IsErrAnd, sym, subst}
use Rattle.std.specs.Prelude.{IfErr, IfNone, OnOk}
use Rattle.run_text.specs.Steps.{IfRefused}
use Rattle.run_text.specs.declared.refusal.Refusal.{Refusal}
use Rattle.run_text.specs.declared.refusal.RunFault.{RunFault}
use Rattle.run_text.specs.declared.refusal.RunFault.TheVariants.{Refused, OutOfMemory}

-- a fault of a run that a `?` hands on
pub handed_on : {T : Type 0} (r : Result T RunFault) (fault : RunFault) (P Q : Refusal → Type 0) → IsErrAnd r (λ f. f ≡ fault) → ((refusal : Refusal) → P refusal → Q refusal) → IfRefused fault P → IfErr r (λ f. IfRefused f Q)
handed_on (Ok x) fault P Q is leads holds = tt
handed_on (Err f) (Refused refusal) P Q is leads holds = subst (λ g. IfRefused g Q) (sym is) (leads refusal holds)
handed_on (Err f) OutOfMemory P Q is leads holds = subst (λ g. IfRefused g Q) (sym is) tt

-- what follows from clauses on a `Result`
pub ok_leads : {T E P Q : Type 0} (r : Result T E) → (P → Q) → OnOk r P → OnOk r Q
ok_leads (Ok x) leads holds = leads holds
ok_leads (Err e) leads holds = tt

pub both_lead : {T E P Q R : Type 0} (r : Result T E) → (P → Q → R) → OnOk r P → OnOk r Q → OnOk r R
both_lead (Ok x) leads first second = leads first second
both_lead (Err e) leads first second = tt

pub err_leads : {T : Type 0} (r : Result T RunFault) (P Q : Refusal → Type 0) → ((refusal : Refusal) → P refusal → Q refusal) → IfErr r (λ fault. IfRefused fault P) → IfErr r (λ fault. IfRefused fault Q)
err_leads (Ok x) P Q leads holds = tt
err_leads (Err (Refused refusal)) P Q leads holds = leads refusal holds
err_leads (Err OutOfMemory) P Q leads holds = tt

-- what is so anyway is so where there is none
pub if_none : {T P : Type 0} (r : Option T) → P → IfNone r P
if_none None holds = holds
if_none (Some x) holds = tt
