-- Clauses on an `Option` or a `Result` whose variant is known.
use Rattle.std.proofs.Common.{◌≡◌, Option, Some, None, IfNone, IfSome, Result, Ok, Err, IsErrAnd, sym, subst}
use Rattle.std.specs.Prelude.{IfErr, OnOk}
use Rattle.run_text.specs.Steps.{IfRefused}
use Rattle.run_text.specs.declared.refusal.Refusal.{Refusal}
use Rattle.run_text.specs.declared.refusal.RunFault.{RunFault}
use Rattle.run_text.specs.declared.refusal.RunFault.TheVariants.{Refused}

-- what a clause says where the variant is known
pub at_some : {T : Type 0} (r : Option T) (P : T → Type 0) (x : T) → r ≡ Some x → IfSome r P → P x
at_some None P x is p = cc
at_some (Some y) P x is p = let same : y ≡ x = cc in subst P same p

pub at_none : {T : Type 0} (r : Option T) {P : Type 0} → r ≡ None → IfNone r P → P
at_none None is p = p
at_none (Some x) is p = cc

-- a fact of the refusal that a `?` hands on as a fault of a run
pub refused_on : {T : Type 0} (r : Result T RunFault) (refusal : Refusal) (P : Refusal → Type 0) → IsErrAnd r (λ fault. fault ≡ Refused refusal) → P refusal → IfErr r (λ fault. IfRefused fault P)
refused_on (Ok x) refusal P is holds = tt
refused_on (Err fault) refusal P is holds = subst (λ f. IfRefused f P) (sym is) holds

-- what a clause comes to where another one holds
pub ok_so : {T E : Type 0} (r : Result T E) {P Q : Type 0} → OnOk r P → (P → Q) → OnOk r Q
ok_so (Ok x) p so = so p
ok_so (Err x) p so = tt

pub err_so : {T E : Type 0} (r : Result T E) (P Q : E → Type 0) → IfErr r P → ((e : E) → P e → Q e) → IfErr r Q
err_so (Ok x) P Q p so = tt
err_so (Err x) P Q p so = so x p
