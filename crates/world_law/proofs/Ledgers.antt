-- What the ledger of a book does, as a turn does it.
use Rattle.std.proofs.Common.{◌≡◌, ◌≢◌, Bool, Option, Some, None, Result, Ok, Err, ap, refl, inl, inr, subst}
use Rattle.cluster_sched.specs.Calls.{IsCall}
use Rattle.cluster_sched.specs.Fates.{Calls, Creates, Holdings, IsArrival, LooksUp}
use Rattle.cluster_sched.specs.declared.fate.Fate.{Fate}
use Rattle.cluster_sched.specs.declared.fault.CallFault.{CallFault}
use Rattle.cluster_sched.specs.declared.fault.CallFault.TheVariants.{OutOfMemory}
use Rattle.cluster_sched.specs.declared.row.SchedRow.{SchedRow}
use Rattle.cluster_sched.proofs.FateLemmas.{Calls-by_parts}
use Rattle.history.specs.Book.{arriving}
use Rattle.history.specs.Legal.{answered}
use Rattle.history.proofs.Keeping.{arrival_holds, call_answers, call_holds, call_is_late}
use Rattle.world_law.specs.Book.{HasCalled}

pub arrived_held : (found : Option SchedRow) (old new : Holdings) (stands : Bool) → IsArrival found old (Ok stands) new → new.held ≡ arriving found old.held
arrived_held None old new stands is = ap (λ (h : Holdings). h.held) is.1
arrived_held (Some row) old new stands is = arrival_holds old new row stands is

abbrev with_fate : Fate → Holdings → Holdings
with_fate fate ledger = record ledger { fate = fate }

has_called : (old new : Holdings) (fate : Fate) (row : SchedRow) (result : Result SchedRow CallFault) → Calls (with_fate fate old) row result new
    → result ≢ Err OutOfMemory → HasCalled (record { row = row; fate = fate; answer = answered result }) old new
has_called old new becomes row result (inl calls) told = record {
  held = call_holds (with_fate becomes old) new row result (record { row = row; fate = becomes; answer = answered result }) calls refl refl;
  late = call_is_late (with_fate becomes old) new row result (record { row = row; fate = becomes; answer = answered result }) calls refl refl;
  answer = call_answers (with_fate becomes old) new row result calls;
}
has_called old new becomes row result (inr lacks) told = absurd (told lacks.0)

-- a call of a ledger that was given this fate before, and that was not refused for want of memory
pub was_called : (old armed new : Holdings) (fate : Fate) (row : SchedRow) (result told : Result SchedRow CallFault) → armed ≡ with_fate fate old
    → IsCall LooksUp Creates armed row result new → result ≡ told → told ≢ Err OutOfMemory
    → HasCalled (record { row = row; fate = fate; answer = answered told }) old new
was_called old armed new becomes row result told arms calls is other =
    has_called old new becomes row told
    (Calls-by_parts (with_fate becomes old) new row told
    (subst (λ before. IsCall LooksUp Creates before row told new) arms (subst (λ result. IsCall LooksUp Creates armed row result new) is calls))) other
