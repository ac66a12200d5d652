-- A call by a name, of any scheduler. Source: "Reliable Cron across the Planet".
use Rattle.std.specs.Prelude.{◌≡◌, Option, None, Some, Result, Ok, Err}
use Rattle.cluster_sched.specs.declared.fault.CallFault.{CallFault}
use Rattle.cluster_sched.specs.declared.row.Name.{Name}
use Rattle.cluster_sched.specs.declared.row.SchedRow.{SchedRow}

module _ {S : Type 0} (looks : S → Name → Result (Option SchedRow) CallFault → S → Type 0)
    (creates : S → SchedRow → Result SchedRow CallFault → S → Type 0) where
  -- what follows a look: where it finds nothing, the row is created, and else it answers the call
  abbrev pub AfterLook : Result (Option SchedRow) CallFault → S → SchedRow → Result SchedRow CallFault → S → Type 0
  AfterLook (Ok None) old row result new = creates old row result new
  AfterLook (Ok (Some first)) old row result new = (result ≡ Ok first) × (new ≡ old)
  AfterLook (Err fault) old row result new = (result ≡ Err fault) × (new ≡ old)

  -- a call by a name is a look and what follows it
  pub record IsCall (old : S) (row : SchedRow) (result : Result SchedRow CallFault) (new : S) : Type 0 where
    pub found : Result (Option SchedRow) CallFault
    pub between : S
    pub looked : looks old row.name found between
    pub after : AfterLook found between row result new
