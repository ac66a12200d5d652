-- The arrival of a late call.
use Rattle.std.proofs.Common.{◌≡◌, Bool, List, [], ◌++◌, Option, None, Some, refl, sym, subst}
use Rattle.std.specs.Prelude.{IsTrue, unwrap_or}
use Rattle.std.proofs.lemmas.List.{append-nil}
use Rattle.cluster_sched.specs.Held.{IsFirstUnder, IsLookedUp}
use Rattle.cluster_sched.specs.Fates.{Holdings, HoldsRow, Arrives, added}
use Rattle.cluster_sched.proofs.HeldLemmas.{IsFirstUnder-same}
use Rattle.cluster_sched.proofs.LedgerLemmas.{row_eq, Decides-row_eq}
use Rattle.cluster_sched.specs.declared.row.SchedRow.{SchedRow}

-- the row that is held under the name afterwards
first_after : (held : List SchedRow) (row : SchedRow) (found : Option SchedRow) → IsLookedUp held row.name found
    → IsFirstUnder (held ++ added row found) row.name (unwrap_or found row)
first_after held row None none = record { before = held; after = []; parts = refl; named = refl; first = none }
first_after held row (Some first) is = subst (λ (rows : List SchedRow). IsFirstUnder rows row.name first) (sym (append-nil held)) is

-- a row stands where the first row under its name is that row
pub Arrives-told : (old new : Holdings) (row : SchedRow) (found : Option SchedRow) (stands : Bool) → HoldsRow old row found new
    → stands ≡ row_eq (unwrap_or found row) row → Arrives old row stands new
Arrives-told old new row found stands holds is =
    let first : IsFirstUnder new.held row.name (unwrap_or found row) = rw holds.held (first_after old.held row found holds.is_found) in
    let same : (IsTrue stands → unwrap_or found row ≡ row) × (unwrap_or found row ≡ row → IsTrue stands) = rw is (Decides-row_eq (unwrap_or found row) row) in
    record {
      found = found;
      holds = holds;
      told = (
        λ true. subst (IsFirstUnder new.held row.name) (same.0 true) first,
        λ stood. same.1 (IsFirstUnder-same new.held row.name (unwrap_or found row) row first stood),
      );
    }
