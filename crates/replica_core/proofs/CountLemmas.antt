-- What becomes of the counts of a launch table as entries are applied.
use Rattle.std.proofs.Common.{◌≡◌, ℕ, zero, suc, ◌+◌, ◌<◌, ◌≤◌, ltb, max, List, [], ◌∷◌, length, set, ◌∙◌, inl, inr, arith, get_or}
use Rattle.std.proofs.lemmas.Bool.{cases_Bool, ltb-false, ltb-true}
use Rattle.std.proofs.lemmas.List.{get_or-set_same, set_past}
use Rattle.std.proofs.lemmas.List.Elements.{All-cons, All-get_or, All-head, All-nil, All-set, All-tail, All-weaker}
use Rattle.std.proofs.lemmas.Option.{slice_get_within}
use Rattle.due_set.specs.Table.{Table}
use Rattle.paxos_base.specs.Rows.{fresh_row}
use Rattle.launch_machine.specs.Clerk.{Applies, adopted_row, closed_row, opened_row}
use Rattle.paxos_base.specs.declared.entry.Entry.{Entry}
use Rattle.paxos_base.specs.declared.entry.Entry.TheVariants.{Noop, Start, End, Table as TableEntry}
use Rattle.paxos_base.specs.declared.entry.Kind.{Kind}
use Rattle.paxos_base.specs.declared.entry.Kind.TheVariants.{Launch, Void}
use Rattle.paxos_base.specs.declared.rows.JobRow.{JobRow}
use Rattle.replica_core.specs.Counts.{count_of, count_raised, highest_count}
use Rattle.launch_machine.specs.Machine.{CountsBelow}

-- each count of the row is below this
abbrev CountBelow : ℕ → JobRow → Type 0
CountBelow limit row = (row.launched < limit) × (row.voided < limit)

one_more : (n : ℕ) (row : JobRow) → CountBelow n row → CountBelow (n + 1) row
one_more n row (launched, voided) = (omega arith, omega arith)

closed_below : (n : ℕ) (at : _) (kind : Kind) (row : JobRow) → CountBelow n row → CountBelow (n + 1) (closed_row at kind row)
closed_below n at Launch row (launched, voided) = (omega arith, omega arith)
closed_below n at Void row (launched, voided) = (omega arith, omega arith)

counts_rise : (n : ℕ) (rows : List JobRow) → CountsBelow n rows → CountsBelow (n + 1) rows
counts_rise n rows counts = All-weaker (CountBelow n) (CountBelow (n + 1)) (one_more n) rows counts

-- an entry raises each count by one at most
pub counts_applied : (table : Table) (old : List JobRow) (entry : Entry) (new : List JobRow) (n : ℕ) → Applies table old entry new → CountsBelow n old → CountsBelow (n + 1) new
counts_applied table old entry new n (inr (not, e)) counts = rw e (counts_rise n old counts)
counts_applied table old Noop new n (inl (takes, e)) counts = absurd takes
counts_applied table old (TableEntry version now) new n (inl (takes, e)) counts =
    let own : ℕ = length table.jobs in
    let row : JobRow = get_or old own (fresh_row own) in
    elim (cases_Bool (ltb own (length old))) [
      | inl here ↦
          let low : CountBelow n row = All-get_or (CountBelow n) old own (fresh_row own) (ltb-true own (length old) here) counts in
          rw e (All-set (CountBelow (n + 1)) old own (adopted_row version now row) (omega (arith, low.0, takes.next), omega (arith, low.1)) (counts_rise n old counts))
      | inr past ↦
          let same = e ∙ set_past old own (adopted_row version now row) (ltb-false own (length old) past) in
          rw same (counts_rise n old counts)
    ]
counts_applied table old (Start job at now) new n (inl (takes, e)) counts =
    let within = slice_get_within old job takes.row takes.is_row in
    let here : CountBelow n (get_or old job (fresh_row job)) = All-get_or (CountBelow n) old job (fresh_row job) within counts in
    rw e (All-set (CountBelow (n + 1)) old job (opened_row at now (get_or old job (fresh_row job))) (one_more n (get_or old job (fresh_row job)) here) (counts_rise n old counts))
counts_applied table old (End job at kind) new n (inl (takes, e)) counts =
    let within = slice_get_within old job takes.row takes.is_row in
    let here : CountBelow n (get_or old job (fresh_row job)) = All-get_or (CountBelow n) old job (fresh_row job) within counts in
    rw e (All-set (CountBelow (n + 1)) old job (closed_row at kind (get_or old job (fresh_row job))) (closed_below n at kind (get_or old job (fresh_row job)) here) (counts_rise n old counts))

-- ---- The highest count

-- counts are below a limit where the highest is
pub highest_below : (limit : ℕ) (rows : List JobRow) → 0 < limit → CountsBelow limit rows → highest_count rows < limit
highest_below limit [] some counts = some
highest_below limit (row ∷ rows) some counts =
    let here = All-head (CountBelow limit) row rows counts in
    let rest = highest_below limit rows some (All-tail (CountBelow limit) row rows counts) in
    omega (arith, here.0, here.1, rest)

pub all_below : (limit : ℕ) (rows : List JobRow) → highest_count rows < limit → CountsBelow limit rows
all_below limit [] below = All-nil (CountBelow limit)
all_below limit (row ∷ rows) below =
    All-cons (CountBelow limit) row rows (omega (arith, below), omega (arith, below)) (all_below limit rows (omega (arith, below)))

-- a row's count is no higher than the highest
reached : (rows : List JobRow) (job : ℕ) (none : JobRow) → count_of none ≡ 0 → count_of (get_or rows job none) ≤ highest_count rows
reached [] job none is = omega (arith, is)
reached (row ∷ rows) zero none is = omega arith
reached (row ∷ rows) (suc job) none is = let rest = reached rows job none is in omega (arith, rest)

-- a row's count has risen
highest-set : (rows : List JobRow) (job : ℕ) (row none : JobRow) → job < length rows → count_of (get_or rows job none) ≤ count_of row
    → highest_count (set rows job row) ≡ max (highest_count rows) (count_of row)
highest-set [] job row none within risen = absurd (omega (arith, within))
highest-set (first ∷ rows) zero row none within risen = omega (arith, risen)
highest-set (first ∷ rows) (suc job) row none within risen =
    let rest = highest-set rows job row none (omega (arith, within)) risen in
    rw rest (omega arith)

closed_more : (at : _) (kind : Kind) (row : JobRow) → count_of row ≤ count_of (closed_row at kind row)
closed_more at Launch row = omega arith
closed_more at Void row = omega arith

-- an entry raises no count but that of the job that it ends, or of the version that it adopts
pub highest-applied : (table : Table) (old : List JobRow) (entry : Entry) (new : List JobRow) → Applies table old entry new
    → highest_count new ≡ max (highest_count old) (count_raised table new entry)
highest-applied table old Noop new (inl (takes, e)) = absurd takes
highest-applied table old Noop new (inr (not, e)) = rw e (omega arith)
highest-applied table old (TableEntry version now) new (inr (not, e)) =
    let own : ℕ = length table.jobs in
    let before = reached old own (fresh_row own) (omega arith) in
    rw e (omega (arith, before))
highest-applied table old (TableEntry version now) new (inl (takes, e)) =
    let own : ℕ = length table.jobs in
    let row : JobRow = get_or old own (fresh_row own) in
    let adopted : JobRow = adopted_row version now row in
    elim (cases_Bool (ltb own (length old))) [
      | inl here ↦
          let within = ltb-true own (length old) here in
          let same : get_or (set old own adopted) own (fresh_row own) ≡ adopted = get_or-set_same old own adopted (fresh_row own) within in
          rw e (rw same (highest-set old own adopted (fresh_row own) within (omega (arith, takes.next))))
      | inr past ↦
          let before = reached old own (fresh_row own) (omega arith) in
          let same = e ∙ set_past old own adopted (ltb-false own (length old) past) in
          rw same (omega (arith, before))
    ]
highest-applied table old (Start job at now) new (inr (not, e)) = rw e (omega arith)
highest-applied table old (Start job at now) new (inl (takes, e)) =
    let within = slice_get_within old job takes.row takes.is_row in
    let row = get_or old job (fresh_row job) in
    let raised = highest-set old job (opened_row at now row) (fresh_row job) within (omega arith) in
    let before = reached old job (fresh_row job) (omega arith) in
    rw e (omega (arith, raised, before))
highest-applied table old (End job at kind) new (inr (not, e)) =
    let before = reached old job (fresh_row job) (omega arith) in
    rw e (omega (arith, before))
highest-applied table old (End job at kind) new (inl (takes, e)) =
    let within = slice_get_within old job takes.row takes.is_row in
    let row = get_or old job (fresh_row job) in
    let closed = closed_row at kind row in
    let same : get_or (set old job closed) job (fresh_row job) ≡ closed = get_or-set_same old job closed (fresh_row job) within in
    rw e (rw same (highest-set old job closed (fresh_row job) within (closed_more at kind row)))
