-- The launch table of each replica is that of chosen entries.
use Rattle.std.proofs.Common.{◌≡◌, ℕ, ◌+◌, ◌≤◌, Option, List, [], ◌∷◌, ◌++◌, length, inl, inr, arith, subst, length-append, suc}
use Rattle.std.specs.List.{Contains}
use Rattle.std.proofs.lemmas.List.Elements.{Contains-push, Contains-append_left, Contains-append_right}
use Rattle.paxos_base.specs.Durable.{after_delta}
use Rattle.paxos_base.specs.declared.entry.Entry.{Entry}
use Rattle.paxos_base.specs.declared.entry.Kind.{Kind}
use Rattle.due_set.specs.Table.{Table}
use Rattle.step_spec.specs.Act.{Act, Observe, Stand, Gather, TakeLead, Pledge, Cast, Propose, Count, Wait, Learn, Rebase, Call, Send, Restart, after_act}
use Rattle.step_spec.specs.May.{May, HasSaid}
use Rattle.step_spec.specs.State.{prefix_of}
use Rattle.agreement.specs.World.{CastVote, Doing, MayDo, World, after_doing, cast_after}
use Rattle.agreement.proofs.Growing.{each_replica, said_cases}
use Rattle.agreement.proofs.Kept.{says_may}
use Rattle.agreement.proofs.KeptLemmas.{setting_of}
use Rattle.std.proofs.Common.{take}
use Rattle.paxos_base.specs.declared.rows.JobRow.{JobRow}
use Rattle.launch_machine.specs.Clerk.{AppliesAll}
use Rattle.step_spec.specs.Hear.{known_from}
use Rattle.step_spec.specs.Message.{Known, Snap}
use Rattle.step_spec.specs.Step.{Event, IsLaunchTable}
use Rattle.agreement.specs.Agree.{IsChosen}
use Rattle.agreement.specs.Log.{AreChosen, IsLog}
use Rattle.agreement.proofs.Chosen.{AreKnown}
use Rattle.agreement.proofs.ChosenLemmas.{chosen_on}
use Rattle.agreement.proofs.LogLemmas.{chosen_front, chosen_short}
use Rattle.agreement.proofs.Whole.{IsWhole}
use Rattle.step_spec.proofs.ListLemmas.{applied_append}

-- the rows are the launch table after so many chosen entries, which began with these rows
pub record IsTableAt (n : ℕ) (table : Table) (first : List JobRow) (cast : List CastVote) (slot : ℕ) (rows : List JobRow) : Type 0 where
  pub entries : List Entry
  pub long : length entries ≡ slot
  pub chosen : AreChosen n cast 0 entries
  pub applied : AppliesAll table first entries rows

pub record Tables (n : ℕ) (table : Table) (first : List JobRow) (w : World) : Type 0 where
  pub bases : (q : ℕ) → IsTableAt n table first w.cast (w.replicas q).kept.base (w.replicas q).kept.rows
  pub snaps : (q slot : ℕ) (rows : List JobRow) → HasSaid w.said q (Snap slot rows) → IsTableAt n table first w.cast slot rows

are_chosen_on : (n by : ℕ) (act : Act) (cast : List CastVote) (slot : ℕ) (entries : List Entry) → AreChosen n cast slot entries → AreChosen n (cast_after by act cast) slot entries
are_chosen_on n by act cast slot [] chosen = tt
are_chosen_on n by act cast slot (entry ∷ entries) chosen =
    (chosen_on n by act cast slot entry chosen.0, are_chosen_on n by act cast (slot + 1) entries chosen.1)

table_on : (n : ℕ) (table : Table) (first : List JobRow) (by : ℕ) (act : Act) (cast : List CastVote) (slot : ℕ) (rows : List JobRow) → IsTableAt n table first cast slot rows → IsTableAt n table first (cast_after by act cast) slot rows
table_on n table first by act cast slot rows at =
    record { entries = at.entries; long = at.long; chosen = are_chosen_on n by act cast 0 at.entries at.chosen; applied = at.applied }

-- entries that are known are chosen, one behind the other
pub known_chosen : (n : ℕ) (cast : List CastVote) (slot : ℕ) (entries : List Entry) → ((at : ℕ) (entry : Entry) → Contains (known_from slot entries) (Known at entry) → IsChosen n cast at entry) → AreChosen n cast slot entries
known_chosen n cast slot [] known = tt
known_chosen n cast slot (entry ∷ entries) known = (
  known slot entry (Contains-append_left (Known slot entry ∷ []) (known_from (slot + 1) entries) (Known slot entry) (Contains-push [] (Known slot entry))),
  known_chosen n cast (slot + 1) entries (λ at other has. known at other (Contains-append_right (Known slot entry ∷ []) (known_from (slot + 1) entries) (Known at other) has)),
)

pub chosen_append : (n : ℕ) (cast : List CastVote) (slot : ℕ) (xs ys : List Entry) → AreChosen n cast slot xs → AreChosen n cast (slot + length xs) ys → AreChosen n cast slot (xs ++ ys)
chosen_append n cast slot [] ys front back = let at : slot + 0 ≡ slot = omega arith in rw at at back
chosen_append n cast slot (x ∷ xs) ys front back =
    let at : slot + suc (length xs) ≡ slot + 1 + length xs = omega arith in
    (front.0, chosen_append n cast (slot + 1) xs ys front.1 (rw at at back))

-- the entries below a replica's base and those that it has learned are chosen, and its launch table is theirs
pub all_of : (n : ℕ) (table : Table) (first : List JobRow) (w : World) (q : ℕ) (rows : List JobRow) → AreKnown n w → Tables n table first w → IsLaunchTable table (w.replicas q) rows → IsTableAt n table first w.cast (prefix_of (w.replicas q)) rows
all_of n table first w q rows known tables is_table =
    let base = tables.bases q in
    let learned = known_chosen n w.cast (w.replicas q).kept.base (w.replicas q).learned (known.learned q) in
    let at : 0 + length base.entries ≡ (w.replicas q).kept.base = omega (arith, base.long) in
    record {
      entries = base.entries ++ (w.replicas q).learned;
      long = omega (arith, length-append base.entries (w.replicas q).learned, base.long);
      chosen = chosen_append n w.cast 0 base.entries (w.replicas q).learned base.chosen (rw at learned);
      applied = applied_append table first (w.replicas q).kept.rows rows base.entries (w.replicas q).learned base.applied is_table;
    }

base_here : (n : ℕ) (table : Table) (first : List JobRow) (w : World) (by : ℕ) (event : Option Event) (answer : Option Kind) (act : Act) → AreKnown n w → Tables n table first w → MayDo n table w (record { by = by; event = event; answer = answer; act = act }) → IsTableAt n table first w.cast (after_act act (w.replicas by)).kept.base (after_act act (w.replicas by)).kept.rows
unfolding after_act after_delta May
base_here n table first w by event answer (Rebase slot rows) known tables may = elim may.may.rows_of [
  | inl mine ↦ rw mine.0 (all_of n table first w by rows known tables mine.1)
  | inr told ↦ tables.snaps told.0 slot rows told.1
]
base_here n table first w by event answer (Observe ballot) known tables may = tables.bases by
base_here n table first w by event answer (Stand me ballot) known tables may = tables.bases by
base_here n table first w by event answer (Gather from votes) known tables may = tables.bases by
base_here n table first w by event answer TakeLead known tables may = tables.bases by
base_here n table first w by event answer (Pledge ballot) known tables may = tables.bases by
base_here n table first w by event answer (Cast vote) known tables may = tables.bases by
base_here n table first w by event answer (Propose me vote) known tables may = tables.bases by
base_here n table first w by event answer (Count from) known tables may = tables.bases by
base_here n table first w by event answer Wait known tables may = tables.bases by
base_here n table first w by event answer (Learn slot entry) known tables may = tables.bases by
base_here n table first w by event answer (Call row) known tables may = tables.bases by
base_here n table first w by event answer (Send whom message) known tables may = tables.bases by
base_here n table first w by event answer (Restart me) known tables may = tables.bases by

bases_after : (n : ℕ) (table : Table) (first : List JobRow) (w : World) (doing : Doing) → AreKnown n w → Tables n table first w → MayDo n table w doing → (q : ℕ) → IsTableAt n table first (after_doing doing.by doing.act w).cast ((after_doing doing.by doing.act w).replicas q).kept.base ((after_doing doing.by doing.act w).replicas q).kept.rows
unfolding after_doing
bases_after n table first w doing known tables may q =
    each_replica (λ q s. IsTableAt n table first (cast_after doing.by doing.act w.cast) s.kept.base s.kept.rows)
    doing.by (after_act doing.act (w.replicas doing.by)) w.replicas q
    (table_on n table first doing.by doing.act w.cast _ _ (base_here n table first w doing.by doing.event doing.answer doing.act known tables may))
    (λ other. table_on n table first doing.by doing.act w.cast _ _ (tables.bases q))

snaps_after : (n : ℕ) (table : Table) (first : List JobRow) (w : World) (doing : Doing) → Tables n table first w → MayDo n table w doing → (q slot : ℕ) (rows : List JobRow) → HasSaid (after_doing doing.by doing.act w).said q (Snap slot rows) → IsTableAt n table first (after_doing doing.by doing.act w).cast slot rows
unfolding after_doing
snaps_after n table first w doing tables may q slot rows has =
    elim (said_cases doing.by doing.act w.said q (Snap slot rows) has) [
      | inl old ↦ table_on n table first doing.by doing.act w.cast slot rows (tables.snaps q slot rows old)
      | inr now ↦
          let says = says_may (setting_of n table w doing.by doing.event) (w.replicas doing.by) doing.act (Snap slot rows) now.1 may.may in
          table_on n table first doing.by doing.act w.cast slot rows (rw (says.0, says.1) (tables.bases doing.by))
    ]

pub tables_after : (n : ℕ) (table : Table) (first : List JobRow) (w : World) (doing : Doing) → AreKnown n w → Tables n table first w → MayDo n table w doing → Tables n table first (after_doing doing.by doing.act w)
tables_after n table first w doing known tables may =
    record { bases = bases_after n table first w doing known tables may; snaps = snaps_after n table first w doing tables may }

-- each replica's launch table is that of a front of the log
pub follows : (n : ℕ) (table : Table) (first : List JobRow) (w : World) (log : List Entry) (q : ℕ) (rows : List JobRow) → IsWhole n w → Tables n table first w → IsLog n w.cast log → IsLaunchTable table (w.replicas q) rows → (prefix_of (w.replicas q) ≤ length log) × AppliesAll table first (take (prefix_of (w.replicas q)) log) rows
follows n table first w log q rows whole tables is_log is_table =
    let all = all_of n table first w q rows whole.known tables is_table in
    let short = chosen_short n w all.entries log all.chosen is_log in
    let front = chosen_front n w 0 all.entries log whole.kept whole.safe all.chosen is_log.chosen short in
    (omega (arith, short, all.long), subst (λ n. AppliesAll table first (take n log) rows) all.long (rw front all.applied))

-- no replica has learned more than the log
pub short_of : (n : ℕ) (table : Table) (first : List JobRow) (w : World) (log : List Entry) (q : ℕ) → IsWhole n w → Tables n table first w → IsLog n w.cast log → prefix_of (w.replicas q) ≤ length log
short_of n table first w log q whole tables is_log =
    let base = tables.bases q in
    let learned = known_chosen n w.cast (w.replicas q).kept.base (w.replicas q).learned (whole.known.learned q) in
    let at : 0 + length base.entries ≡ (w.replicas q).kept.base = omega (arith, base.long) in
    let all = chosen_append n w.cast 0 base.entries (w.replicas q).learned base.chosen (rw at learned) in
    let short = chosen_short n w (base.entries ++ (w.replicas q).learned) log all is_log in
    omega (arith, short, base.long, length-append base.entries (w.replicas q).learned)
