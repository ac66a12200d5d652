-- The rows at a base are numbered as those of the launch table are; and rows that are numbered can be sent.
use Rattle.std.proofs.Common.{length, ◌≡◌, ℕ, arith, Some, List, [], ◌∷◌, get_or, ℤ, refl, sym, ap, subst, ◌∙◌, inl, inr}
use Rattle.std.specs.Prelude.{slice_get, slice_set}
use Rattle.std.specs.List.{AllByRecursion, Contains}
use Rattle.std.proofs.Math.ListN.{length-set}
use Rattle.std.proofs.lemmas.Bool.{false≢true, cases_eq}
use Rattle.std.proofs.lemmas.List.Elements.{All-set}
use Rattle.std.proofs.lemmas.Option.{get_or_from_slice_get, slice_get-get_or, slice_get_within}
use Rattle.paxos_base.specs.declared.rows.TableSize.{TableSize}
use Rattle.paxos_base.specs.Rows.{AreNumbered, OpenHasCursor, OpenHaveCursors, fresh_row, row_count}
use Rattle.paxos_base.specs.declared.entry.Entry.{Entry}
use Rattle.paxos_base.specs.declared.entry.Entry.TheVariants.{Noop, Start, End, Table as TableEntry}
use Rattle.paxos_base.specs.declared.entry.Kind.{Kind}
use Rattle.paxos_base.specs.declared.entry.Kind.TheVariants.{Launch, Void}
use Rattle.paxos_base.specs.declared.rows.JobRow.{JobRow}
use Rattle.due_set.specs.Table.{Table}
use Rattle.launch_machine.specs.Clerk.{Applies, AppliesAll, adopted_row, closed_row, opened_row, table_size}
use Rattle.launch_machine.proofs.MachineLemmas.{set_here, set_there, closed_job as closed-job}
use Rattle.step_spec.specs.Letters.{IsHeardAs}
use Rattle.step_spec.specs.Message.{Message, Prepare, Promise, Accept, Accepted, Nack, Known, AskFrom, Snap, Lead, Mention}
use Rattle.step_spec.proofs.RowLemmas.{copied_stand, heard_stand}
use Rattle.replica_draft.specs.Letters.{IsCopyable, IsCopyableIn}
use Rattle.replica_core.specs.Heard.{BringsRows}
use Rattle.due_set.proofs.Rising.{Contains-head as in_first, Contains-tail as in_rest}

-- a row that comes in the place of one of the same job
stand-set : (rows : List JobRow) (count job : ℕ) (row new : JobRow) → slice_get rows job ≡ Some row → new.job ≡ row.job → AreNumbered (slice_set rows job new) count → AreNumbered rows count
stand-set rows count job row new is same stand = record {
  count = sym (length-set rows job new) ∙ stand.count;
  in_order = λ k other there. elim (cases_eq k job) [
    | inl here ↦
        let within = slice_get_within rows job row is in
        let there_now : slice_get (slice_set rows job new) job ≡ Some (get_or (slice_set rows job new) job new) = slice_get-get_or (slice_set rows job new) job new (rw (length-set rows job new) within) in
        let new_is : new ≡ get_or (slice_set rows job new) job new = set_here rows job (get_or (slice_set rows job new) job new) new there_now in
        let number : new.job ≡ job = stand.in_order job new (there_now ∙ ap Some (sym new_is)) in
        let row_is : Some row ≡ Some other = sym is ∙ ap (slice_get rows) (sym here) ∙ there in
        let other_is : row ≡ other = cc in
        ap (λ (r : JobRow). r.job) (sym other_is) ∙ sym same ∙ number ∙ sym here
    | inr apart ↦ stand.in_order k other (set_there rows job k new apart ∙ there)
  ];
}

-- rows are numbered where they are after an entry
numbered-one : (table : Table) (old new : List JobRow) (entry : Entry) → Applies table old entry new → AreNumbered new (row_count (table_size table))
    → AreNumbered old (row_count (table_size table))
numbered-one table old new entry (inr (not, same)) numbered = subst (λ rows. AreNumbered rows (row_count (table_size table))) same numbered
numbered-one table old new Noop (inl (takes, is)) numbered = absurd takes
numbered-one table old new (TableEntry version now) (inl (takes, is)) numbered =
    let own : ℕ = length table.jobs in
    let row : JobRow = get_or old own (fresh_row own) in
    let after = subst (λ rows. AreNumbered rows (row_count (table_size table))) is numbered in
    let there : slice_get old own ≡ Some row = slice_get-get_or old own (fresh_row own) (omega (arith, after.count, length-set old own (adopted_row version now row))) in
    stand-set old (row_count (table_size table)) own row (adopted_row version now row) there refl after
numbered-one table old new (Start job at now) (inl (takes, is)) numbered =
    let row = get_or_from_slice_get old job takes.row (fresh_row job) takes.is_row in
    let opened : JobRow = opened_row at now (get_or old job (fresh_row job)) in
    stand-set old (row_count (table_size table)) job takes.row opened takes.is_row (ap (λ (r : JobRow). r.job) row) (subst (λ rows. AreNumbered rows (row_count (table_size table))) is numbered)
numbered-one table old new (End job at kind) (inl (takes, is)) numbered =
    let row = get_or_from_slice_get old job takes.row (fresh_row job) takes.is_row in
    let here : JobRow = get_or old job (fresh_row job) in
    stand-set old (row_count (table_size table)) job takes.row (closed_row at kind here) takes.is_row (closed-job at kind here ∙ ap (λ (r : JobRow). r.job) row)
    (subst (λ rows. AreNumbered rows (row_count (table_size table))) is numbered)

-- where the launch table has a row for each job and the table's own, the rows at the base do
pub numbered-before : (table : Table) (first : List JobRow) (entries : List Entry) (last : List JobRow) → AppliesAll table first entries last
    → AreNumbered last (row_count (table_size table)) → AreNumbered first (row_count (table_size table))
numbered-before table first [] last same numbered = subst (λ rows. AreNumbered rows (row_count (table_size table))) same numbered
numbered-before table first (entry ∷ entries) last (middle, applies, rest) numbered =
    numbered-one table first middle entry applies (numbered-before table middle entries last rest numbered)

pub copyable : (rows : List JobRow) (count : ℕ) → AreNumbered rows count → OpenHaveCursors rows → IsCopyable rows
copyable rows count numbered cursors = record { in_order = numbered.in_order; cursors = cursors }

-- ---- what is heard

all-by : (P : Message → Type 0) (messages : List Message) → ((message : Message) → Contains messages message → P message) → AllByRecursion P messages
all-by P [] holds = tt
all-by P (message ∷ messages) holds = (holds message (in_first message messages), all-by P messages (λ other has. holds other (in_rest message messages other has)))

rows-heard : (members : ℕ) (size : TableSize) (bytes : List ℕ) (from : ℕ) (messages : List Message) (message : Message) → IsHeardAs members size bytes from messages → Contains messages message → BringsRows size message
rows-heard members size bytes from messages (Snap slot rows) heard has =
    let copy = heard_stand members size bytes from slot messages rows heard has in
    record { stand = copied_stand rows size copy; cursors = copy.cursors; counts = copy.counts }
rows-heard members size bytes from messages (Prepare ballot slot) heard has = tt
rows-heard members size bytes from messages (Promise ballot slot votes) heard has = tt
rows-heard members size bytes from messages (Accept vote) heard has = tt
rows-heard members size bytes from messages (Accepted ballot slot) heard has = tt
rows-heard members size bytes from messages (Nack ballot promised) heard has = tt
rows-heard members size bytes from messages (Known slot entry) heard has = tt
rows-heard members size bytes from messages (AskFrom slot) heard has = tt
rows-heard members size bytes from messages (Lead ballot slot) heard has = tt
rows-heard members size bytes from messages (Mention ballot) heard has = tt

-- the rows that are heard of a letter are those of the table
pub all-rows-heard : (members : ℕ) (size : TableSize) (bytes : List ℕ) (from : ℕ) (messages : List Message) → IsHeardAs members size bytes from messages → AllByRecursion (BringsRows size) messages
all-rows-heard members size bytes from messages heard =
    all-by (BringsRows size) messages (λ message has. rows-heard members size bytes from messages message heard has)

rows-sent : (size : TableSize) (message : Message) → BringsRows size message → IsCopyableIn message
rows-sent size (Snap slot rows) brings = copyable rows (row_count size) brings.stand.numbered brings.cursors
rows-sent size (Prepare ballot slot) brings = tt
rows-sent size (Promise ballot slot votes) brings = tt
rows-sent size (Accept vote) brings = tt
rows-sent size (Accepted ballot slot) brings = tt
rows-sent size (Nack ballot promised) brings = tt
rows-sent size (Known slot entry) brings = tt
rows-sent size (AskFrom slot) brings = tt
rows-sent size (Lead ballot slot) brings = tt
rows-sent size (Mention ballot) brings = tt

pub all-rows-sent : (size : TableSize) (messages : List Message) → AllByRecursion (BringsRows size) messages → AllByRecursion IsCopyableIn messages
all-rows-sent size [] brings = tt
all-rows-sent size (message ∷ messages) brings = (rows-sent size message brings.0, all-rows-sent size messages brings.1)

-- ---- cursors

closed-cursor : (at : ℤ) (kind : Kind) (row : JobRow) → OpenHasCursor (closed_row at kind row)
closed-cursor at Launch row some = absurd (false≢true some)
closed-cursor at Void row some = absurd (false≢true some)

cursors-one : (table : Table) (old new : List JobRow) (entry : Entry) → Applies table old entry new → OpenHaveCursors old → OpenHaveCursors new
cursors-one table old new entry (inr (not, same)) cursors = rw same cursors
cursors-one table old new Noop (inl (takes, is)) cursors = absurd takes
cursors-one table old new (TableEntry version now) (inl (takes, is)) cursors =
    let own : ℕ = length table.jobs in
    rw is (All-set OpenHasCursor old own (adopted_row version now (get_or old own (fresh_row own))) (λ some. refl) cursors)
cursors-one table old new (Start job at now) (inl (takes, is)) cursors =
    rw is (All-set OpenHasCursor old job (opened_row at now (get_or old job (fresh_row job))) (λ some. refl) cursors)
cursors-one table old new (End job at kind) (inl (takes, is)) cursors =
    rw is (All-set OpenHasCursor old job (closed_row at kind (get_or old job (fresh_row job))) (closed-cursor at kind (get_or old job (fresh_row job))) cursors)

-- each row that is open keeps its cursor as entries are applied
pub cursors-applied : (table : Table) (first : List JobRow) (entries : List Entry) (last : List JobRow) → AppliesAll table first entries last → OpenHaveCursors first → OpenHaveCursors last
cursors-applied table first [] last same cursors = rw same cursors
cursors-applied table first (entry ∷ entries) last (middle, applies, rest) cursors =
    cursors-applied table middle entries last rest (cursors-one table first middle entry applies cursors)
