-- What the summary of a made run tells of its book.
use Rattle.std.proofs.Common.{◌≡◌, ◌⊎◌, inl, inr, ℕ, List, [], ℤ, refl, sym, subst, arith, pos, ◌+ℤ◌, ◌≤ℤ◌}
use Rattle.std.proofs.lemmas.Int.{ints}
use Rattle.cron_io.specs.Views.{SourceView, SinkView}
use Rattle.cron_io.specs.Writing.{HasGained}
use Rattle.due_set.specs.Table.{Table}
use Rattle.disk_model.specs.declared.mem_disk.MemDisk.{MemDisk}
use Rattle.replica_node.specs.declared.node.Node.{Node}
use Rattle.world_law.specs.Book.{BookState}
use Rattle.job_table.specs.Table.{IsTableOf}
use Rattle.job_table.proofs.FieldLemmas.{table_grace, later_of_one, table_window}
use Rattle.journal_text.specs.Summary.{IsBookSummary}
use Rattle.launch_machine.proofs.ExistLemmas.{AdoptionsOf-same}
use Rattle.launch_safety.proofs.Whole.{no_adoptions}
use Rattle.run_text.specs.Run.{Run}
use Rattle.run_outcome.specs.Readings.{IsGraceLong}
use Rattle.run_outcome.specs.Whole.{HoldsEachDue}
use Rattle.generated_run.specs.Made.{made_run, made_text, made_window}
use Rattle.generated_run.proofs.TextLemmas.{text_says}
use Rattle.cron_serve.specs.Ends.{Ends}
use Rattle.cron_serve.specs.Promise.{HasOnlyDue}
use Rattle.cron_serve.specs.Serve.{IsRunOf, IsTextOfInput, WritesText}
use Rattle.cron_serve.specs.declared.run_end.RunEnd.{RunEnd}
use Rattle.program_options.specs.declared.words.Output.TheVariants.{Summary}
use Rattle.cron_serve.proofs.PlayLemmas.{few_members}
use Rattle.cron_serve.proofs.PromiseLemmas.{all_due}
use Rattle.run_input.proofs.VerdictLemmas.{same_run}
use Rattle.cron_serve.proofs.WholeLemmas.{each_within_grace}

-- a run of the text that a seed makes is the run that it makes
made_is : (seed : ℕ) (table : Table) (book : BookState) (nodes : List (Node MemDisk)) (run : IsRunOf (made_text seed) table book nodes) → run.run ≡ made_run seed
made_is seed table book nodes run = same_run (made_text seed) run.run (made_run seed) run.taken.says (text_says seed)

-- such a run adopts no version: its table has one
made_adopts_none : (seed : ℕ) (table : Table) (book : BookState) (nodes : List (Node MemDisk)) (run : IsRunOf (made_text seed) table book nodes) → IsTableOf (made_run seed) table
    → run.whole.adoptions ≡ []
made_adopts_none seed table book nodes run is =
    let one : table.later ≡ [] = later_of_one (made_run seed) table is refl in
    let none = no_adoptions run.run.members table run.rows run.whole.log (few_members (made_text seed) run.run table run.taken) run.whole.legal run.whole.is_log one in
    AdoptionsOf-same table run.whole.log run.whole.adoptions [] run.whole.adopted none

-- grace lasts as long as the window
made_grace : (seed : ℕ) (table : Table) → IsTableOf (made_run seed) table → IsGraceLong table
made_grace seed table is =
    let long : made_window.until.0 ≤ℤ (made_window.from.0 +ℤ pos 14_400) = omega (arith, ints) in
    rw (table_window (made_run seed) table is, table_grace (made_run seed) table is) long

module _ (seed : ℕ) (source source' : SourceView) (book : BookState) (nodes : List (Node MemDisk)) where
  run_of_text : (text : List ℕ) (is : IsTextOfInput (Summary seed) source source' book nodes text) → IsRunOf (made_text seed) is.is.table book nodes
  run_of_text text is = subst (λ (bytes : List ℕ). IsRunOf bytes is.is.table book nodes) is.given.0 is.is.run

  played_of : (text : List ℕ) → IsTextOfInput (Summary seed) source source' book nodes text
      → (table : Table) × (run : IsRunOf (made_text seed) table book nodes) × (run.run ≡ made_run seed)
  played_of text is = let run = run_of_text text is in (is.is.table, run, made_is seed is.is.table book nodes run)

  pub summary_of : (sink sink' : SinkView) → WritesText (Summary seed) source source' sink sink' book nodes
      → (table : Table) × IsTableOf (made_run seed) table × (text : List ℕ) × IsBookSummary table seed book text × HasGained sink sink' text
  summary_of sink sink' (text, is, gained) =
      let run = run_of_text text is in
      let table_is : IsTableOf (made_run seed) is.is.table =
      subst (λ (r : Run). IsTableOf r is.is.table) (made_is seed is.is.table book nodes run) run.taken.table_is in
      (is.is.table, table_is, text, is.is.summary, gained)

-- at these statuses there is a text, whole or in part
module _ (seed : ℕ) (source source' : SourceView) (sink sink' : SinkView) (end : RunEnd) (ends : Ends (Summary seed) source source' sink sink' end) where
  text_at : (end.status ≡ 0) ⊎ (end.status ≡ 4) → (text : List ℕ) × IsTextOfInput (Summary seed) source source' end.book end.nodes.items text
  text_at (inl zero) = let (text, is, gained) = ends.text zero in (text, is)
  text_at (inr four) = let (text, is, gained) = ends.front four in (text, is)

  pub played_at : (end.status ≡ 0) ⊎ (end.status ≡ 4)
      → (table : Table) × (run : IsRunOf (made_text seed) table end.book end.nodes.items) × (run.run ≡ made_run seed)
  played_at status = let (text, is) = text_at status in played_of seed source source' end.book end.nodes.items text is

  pub unread_at : (end.status ≡ 0) ⊎ (end.status ≡ 4) → source' ≡ source
  unread_at status = let (text, is) = text_at status in is.given.1

  -- so each due instant is launched
  pub launched_at : (end.status ≡ 0) ⊎ (end.status ≡ 4)
      → (table : Table) × IsTableOf (made_run seed) table × HoldsEachDue table [] end.book.ledger.held × HasOnlyDue table [] end.book.ledger.held
  launched_at status =
      let (table, run, same) = played_at status in
      let table_is : IsTableOf (made_run seed) table = subst (λ (r : Run). IsTableOf r table) same run.taken.table_is in
      let none = made_adopts_none seed table end.book end.nodes.items run table_is in
      let long = made_grace seed table table_is in (
        table,
        table_is,
        subst (λ (adoptions : List ℤ). HoldsEachDue table adoptions end.book.ledger.held) none
            (λ job at due. each_within_grace (made_text seed) table end.book end.nodes.items run job at long due),
        subst (λ (adoptions : List ℤ). HasOnlyDue table adoptions end.book.ledger.held) none (all_due (made_text seed) table end.book end.nodes.items run),
      )
