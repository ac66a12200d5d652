-- What is told of a run that was made from a seed. Source: this project; the book by world_law.
use Rattle.std.specs.Prelude.{◌≡◌, ℕ, List, [], ◌∷◌, ◌++◌, length, count_by, codes, decimal}
use Rattle.due_set.specs.Table.{Table}
use Rattle.paxos_base.specs.declared.entry.Kind.{Kind}
use Rattle.paxos_base.specs.declared.entry.Kind.TheVariants.{Launch, Void}
use Rattle.cluster_sched.specs.declared.row.SchedRow.{SchedRow}
use Rattle.history.specs.Book.{Row}
use Rattle.launch_safety.specs.Fitting.{held_in}
use Rattle.world_law.specs.Book.{BookState, StandsBehind}
use Rattle.cron_io.specs.Lines.{text_of_lines}
use Rattle.report_text.specs.Report.{is_same_kind}

-- how many of the rows are of a kind
abbrev pub total_of : List SchedRow → Kind → ℕ
total_of rows kind = count_by (λ row. is_same_kind row.kind kind) rows

-- the summary's lines, with the counts over all rows that are held
abbrev pub summary_text : Table → (seed : ℕ) → List SchedRow → List ℕ
summary_text table seed held =
    text_of_lines (
    codes "cron make 1" ∷ (codes "seed " ++ decimal seed) ∷ (codes "jobs " ++ decimal (length table.jobs))
    ∷ (codes "launched " ++ decimal (total_of held Launch)) ∷ (codes "void " ++ decimal (total_of held Void)) ∷ codes "end" ∷ []
    )

-- The text is the summary of a book: over what the scheduler holds after its turns.
pub record IsBookSummary (table : Table) (seed : ℕ) (book : BookState) (text : List ℕ) : Type 0 where
  pub rows : List Row
  pub behind : StandsBehind table rows book
  pub text_is : text ≡ summary_text table seed (held_in book.members table rows)
