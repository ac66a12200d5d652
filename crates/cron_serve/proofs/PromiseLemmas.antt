-- What the report of a run tells of its launches.
use Rattle.std.proofs.Common.{◌≡◌, ℕ, List, ◌++◌, ap, false, inl, inr, refl, sym, ◌∙◌, subst}
use Rattle.std.proofs.lemmas.Bool.{cases_Bool}
use Rattle.std.proofs.lemmas.List.{append-nil}
use Rattle.cron_io.specs.Views.{SourceView, SinkView}
use Rattle.disk_model.specs.declared.mem_disk.MemDisk.{MemDisk}
use Rattle.due_set.specs.Table.{Table, is_by_period}
use Rattle.replica_node.specs.declared.node.Node.{Node}
use Rattle.world_law.specs.Book.{BookState}
use Rattle.report_text.specs.Report.{IsReport}
use Rattle.report_text.proofs.BookLemmas.{of_ledger}
use Rattle.paxos_base.specs.declared.entry.Kind.TheVariants.{Launch}
use Rattle.launch_safety.proofs.VersionLemmas.{are_adoptions}
use Rattle.cron_serve.specs.Ends.{Ends}
use Rattle.cron_serve.specs.Program.{EndsProgram}
use Rattle.cron_serve.specs.Promise.{HasEachDue, HasOnlyDue, ReportsInput, ReportsLaunches}
use Rattle.cron_serve.specs.Serve.{IsReportOf, IsRunOf, WritesText}
use Rattle.cron_serve.specs.Served.{EndsFor}
use Rattle.cron_serve.specs.declared.run_end.RunEnd.{RunEnd}
use Rattle.program_options.specs.declared.words.Output.TheVariants.{Report}
use Rattle.program_options.specs.declared.words.Request.{Request}
use Rattle.program_options.specs.declared.words.Request.TheVariants.{Text}
use Rattle.run_outcome.proofs.SettledLemmas.{called_held}
use Rattle.cron_serve.proofs.WholeLemmas.{all_launched, each_called, each_ended, each_within_grace, fitting, periods_apart, row_due}

module _ (bytes : List ℕ) (table : Table) (book : BookState) (nodes : List (Node MemDisk)) (run : IsRunOf bytes table book nodes) where
  each_due_ended : HasEachDue table run.whole.adoptions book.ledger.held
  each_due_ended job at due = let (start, kind, ended, held) = each_ended bytes table book nodes run job at due in (kind, held)

  pub all_due : HasOnlyDue table run.whole.adoptions book.ledger.held
  all_due row among = elim (cases_Bool (is_by_period table row.name.job)) [
    | inl period ↦ inr period
    | inr plain ↦ inl (row_due bytes table book nodes run row plain among)
  ]

  pub reports_launches : (text : List ℕ) → IsReport table book.members book.ledger.held text
      → ReportsLaunches table run.run.members run.run.commands text
  reports_launches text report = record {
    rows = book.ledger.held;
    report = subst (λ (members : ℕ). IsReport table members book.ledger.held text) run.members report;
    once = (fitting bytes table book nodes run).once;
    adoptions = run.whole.adoptions;
    adopted = are_adoptions table run.whole.log run.whole.adoptions run.whole.adopted;
    ended = each_due_ended;
    due = all_due;
    apart = periods_apart bytes table book nodes run;
    in_grace = λ long job at due. each_within_grace bytes table book nodes run job at long due;
    unscripted = λ none job at due. called_held book.ledger.held job at at Launch (each_called bytes table book nodes run none job at due);
    undisturbed = λ none plain. all_launched bytes table book nodes run none plain;
  }

of_report : (bytes : List ℕ) (book : BookState) (nodes : List (Node MemDisk)) (text : List ℕ) (is : IsReportOf false false bytes book nodes text)
    → ReportsLaunches is.table is.run.run.members is.run.run.commands text
of_report bytes book nodes text is =
    let alone : text ≡ is.first =
    is.parts ∙ ap (λ (l : List ℕ). is.first ++ (l ++ is.third)) is.watched ∙ ap (λ (l : List ℕ). is.first ++ l) is.told ∙ append-nil is.first in
    subst (ReportsLaunches is.table is.run.run.members is.run.run.commands) (sym alone)
    (reports_launches bytes is.table book nodes is.run is.first (of_ledger is.table book is.first is.run.rest is.report))

of_text : (source source' : SourceView) (sink sink' : SinkView) (book : BookState) (nodes : List (Node MemDisk))
    → WritesText (Report false false) source source' sink sink' book nodes → ReportsInput source source' sink sink'
of_text source source' sink sink' book nodes (text, is, gained) = record {
  bytes = is.bytes;
  read = is.given;
  run = is.is.run.run;
  table = is.is.table;
  taken = is.is.run.taken;
  text = text;
  gained = gained;
  reports = of_report is.bytes book nodes text is.is;
}

pub reports_end : (source source' : SourceView) (sink sink' : SinkView) (end : RunEnd) (request : Request) → request ≡ Text (Report false false)
    → EndsFor request source source' sink sink' end → end.status ≡ 0 → ReportsInput source source' sink sink'
reports_end source source' sink sink' end request report ends zero =
    let ended : Ends (Report false false) source source' sink sink' end = subst (λ (r : Request). EndsFor r source source' sink sink' end) report ends in
    of_text source source' sink sink' end.book end.nodes.items (ended.text zero)

pub reports_input : (source source' : SourceView) (sink sink' notes notes' : SinkView) (status : ℕ)
    → EndsProgram (Text (Report false false)) source source' sink sink' notes notes' status → status ≡ 0 → ReportsInput source source' sink sink'
reports_input source source' sink sink' notes notes' status ends zero =
    reports_end source source' sink sink' ends.end (Text (Report false false)) refl ends.ends (sym ends.status_is ∙ zero)
