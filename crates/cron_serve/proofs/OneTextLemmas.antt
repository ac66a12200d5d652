-- For each output the bytes, the book and the nodes leave one text.
use Rattle.std.proofs.Common.{◌≡◌, ap, ℕ, ◌≤◌, Bool, true, false, List, ◌++◌, sym, ◌∙◌, subst}
use Rattle.due_set.specs.Table.{Table}
use Rattle.agreement.specs.Log.{IsLog}
use Rattle.history.specs.Book.{votes_in}
use Rattle.disk_model.specs.declared.mem_disk.MemDisk.{MemDisk}
use Rattle.replica_node.specs.declared.node.Node.{Node}
use Rattle.world_law.specs.Book.{BookState}
use Rattle.due_list.specs.CheckText.{IsCheckText}
use Rattle.due_list.specs.DueText.{IsDueText}
use Rattle.due_list.proofs.LawLemmas.{same_check_text, same_due_text}
use Rattle.report_text.specs.Book.{IsBookReport}
use Rattle.report_text.proofs.BookLemmas.{one_report}
use Rattle.journal_text.specs.Starts.{IsBookJournal}
use Rattle.journal_text.specs.Summary.{IsBookSummary}
use Rattle.journal_text.proofs.StartLemmas.{one_journal}
use Rattle.journal_text.proofs.SummaryLemmas.{one_summary}
use Rattle.run_text.specs.Run.{Run}
use Rattle.cron_serve.specs.Serve.{StandsIfAsked, IsCheckOf, IsDueListOf, IsReportOf, IsRunOf, IsSummaryOf, IsTextOf}
use Rattle.cron_serve.specs.Watch.{IsBookWatch}
use Rattle.program_options.specs.declared.words.Output.{Output}
use Rattle.program_options.specs.declared.words.Output.TheVariants.{Report, DueList, Check, Summary}
use Rattle.cron_serve.proofs.PlayLemmas.{few_members}
use Rattle.cron_serve.proofs.SeenLemmas.{one_watch}
use Rattle.run_input.proofs.VerdictLemmas.{one_frame, one_taken}

module _ (bytes : List ℕ) (book : BookState) (nodes : List (Node MemDisk)) where
  -- two such runs are one run, with one table
  same_played : (table other : Table) (first : IsRunOf bytes table book nodes) (second : IsRunOf bytes other book nodes)
      → (first.run ≡ second.run) × (table ≡ other)
  same_played table other first second = one_taken bytes first.run second.run table other first.taken second.taken

  few : (table : Table) → IsRunOf bytes table book nodes → book.members ≤ 7
  few table run = subst (λ (members : ℕ). members ≤ 7) (sym run.members) (few_members bytes run.run table run.taken)

  same_report : (table other : Table) (a b : List ℕ) → IsRunOf bytes table book nodes → IsRunOf bytes other book nodes
      → IsBookReport table book a → IsBookReport other book b → a ≡ b
  same_report table other a b first second one two =
      one_report other book a b (few other second)
      (subst (λ (t : Table). IsBookReport t book a) (same_played table other first second).1 one) two

  same_journal : (table other : Table) (a b : List ℕ) (first : IsRunOf bytes table book nodes) (second : IsRunOf bytes other book nodes)
      → IsBookJournal table first.run.commands book a → IsBookJournal other second.run.commands book b → a ≡ b
  same_journal table other a b first second one two =
      let same = same_played table other first second in
      one_journal other second.run.commands book a b
      (subst (λ (r : Run). IsBookJournal other r.commands book a) same.0
      (subst (λ (t : Table). IsBookJournal t first.run.commands book a) same.1 one)) two

  same_watch : (table other : Table) (a b : List ℕ) (first : IsRunOf bytes table book nodes) (second : IsRunOf bytes other book nodes)
      → IsBookWatch table first.run.commands book a → IsBookWatch other second.run.commands book b → a ≡ b
  same_watch table other a b first second one two =
      let same = same_played table other first second in
      let is_log = subst (λ (members : ℕ). IsLog members (votes_in second.rows) second.whole.log) (sym second.members) second.whole.is_log in
      one_watch other second.run.commands book second.rows second.whole.log second.behind is_log a b
      (subst (λ (r : Run). IsBookWatch other r.commands book a) same.0
      (subst (λ (t : Table). IsBookWatch t first.run.commands book a) same.1 one)) two

  same_asked : (asked : Bool) (is also : List ℕ → Type 0) → ((a b : List ℕ) → is a → also b → a ≡ b) → (a b : List ℕ) → StandsIfAsked asked is a → StandsIfAsked asked also b → a ≡ b
  same_asked true is also same a b one two = same a b one two
  same_asked false is also same a b one two = one ∙ sym two

  one_report_of : (watch journal : Bool) (a b : List ℕ) → IsReportOf watch journal bytes book nodes a → IsReportOf watch journal bytes book nodes b → a ≡ b
  one_report_of watch journal a b one two =
      let first = same_report one.table two.table one.first two.first one.run two.run one.report two.report in
      let second = same_asked watch _ _ (λ x y. same_watch one.table two.table x y one.run two.run) one.second two.second one.watched two.watched in
      let third = same_asked journal _ _ (λ x y. same_journal one.table two.table x y one.run two.run) one.third two.third one.told two.told in
      one.parts ∙ ap (λ (l : List ℕ). l ++ (one.second ++ one.third)) first ∙ ap (λ (l : List ℕ). two.first ++ (l ++ one.third)) second
      ∙ ap (λ (l : List ℕ). two.first ++ (two.second ++ l)) third ∙ sym two.parts

  one_summary_of : (seed : ℕ) (a b : List ℕ) → IsSummaryOf seed bytes book nodes a → IsSummaryOf seed bytes book nodes b → a ≡ b
  one_summary_of seed a b one two =
      one_summary two.table seed book a b
      (subst (λ (t : Table). IsBookSummary t seed book a) (same_played one.table two.table one.run two.run).1 one.summary) two.summary

  one_due_list_of : (a b : List ℕ) → IsDueListOf bytes a → IsDueListOf bytes b → a ≡ b
  one_due_list_of a b one two =
      same_due_text two.table a b
      (subst (λ (t : Table). IsDueText t a) (one_taken bytes one.run two.run one.table two.table one.taken two.taken).1 one.list) two.list

  one_check_of : (a b : List ℕ) → IsCheckOf bytes a → IsCheckOf bytes b → a ≡ b
  one_check_of a b one two =
      same_check_text two.run a b
      (subst (λ (r : Run). IsCheckText r a) (one_frame bytes one.run two.run one.frame two.frame) one.check) two.check

-- there is one text
pub one_text_of : (output : Output) (bytes : List ℕ) (book : BookState) (nodes : List (Node MemDisk)) (a b : List ℕ)
    → IsTextOf output bytes book nodes a → IsTextOf output bytes book nodes b → a ≡ b
one_text_of (Report watch journal) bytes book nodes a b one two = one_report_of bytes book nodes watch journal a b one two
one_text_of DueList bytes book nodes a b (none, one) (none', two) = one_due_list_of bytes book nodes a b one two
one_text_of Check bytes book nodes a b (none, one) (none', two) = one_check_of bytes book nodes a b one two
one_text_of (Summary seed) bytes book nodes a b one two = one_summary_of bytes book nodes seed a b one two
