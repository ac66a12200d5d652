use Rattle.std.proofs.Common.{◌≡◌, ◌⊎◌, ◌≤◌, inl, inr, ℕ, zero, suc, List, refl, arith}
use Rattle.cron_io.specs.Views.{SourceView, SinkView}
use Rattle.disk_model.specs.declared.mem_disk.MemDisk.{MemDisk}
use Rattle.replica_node.specs.declared.node.Node.{Node}
use Rattle.world_law.specs.Book.{BookState}
use Rattle.cron_serve.specs.Ends.{Ends}
use Rattle.cron_serve.specs.Serve.{IsTextOfInput, LeavesNoRun}
use Rattle.cron_serve.specs.declared.run_end.RunEnd.{RunEnd}
use Rattle.program_options.specs.declared.words.Output.{Output}
use Rattle.program_options.specs.declared.words.Output.TheVariants.{Report, DueList, Check, Summary}
use Rattle.cron_serve.proofs.laws.a_listing_leaves_no_run.Goals as goal

none_of_text : (output : Output) (source source' : SourceView) (book : BookState) (nodes : List (Node MemDisk)) (text : List ℕ) → (output ≡ DueList) ⊎ (output ≡ Check)
    → IsTextOfInput output source source' book nodes text → LeavesNoRun book nodes
none_of_text DueList source source' book nodes text lists is = is.is.0
none_of_text Check source source' book nodes text lists is = is.is.0
none_of_text (Report watch journal) source source' book nodes text (inl e) is = absurd (cc)
none_of_text (Report watch journal) source source' book nodes text (inr e) is = absurd (cc)
none_of_text (Summary seed) source source' book nodes text (inl e) is = absurd (cc)
none_of_text (Summary seed) source source' book nodes text (inr e) is = absurd (cc)

other_status : (status : ℕ) → status ≤ 5 → (status ≡ 0) ⊎ (status ≡ 4) ⊎ (status ≡ 5) ⊎ ((1 ≤ status) × (status ≤ 3))
other_status zero most = inl refl
other_status (suc zero) most = inr (inr (inr (omega arith, omega arith)))
other_status (suc (suc zero)) most = inr (inr (inr (omega arith, omega arith)))
other_status (suc (suc (suc zero))) most = inr (inr (inr (omega arith, omega arith)))
other_status (suc (suc (suc (suc zero)))) most = inr (inl (omega arith))
other_status (suc (suc (suc (suc (suc k))))) most = inr (inr (inl (omega arith)))

no_run : (output : Output) (source source' : SourceView) (sink sink' : SinkView) (end : RunEnd) → (output ≡ DueList) ⊎ (output ≡ Check) → Ends output source source' sink sink' end
    → LeavesNoRun end.book end.nodes.items
no_run output source source' sink sink' end other ends = elim (other_status end.status ends.statuses) [
  | inl none ↦ let t = ends.text none in none_of_text output source source' end.book end.nodes.items t.0 other t.1
  | inr (inl four) ↦ let t = ends.front four in none_of_text output source source' end.book end.nodes.items t.0 other t.1
  | inr (inr (inl five)) ↦ elim (ends.memory five) [
    | inl none ↦ none.no_run
    | inr some ↦ none_of_text output source source' end.book end.nodes.items some.0 other some.1
  ]
  | inr (inr (inr few)) ↦ (ends.nothing few.0 few.1).no_run
]

pub returns : goal.returns
returns c = no_run
