-- How the program ends over a source that is reliable and tells its bytes, and a sink that tells its room.
use Rattle.std.proofs.Common.{◌≡◌, ◌≢◌, ◌⊎◌, inl, inr, ℕ, zero, suc, ◌≤◌, List, Option, Some, None, false, refl, subst, arith}
use Rattle.std.specs.Prelude.{IsSome, IsSomeAnd}
use Rattle.cron_io.specs.Faults.{Rose}
use Rattle.cron_io.specs.Views.{SourceView, SinkView}
use Rattle.disk_model.specs.declared.mem_disk.MemDisk.{MemDisk}
use Rattle.due_set.specs.Table.{Table}
use Rattle.replica_node.specs.declared.node.Node.{Node}
use Rattle.world_law.specs.Book.{BookState}
use Rattle.cron_serve.specs.Ends.{Ends}
use Rattle.run_text.specs.Run.{Run}
use Rattle.run_text.specs.declared.refusal.Refusal.{Refusal}
use Rattle.run_input.specs.Input.{IsRunWithTable}
use Rattle.service_tests.specs.OverMemory.{IsReportOfRun, FitsRoom, IsBeyondRoom}
use Rattle.cron_serve.specs.Serve.{IsRefused, IsReportOf, IsTextOfInput}
use Rattle.program_options.specs.declared.words.Output.TheVariants.{Report}
use Rattle.cron_serve.specs.declared.run_end.RunEnd.{RunEnd}
use Rattle.cron_serve.proofs.CompleteLemmas.{read_whole, refused_input}
use Rattle.cron_serve.proofs.VerdictLemmas.{suits_or_refused}

-- a report of the input is one of its bytes
report_is : (source source' : SourceView) (bytes text : List ℕ) (book : BookState) (nodes : List (Node MemDisk)) → source.left ≡ Some bytes
    → IsTextOfInput (Report false false) source source' book nodes text → IsReportOfRun bytes text
report_is source source' bytes text book nodes told input =
    let read : input.bytes ≡ bytes = read_whole source source' bytes input.bytes told input.given in
    record { book = book; nodes = nodes; is = subst (λ (bs : List ℕ). IsReportOf false false bs book nodes text) read input.is }

-- a run that is taken isn't refused, and its report is written whole, or a write failed, or memory ran out
abbrev AreLeft : ℕ → Type 0
AreLeft status = ((status ≡ 0) ⊎ (status ≡ 4)) ⊎ (status ≡ 5)

are_left : (status : ℕ) → status ≤ 5 → status ≢ 1 → status ≢ 2 → status ≢ 3 → AreLeft status
are_left zero small a b c = inl (inl refl)
are_left (suc zero) small a b c = absurd (a (omega arith))
are_left (suc (suc zero)) small a b c = absurd (b (omega arith))
are_left (suc (suc (suc zero))) small a b c = absurd (c (omega arith))
are_left (suc (suc (suc (suc zero)))) small a b c = inl (inr (omega arith))
are_left (suc (suc (suc (suc (suc k))))) small a b c = inr (omega arith)

no_refusal : (source source' : SourceView) (bytes : List ℕ) (run : Run) (table : Table) (refusal : Option Refusal) → source.left ≡ Some bytes → IsRunWithTable bytes run table
    → IsSomeAnd refusal (IsRefused (Report false false) source source') → ⊥
no_refusal source source' bytes run table None told taken refused = absurd refused
no_refusal source source' bytes run table (Some refusal) told taken refused =
    suits_or_refused (Report false false) bytes refusal (run, table, taken) (refused_input (Report false false) source source' bytes refusal told refused)

-- an end over a source that is reliable and tells its bytes, and a sink that tells its room
pub record EndsOverMemory (source source' : SourceView) (sink sink' : SinkView) (bytes : List ℕ) (room : ℕ) (end : RunEnd) : Type 0 where
  pub has : source.left ≡ Some bytes
  pub has_room : sink.room ≡ Some room
  pub usage : end.status ≢ 1
  pub reliable : end.status ≢ 3
  pub ends : Ends (Report false false) source source' sink sink' end

module _ (source source' : SourceView) (sink sink' : SinkView) (bytes : List ℕ) (room : ℕ) (end : RunEnd)
    (over : EndsOverMemory source source' sink sink' bytes room end) (run : Run) (table : Table) (taken : IsRunWithTable bytes run table) where
  left_of_run : AreLeft end.status
  left_of_run =
      are_left end.status over.ends.statuses over.usage (λ e. no_refusal source source' bytes run table end.refusal over.has taken (over.ends.refused e)) over.reliable

  -- a run that is taken ends with its report or for want of memory, where the room is enough
  pub ends_whole : FitsRoom bytes room → (end.status ≡ 0) ⊎ (end.status ≡ 5)
  ends_whole enough = elim left_of_run [
    | inl (inl whole) ↦ inl whole
    | inl (inr failed) ↦
        (let lacks = over.ends.exceeds failed room over.has_room in
        let size = enough lacks.text (report_is source source' bytes lacks.text end.book end.nodes.items over.has lacks.of_input) in
        let beyond = lacks.beyond in
        absurd (omega arith))
    | inr memory ↦ inr memory
  ]

  -- a run that is taken ends by a write fault or for want of memory, where the room is too small
  pub ends_cut : IsBeyondRoom bytes room → (end.status ≡ 4) ⊎ (end.status ≡ 5)
  ends_cut small = elim left_of_run [
    | inl (inl whole) ↦
        (let has = over.ends.fits whole room over.has_room in
        let size = small has.text (report_is source source' bytes has.text end.book end.nodes.items over.has has.of_input) in
        let enough = has.taken.fits in
        absurd (omega arith))
    | inl (inr failed) ↦ inl failed
    | inr memory ↦ inr memory
  ]

-- a count that stays at none didn't rise
pub not_risen : (before now : ℕ) → now ≡ before → before ≡ 0 → Rose before now → ⊥
not_risen before now same none (inl lt) = absurd (omega arith)
not_risen before now same none (inr last) = absurd (omega arith)

-- there is a refusal at status 2 alone
refused_some : {T : Type 0} (o : Option T) (P : T → Type 0) → IsSomeAnd o P → IsSome o
refused_some None P some = absurd some
refused_some (Some x) P some = refl

pub ends_refused : (source source' : SourceView) (sink sink' : SinkView) (end : RunEnd) (P : Refusal → Type 0) → Ends (Report false false) source source' sink sink' end
    → IsSomeAnd end.refusal P ⊎ (end.status ≡ 5) → (end.status ≡ 2) ⊎ (end.status ≡ 5)
ends_refused source source' sink sink' end P ends (inl some) = inl (ends.refusal.0 (refused_some end.refusal P some))
ends_refused source source' sink sink' end P ends (inr five) = inr five
