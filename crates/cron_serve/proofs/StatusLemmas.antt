-- What the exit status of a program says of its end.
use Rattle.std.proofs.Common.{◌≡◌, ◌≢◌, ◌⊎◌, inl, inr, ◌↔◌, ℕ, ◌≤◌, List, Option, None, Some, refl, sym, ◌∙◌, subst, arith}
use Rattle.std.specs.Prelude.{IsSome, IsSomeAnd}
use Rattle.cron_io.specs.Faults.{Rose}
use Rattle.cron_io.specs.Views.{SourceView, SinkView}
use Rattle.disk_model.specs.declared.mem_disk.MemDisk.{MemDisk}
use Rattle.replica_node.specs.declared.node.Node.{Node}
use Rattle.world_law.specs.Book.{BookState}
use Rattle.run_text.specs.declared.refusal.Refusal.{Refusal}
use Rattle.cron_serve.specs.Input.{IsRefusedInput, Suits}
use Rattle.cron_serve.specs.Program.{EndsProgram}
use Rattle.cron_serve.specs.Serve.{IsNoted, IsRefused, WritesSome, WritesText, note_text, refusal_note, status_note}
use Rattle.program_options.specs.declared.words.Output.{Output}
use Rattle.program_options.specs.declared.words.Output.TheVariants.{Summary}
use Rattle.program_options.specs.declared.words.Request.TheVariants.{Text}

-- the refusal that an end has, and its note
pub refused_by : (Why : Refusal → Type 0) (notes notes' : SinkView) (status : ℕ) (refusal : Option Refusal) → IsSomeAnd refusal Why
    → IsNoted notes notes' (note_text status refusal) → (why : Refusal) × Why why × IsNoted notes notes' (refusal_note why)
refused_by Why notes notes' status None why note = absurd why
refused_by Why notes notes' status (Some refusal) why note = (refusal, why, note)

-- without a refusal the note is that of the status
pub note_of_status : (notes notes' : SinkView) (status : ℕ) (refusal : Option Refusal) → IsSome refusal ↔ (status ≡ 2) → status ≢ 2
    → IsNoted notes notes' (note_text status refusal) → IsNoted notes notes' (status_note status)
note_of_status notes notes' status None is other note = note
note_of_status notes notes' status (Some refusal) is other note = absurd (other (is.0 refl))

-- a refusal comes at status 2 alone
pub at_refusal : (Why : Refusal → Type 0) (status : ℕ) (refusal : Option Refusal) → IsSome refusal ↔ (status ≡ 2) → IsSomeAnd refusal Why → status ≡ 2
at_refusal Why status None is why = absurd why
at_refusal Why status (Some refusal) is why = is.0 refl

module _ (output : Output) (source source' : SourceView) (sink sink' notes notes' : SinkView) (status : ℕ)
    (ends : EndsProgram (Text output) source source' sink sink' notes notes' status) where
  -- the status of the end
  at : (other : ℕ) → status ≡ other → ends.end.status ≡ other
  at other is = sym ends.status_is ∙ is

  pub whole : status ≡ 0 → (book : BookState) × (nodes : List (Node MemDisk)) × WritesText output source source' sink sink' book nodes
  whole zero = (ends.end.book, ends.end.nodes.items, ends.ends.text (at 0 zero))

  pub refused : status ≡ 2 → (sink' ≡ sink) × (refusal : Refusal) × IsRefused output source source' refusal × IsNoted notes notes' (refusal_note refusal)
  refused two =
      let is = at 2 two in
      let (why, refused, note) = refused_by (IsRefused output source source') notes notes' ends.end.status ends.end.refusal (ends.ends.refused is) ends.note in
      ((ends.ends.nothing (omega (arith, is)) (omega (arith, is))).unwritten, why, refused, note)

  pub read_fault : status ≡ 3 → (sink' ≡ sink) × Rose source.faults source'.faults
  read_fault three =
      let is = at 3 three in
      ((ends.ends.nothing (omega (arith, is)) (omega (arith, is))).unwritten, ends.ends.read_fault is)

  pub write_fault : status ≡ 4
      → (book : BookState) × (nodes : List (Node MemDisk)) × WritesSome output source source' sink sink' book nodes × Rose sink.faults sink'.faults
  write_fault four =
      let is = at 4 four in
      (ends.end.book, ends.end.nodes.items, ends.ends.front is, ends.ends.write_fault is)

  pub memory : status ≡ 5
      → (sink' ≡ sink) ⊎ ((book : BookState) × (nodes : List (Node MemDisk)) × WritesSome output source source' sink sink' book nodes)
  memory five = elim (ends.ends.memory (at 5 five)) [
    | inl none ↦ inl none.unwritten
    | inr some ↦ inr (ends.end.book, ends.end.nodes.items, some)
  ]

  pub no_other : status ≤ 5
  no_other = subst (λ (s : ℕ). s ≤ 5) (sym ends.status_is) ends.ends.statuses

  pub noted : status ≢ 2 → IsNoted notes notes' (status_note status)
  noted other =
      subst (λ (s : ℕ). IsNoted notes notes' (status_note s)) (sym ends.status_is)
      (note_of_status notes notes' ends.end.status ends.end.refusal ends.ends.refusal (λ two. other (ends.status_is ∙ two)) ends.note)

  pub text_decided : (bytes : List ℕ) → source.left ≡ Some bytes → Suits output bytes
      → ¬ Rose source.faults source'.faults → ¬ Rose sink.faults sink'.faults → (status ≡ 0) ⊎ (status ≡ 5)
  text_decided bytes told suits read written = elim (ends.complete.taken bytes told suits read written) [
    | inl zero ↦ inl (ends.status_is ∙ zero)
    | inr five ↦ inr (ends.status_is ∙ five)
  ]

  pub refusal_decided : (bytes : List ℕ) → source.left ≡ Some bytes → (Suits output bytes → ⊥) → ¬ Rose source.faults source'.faults
      → (status ≡ 2) ⊎ (status ≡ 5)
  refusal_decided bytes told other read = elim (ends.complete.others bytes told other read) [
    | inl why ↦ inl (ends.status_is ∙ at_refusal (IsRefusedInput output bytes) ends.end.status ends.end.refusal ends.ends.refusal why)
    | inr five ↦ inr (ends.status_is ∙ five)
  ]

-- the summary of a made run is written, or memory runs out
pub made_decided : (seed : ℕ) (source source' : SourceView) (sink sink' notes notes' : SinkView) (status : ℕ)
    → EndsProgram (Text (Summary seed)) source source' sink sink' notes notes' status → ¬ Rose sink.faults sink'.faults → (status ≡ 0) ⊎ (status ≡ 5)
made_decided seed source source' sink sink' notes notes' status ends quiet = elim (ends.complete.made (λ (none : ⊥). none) quiet) [
  | inl zero ↦ inl (ends.status_is ∙ zero)
  | inr five ↦ inr (ends.status_is ∙ five)
]
