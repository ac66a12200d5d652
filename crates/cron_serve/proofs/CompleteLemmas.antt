-- When an input has to end with its report, and when it has to be refused.
use Rattle.std.proofs.Common.{◌≡◌, ◌⊎◌, inl, inr, ℕ, ◌≤◌, ◌+◌, List, length, Option, Some, None, sym, ap, ◌∙◌, subst, arith, length-append}
use Rattle.std.specs.Prelude.{IsSomeAnd}
use Rattle.std.specs.Io.KnownBytes.{Consumes}
use Rattle.cron_io.specs.Faults.{Rose}
use Rattle.cron_io.specs.Reading.{IsReadToEnd}
use Rattle.cron_io.specs.Views.{SourceView, SinkView}
use Rattle.disk_model.specs.declared.mem_disk.MemDisk.{MemDisk}
use Rattle.replica_node.specs.declared.node.Node.{Node}
use Rattle.world_law.specs.Book.{BookState}
use Rattle.cron_io.proofs.LawLemmas.{taken_all}
use Rattle.cron_serve.specs.Complete.{Completes}
use Rattle.run_text.specs.declared.refusal.Refusal.{Refusal}
use Rattle.cron_serve.specs.Input.{IsOfInput, IsRefusedBytes, IsRefusedInput, Suits}
use Rattle.cron_serve.specs.Serve.{IsRefused, IsTextOf}
use Rattle.cron_serve.specs.Written.{EndsWriting}
use Rattle.program_options.specs.declared.words.Output.{Output}
use Rattle.program_options.specs.declared.words.Output.TheVariants.{Report, DueList, Check, Summary}
use Rattle.program_options.specs.declared.words.Request.TheVariants.{Text}
use Rattle.cron_serve.specs.Stop.{StopsFor, refusal_of, status_of}
use Rattle.cron_serve.specs.declared.run_end.RunEnd.{RunEnd}
use Rattle.cron_serve.proofs.VerdictLemmas.{one_input, suits_or_refused}
use Rattle.cron_serve.specs.declared.stop.Stop.{Stop}
use Rattle.cron_serve.specs.declared.stop.Stop.TheVariants.{Usage, Refused, ReadFault, OutOfMemory}

-- no more is taken from a source than it has
pub consumed : (old new : Option (List ℕ)) (bytes taken : List ℕ) → old ≡ Some bytes → Consumes old new taken → length taken ≤ length bytes
consumed None new bytes taken told h = absurd (cc)
consumed (Some xs) None bytes taken told h = absurd h
consumed (Some xs) (Some ys) bytes taken told h =
    let same : xs ≡ bytes = cc in
    let size : length bytes ≡ length taken + length ys = ap length (sym same ∙ h) ∙ length-append taken ys in
    omega arith

-- what is read to the end is all that the source had
pub read_whole : (source source' : SourceView) (bytes taken : List ℕ) → source.left ≡ Some bytes → IsReadToEnd source source' taken → taken ≡ bytes
read_whole source source' bytes taken told h = (taken_all source source' bytes taken told h).0

-- the refusal of an input is that of the bytes that the source told
pub refused_input : (output : Output) (source source' : SourceView) (bytes : List ℕ) (refusal : Refusal) → source.left ≡ Some bytes
    → IsRefused output source source' refusal → IsRefusedInput output bytes refusal
refused_input output source source' bytes refusal told (of, inl large) =
    let beyond = consumed source.left source'.left bytes large.taken.0 told large.taken.1 in
    let size = large.taken.2 in
    (of, inl (omega arith, large.is))
refused_input output source source' bytes refusal told (of, inr other) =
    let read = read_whole source source' bytes other.bytes told other.read in
    (of, inr (subst (λ (b : List ℕ). length b ≤ 1_048_576) read other.short, subst (λ (b : List ℕ). IsRefusedBytes output b refusal) read other.refused))

-- an input that suits stops the program only for want of memory, where no read failed
stops_for_memory : (output : Output) (source source' : SourceView) (stop : Stop) (status : ℕ) (bytes : List ℕ)
    → status ≡ status_of stop → StopsFor (Text output) source source' stop → source.left ≡ Some bytes → Suits output bytes → ¬ Rose source.faults source'.faults
    → (status ≡ 0) ⊎ (status ≡ 5)
stops_for_memory output source source' Usage status bytes is why told suits quiet = absurd why
stops_for_memory output source source' (Refused refusal) status bytes is why told suits quiet =
    absurd (suits_or_refused output bytes refusal suits (refused_input output source source' bytes refusal told why))
stops_for_memory output source source' ReadFault status bytes is why told suits quiet = absurd (quiet why)
stops_for_memory output source source' OutOfMemory status bytes is why told suits quiet = inr is

-- a stop is a refusal or want of memory, where no read failed
stops_refused : (output : Output) (source source' : SourceView) (stop : Stop) (status : ℕ) (refusal : Option Refusal) (bytes : List ℕ)
    → status ≡ status_of stop → refusal ≡ refusal_of stop → StopsFor (Text output) source source' stop → source.left ≡ Some bytes → ¬ Rose source.faults source'.faults
    → IsSomeAnd refusal (IsRefusedInput output bytes) ⊎ (status ≡ 5)
stops_refused output source source' Usage status refusal bytes is given why told quiet = absurd why
stops_refused output source source' (Refused found) status refusal bytes is given why told quiet =
    inl (subst (λ (r : Option Refusal). IsSomeAnd r (IsRefusedInput output bytes)) (sym given) (refused_input output source source' bytes found told why))
stops_refused output source source' ReadFault status refusal bytes is given why told quiet = absurd (quiet why)
stops_refused output source source' OutOfMemory status refusal bytes is given why told quiet = inr is

-- a stop is this refusal, where the input is refused for it
stops_with : (output : Output) (source source' : SourceView) (stop : Stop) (status : ℕ) (refusal : Option Refusal) (bytes : List ℕ) (found : Refusal)
    → status ≡ status_of stop → refusal ≡ refusal_of stop → StopsFor (Text output) source source' stop → source.left ≡ Some bytes
    → IsRefusedInput output bytes found → ¬ Rose source.faults source'.faults → (refusal ≡ Some found) ⊎ (status ≡ 5)
stops_with output source source' Usage status refusal bytes found is given why told refused quiet = absurd why
stops_with output source source' (Refused other) status refusal bytes found is given why told refused quiet =
    inl (given ∙ ap Some (one_input output bytes other found (refused_input output source source' bytes other told why) refused))
stops_with output source source' ReadFault status refusal bytes found is given why told refused quiet = absurd (quiet why)
stops_with output source source' OutOfMemory status refusal bytes found is given why told refused quiet = inr is

pub completes_stopped : (output : Output) (source source' : SourceView) (sink : SinkView) (stop : Stop) (end : RunEnd) → IsOfInput output → end.status ≡ status_of stop
    → end.refusal ≡ refusal_of stop → StopsFor (Text output) source source' stop → Completes output source source' sink sink end
completes_stopped output source source' sink stop end of is given why = record {
  taken = λ bytes told suits quiet kept. stops_for_memory output source source' stop end.status bytes is why told suits quiet;
  refused = λ bytes found told refused quiet. stops_with output source source' stop end.status end.refusal bytes found is given why told refused quiet;
  others = λ bytes told none quiet. stops_refused output source source' stop end.status end.refusal bytes is given why told quiet;
  made = λ none quiet. absurd (none of);
}

-- an input of which a text was to be written suits it
suits_text : (output : Output) (bytes : List ℕ) (book : BookState) (nodes : List (Node MemDisk)) (text : List ℕ) → IsTextOf output bytes book nodes text → Suits output bytes
suits_text (Report watch journal) bytes book nodes text is = (is.run.run, is.table, is.run.taken)
suits_text DueList bytes book nodes text is = (is.1.run, is.1.table, is.1.taken)
suits_text Check bytes book nodes text is = (is.1.run, is.1.frame)
suits_text (Summary seed) bytes book nodes text is = tt

-- the text was written of the bytes that the source told, or memory ran out
suits_or_memory : (output : Output) (source source' : SourceView) (sink sink' : SinkView) (bytes read : List ℕ) (end : RunEnd)
    → source.left ≡ Some bytes → IsReadToEnd source source' read → EndsWriting output read sink sink' end → Suits output bytes ⊎ (end.status ≡ 5)
suits_or_memory output source source' sink sink' bytes read end told to_end e =
    let same = read_whole source source' bytes read told to_end in
    let by : (end.status ≡ 0) ⊎ (end.status ≡ 4) → Suits output bytes ⊎ (end.status ≡ 5) =
    λ is. let t = e.told is in inl (subst (λ (b : List ℕ). Suits output b) same (suits_text output read end.book end.nodes.items t.text t.is)) in
    elim e.statuses [
      | inl none ↦ by (inl none)
      | inr (inl four) ↦ by (inr four)
      | inr (inr five) ↦ inr five
    ]

-- what was written whole but for a fault of the sink, or memory ran out
quiet_status : (output : Output) (bytes : List ℕ) (sink sink' : SinkView) (end : RunEnd) → EndsWriting output bytes sink sink' end → ¬ Rose sink.faults sink'.faults
    → (end.status ≡ 0) ⊎ (end.status ≡ 5)
quiet_status output bytes sink sink' end e kept = elim e.statuses [
  | inl none ↦ inl none
  | inr (inl four) ↦ absurd (kept ((e.told (inr four)).written.fault four))
  | inr (inr five) ↦ inr five
]

pub completes_text : (output : Output) (source source' : SourceView) (sink sink' : SinkView) (read : List ℕ) (end : RunEnd)
    → IsReadToEnd source source' read → EndsWriting output read sink sink' end → Completes output source source' sink sink' end
completes_text output source source' sink sink' read end to_end e = record {
  taken = λ bytes told suits quiet kept. quiet_status output read sink sink' end e kept;
  refused = λ bytes found told refused quiet. elim (suits_or_memory output source source' sink sink' bytes read end told to_end e) [
    | inl suits ↦ absurd (suits_or_refused output bytes found suits refused)
    | inr five ↦ inr five
  ];
  others = λ bytes told none quiet. elim (suits_or_memory output source source' sink sink' bytes read end told to_end e) [
    | inl suits ↦ absurd (none suits)
    | inr five ↦ inr five
  ];
  made = λ none kept. quiet_status output read sink sink' end e kept;
}

-- a summary was written, or memory ran out
pub completes_made : (seed : ℕ) (source : SourceView) (sink sink' : SinkView) (end : RunEnd) → (¬ Rose sink.faults sink'.faults → (end.status ≡ 0) ⊎ (end.status ≡ 5))
    → Completes (Summary seed) source source sink sink' end
completes_made seed source sink sink' end statuses = record {
  taken = λ bytes told suits quiet kept. statuses kept;
  refused = λ bytes found told refused quiet. absurd refused.0;
  others = λ bytes told none quiet. absurd (none tt);
  made = λ none kept. statuses kept;
}

pub completes_summary : (seed : ℕ) (source : SourceView) (sink sink' : SinkView) (bytes : List ℕ) (end : RunEnd) → EndsWriting (Summary seed) bytes sink sink' end
    → Completes (Summary seed) source source sink sink' end
completes_summary seed source sink sink' bytes end e = completes_made seed source sink sink' end (quiet_status (Summary seed) bytes sink sink' end e)
