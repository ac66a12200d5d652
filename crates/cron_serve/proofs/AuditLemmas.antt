-- How an audit ends, by what it found.
use Rattle.std.proofs.Common.{◌≡◌, ◌≢◌, ◌⊎◌, inl, inr, ℕ, ◌<◌, ◌≤◌, List, [], length, Option, Some, None, refl, sym, ap, ◌∙◌, subst, arith}
use Rattle.std.specs.Prelude.{IsSome, IsSomeAnd}
use Rattle.cron_io.specs.Faults.{Rose}
use Rattle.cron_io.specs.Reading.{HasReadOn, StaysReliable}
use Rattle.cron_io.specs.Views.{SourceView, SinkView}
use Rattle.cron_io.specs.Writing.{HasGained, HasGainedPrefix, HasTakenAll}
use Rattle.disk_model.specs.declared.mem_disk.MemDisk.{MemDisk}
use Rattle.replica_node.specs.declared.node.Node.{Node}
use Rattle.due_set.specs.Table.{Table}
use Rattle.world_law.specs.Book.{BookState}
use Rattle.run_text.specs.Run.{Run}
use Rattle.run_text.specs.declared.refusal.Refusal.{Refusal}
use Rattle.run_input.specs.Input.{IsRunWithTable}
use Rattle.run_input.proofs.VerdictLemmas.{taken_or_refused}
use Rattle.audit_text.proofs.SplitLemmas.{one_split}
use Rattle.audit_finding.specs.Finding.{AreAlike, IsRefusedPart, IsRefusedToAudit}
use Rattle.audit_finding.specs.declared.finding.Fault.{Fault}
use Rattle.audit_finding.specs.declared.finding.Finding.{Finding}
use Rattle.audit_finding.specs.declared.finding.Finding.TheVariants.{Passes, Fails}
use Rattle.audit_finding.proofs.OneLemmas.{found_or_refused, one_finding, one_refusal as one_refused}
use Rattle.cron_serve.specs.Audit.{CompletesAudit, EndsAudit, EndsTelling, HasRunToAudit, IsAudited, IsFoundOfInput, LeavesBookOf, IsRefusedAuditInput, IsRefusedByAudit, TellsFinding, audit_line, audit_status}
use Rattle.cron_serve.specs.Served.{EndsServing}
use Rattle.cron_serve.specs.Stop.{StopsFor, refusal_of, status_of}
use Rattle.cron_serve.specs.declared.run_end.RunEnd.{RunEnd}
use Rattle.cron_serve.specs.declared.stop.Stop.{Stop}
use Rattle.cron_serve.specs.declared.stop.Stop.TheVariants.{Usage, Refused, ReadFault, OutOfMemory}
use Rattle.program_options.specs.declared.words.Request.TheVariants.{Audit}
use Rattle.cron_serve.proofs.CompleteLemmas.{consumed, read_whole}
use Rattle.cron_serve.proofs.ServeLemmas.{EndsStopped, refused_by, rose_by, some_refused, stop_statuses}

-- ---- the line was written, or a front of it

-- the status is that of no fault
never_four : (finding : Finding) → audit_status finding ≢ 4
never_four (Passes book) four = absurd (omega (arith, four))
never_four (Fails line fault) four = absurd (omega (arith, four))

module _ (old new : SinkView) (finding : Finding) (end : RunEnd) (text : List ℕ) (is : text ≡ audit_line finding) (refusal : end.refusal ≡ None)
    (left : LeavesBookOf finding end.book end.nodes.items) where
  pub told_whole : end.status ≡ audit_status finding → HasGained old new text → HasGainedPrefix old new text → old.faults ≤ new.faults
      → ((room : ℕ) → old.room ≡ Some room → HasTakenAll room old new text) → EndsTelling old new finding end
  told_whole status gained prefix later taken = record {
    statuses = inl status;
    whole = λ _. subst (HasGained old new) is gained;
    front = subst (HasGainedPrefix old new) is prefix;
    later = later;
    fault = λ four. absurd (never_four finding (sym status ∙ four));
    taken = λ _ room tells. subst (HasTakenAll room old new) is (taken room tells);
    beyond = λ four room tells. absurd (never_four finding (sym status ∙ four));
    no_refusal = refusal;
    left = left;
  }

  pub told_front : end.status ≡ 4 → HasGainedPrefix old new text → old.faults ≤ new.faults → Rose old.faults new.faults
      → ((room : ℕ) → old.room ≡ Some room → room < length text) → EndsTelling old new finding end
  told_front status prefix later rose beyond = record {
    statuses = inr status;
    whole = λ other. absurd (never_four finding (sym other ∙ status));
    front = subst (HasGainedPrefix old new) is prefix;
    later = later;
    fault = λ four. rose;
    taken = λ other room tells. absurd (never_four finding (sym other ∙ status));
    beyond = λ four room tells. subst (λ (line : List ℕ). room < length line) is (beyond room tells);
    no_refusal = refusal;
    left = left;
  }

-- ---- how an audit ends that found something

none_refused : (refusal : Option Refusal) → refusal ≡ None → IsSome refusal → ⊥
none_refused None is some = absurd (cc)
none_refused (Some given) is some = absurd (cc)

-- no node is left, whatever was found
no_node_left : (finding : Finding) (book : BookState) (nodes : List (Node MemDisk)) → LeavesBookOf finding book nodes → nodes ≡ []
no_node_left (Passes passed) book nodes left = left.1
no_node_left (Fails line fault) book nodes left = left.no_node

module _ (source source' : SourceView) (sink sink' : SinkView) (end : RunEnd) where
  -- what was told of a finding, at its status
  told_at : (finding : Finding) → IsFoundOfInput source source' finding → EndsTelling sink sink' finding end → end.status ≡ audit_status finding
      → TellsFinding source source' sink sink' end.book end.nodes.items finding
  told_at finding found e status = record { found = found; gained = e.whole status; left = e.left; fits = λ room tells. e.taken status room tells }

  -- it passed
  passes_at : (finding : Finding) → IsFoundOfInput source source' finding → EndsTelling sink sink' finding end → end.status ≡ 0
      → TellsFinding source source' sink sink' end.book end.nodes.items (Passes end.book)
  passes_at (Passes passed) found e zero =
      subst (λ (book : BookState). TellsFinding source source' sink sink' end.book end.nodes.items (Passes book)) (sym e.left.0) (told_at (Passes passed) found e zero)
  passes_at (Fails line fault) found e zero = let statuses = e.statuses in absurd (omega (arith, statuses))

  -- it failed
  fails_at : (finding : Finding) → IsFoundOfInput source source' finding → EndsTelling sink sink' finding end → end.status ≡ 6
      → (line : ℕ) × (fault : Fault) × TellsFinding source source' sink sink' end.book end.nodes.items (Fails line fault)
  fails_at (Passes passed) found e six = let statuses = e.statuses in absurd (omega (arith, statuses))
  fails_at (Fails line fault) found e six = (line, fault, told_at (Fails line fault) found e six)

  three_statuses : (finding : Finding) → EndsTelling sink sink' finding end → (end.status ≡ 0) ⊎ (end.status ≡ 6) ⊎ (end.status ≡ 4)
  three_statuses (Passes passed) e = elim e.statuses [
    | inl zero ↦ inl zero
    | inr four ↦ inr (inr four)
  ]
  three_statuses (Fails line fault) e = elim e.statuses [
    | inl six ↦ inr (inl six)
    | inr four ↦ inr (inr four)
  ]

  pub ends_found : (finding : Finding) → IsFoundOfInput source source' finding → HasReadOn source source' → EndsTelling sink sink' finding end
      → EndsAudit source source' sink sink' end
  ends_found finding found read_on e =
      let statuses = three_statuses finding e in
      record {
        passes = λ zero. passes_at finding found e zero;
        fails = λ six. fails_at finding found e six;
        refused = λ two. absurd (omega (arith, statuses));
        refusal = (λ some. absurd (none_refused end.refusal e.no_refusal some), λ two. absurd (omega (arith, statuses)));
        read_fault = λ three. absurd (omega (arith, statuses));
        write_fault = λ four. e.fault four;
        front = λ four. (finding, record { found = found; front = e.front; left = e.left; exceeds = λ room tells. e.beyond four room tells });
        memory = λ five. absurd (omega (arith, statuses));
        statuses = omega (arith, statuses);
        nothing = λ least most. absurd (omega (arith, statuses, least, most));
        no_node = no_node_left finding end.book end.nodes.items e.left;
        read_on = read_on;
        later = e.later;
      }

-- ---- how it ends that stopped

pub audit_stopped : (source source' : SourceView) (sink : SinkView) (stop : Stop) (end : RunEnd) → EndsStopped stop end
    → HasReadOn source source' → StopsFor Audit source source' stop → EndsAudit source source' sink sink end
audit_stopped source source' sink stop end e read_on why =
    let is = e.status in
    let bounds = stop_statuses stop in
    let least = bounds.0 in
    let most = bounds.1 in
    let other = bounds.2 in
    record {
      passes = λ zero. absurd (omega arith);
      fails = λ six. absurd (omega arith);
      refused = λ two. refused_by Audit source source' stop end.refusal e.refusal why (omega arith);
      refusal = (
        λ some. is ∙ (some_refused stop).0 (subst (λ (r : Option Refusal). IsSome r) e.refusal some),
        λ two. subst (λ (r : Option Refusal). IsSome r) (sym e.refusal) ((some_refused stop).1 (sym is ∙ two)),
      );
      read_fault = λ three. rose_by Audit source source' stop why (omega arith);
      write_fault = λ four. absurd (other (omega arith));
      front = λ four. absurd (other (omega arith));
      memory = λ five. record { unwritten = refl; no_run = e.no_run };
      statuses = omega arith;
      nothing = λ from until. record { unwritten = refl; no_run = e.no_run };
      no_node = e.no_run.no_node;
      read_on = read_on;
      later = omega arith;
    }

-- ---- what is found of bytes

-- what is found of bytes is one, as far as its line and its status tell it
same_line : (a b : Finding) → AreAlike a b → (audit_status a ≡ audit_status b) × (audit_line a ≡ audit_line b)
same_line (Passes book) (Passes other) alike = (refl, refl)
same_line (Passes book) (Fails line fault) alike = absurd alike
same_line (Fails line fault) (Passes book) alike = absurd alike
same_line (Fails line fault) (Fails other another) alike = (refl, rw (alike.0, alike.1) refl)

pub one_line : (bytes : List ℕ) (a b : Finding) → IsAudited bytes a → IsAudited bytes b → (audit_status a ≡ audit_status b) × (audit_line a ≡ audit_line b)
one_line bytes a b first second = same_line a b (one_finding bytes a b first.short first.found second.found)

part_not_refused : (bytes : List ℕ) (run : Run) (table : Table) (refusal : Refusal) → IsRunWithTable bytes run table → IsRefusedPart bytes refusal → ⊥
part_not_refused bytes run table refusal taken (inl large) = let short = taken.short in let beyond = large.0 in omega (arith, short, beyond)
part_not_refused bytes run table refusal taken (inr why) = taken_or_refused bytes run table refusal taken why.1

pub found_not_refused : (bytes : List ℕ) (finding : Finding) (refusal : Refusal) → IsAudited bytes finding → IsRefusedAuditInput bytes refusal → ⊥
found_not_refused bytes finding refusal audited (inl large) = let short = audited.short in let beyond = large.0 in omega (arith, short, beyond)
found_not_refused bytes finding refusal audited (inr refused) = found_or_refused bytes finding refusal audited.found refused.1

pub taken_not_refused : (bytes : List ℕ) (refusal : Refusal) → HasRunToAudit bytes → IsRefusedAuditInput bytes refusal → ⊥
taken_not_refused bytes refusal has (inl large) = let short = has.short in let beyond = large.0 in omega (arith, short, beyond)
taken_not_refused bytes refusal has (inr (short, why)) =
    let parts = one_split bytes has.run_part has.report_part has.journal_part why.run_part why.report_part why.journal_part has.parts why.parts in
    part_not_refused why.run_part has.run has.table refusal (subst (λ (b : List ℕ). IsRunWithTable b has.run has.table) parts.0 has.taken) why.why

pub one_refusal : (bytes : List ℕ) (a b : Refusal) → IsRefusedAuditInput bytes a → IsRefusedAuditInput bytes b → a ≡ b
one_refusal bytes a b (inl (large, is)) (inl (also, other)) = is ∙ sym other
one_refusal bytes a b (inl (large, is)) (inr (short, why)) = absurd (omega arith)
one_refusal bytes a b (inr (short, why)) (inl (large, is)) = absurd (omega arith)
one_refusal bytes a b (inr (short, why)) (inr (also, other)) = one_refused bytes a b why other

-- the refusal of an input is that of the bytes that the source told
pub refused_audit_input : (source source' : SourceView) (bytes : List ℕ) (refusal : Refusal) → source.left ≡ Some bytes
    → IsRefusedByAudit source source' refusal → IsRefusedAuditInput bytes refusal
refused_audit_input source source' bytes refusal told (inl large) =
    let beyond = consumed source.left source'.left bytes large.taken.0 told large.taken.1 in
    let size = large.taken.2 in
    inl (omega arith, large.is)
refused_audit_input source source' bytes refusal told (inr other) =
    let read = read_whole source source' bytes other.bytes told other.read in
    inr (subst (λ (b : List ℕ). length b ≤ 67_108_864) read other.short, subst (λ (b : List ℕ). IsRefusedToAudit b refusal) read other.refused)

-- what is found of an input is found of these bytes
found_of_bytes : (source source' : SourceView) (bytes : List ℕ) (finding : Finding) → source.left ≡ Some bytes → IsFoundOfInput source source' finding → IsAudited bytes finding
found_of_bytes source source' bytes finding told found =
    subst (λ (b : List ℕ). IsAudited b finding) (read_whole source source' bytes found.bytes told found.read) found.audited

-- ---- what it has to end with

-- without a fault of the sink the line is written
quiet_line : (sink sink' : SinkView) (finding : Finding) (end : RunEnd) → EndsTelling sink sink' finding end → ¬ Rose sink.faults sink'.faults → end.status ≡ audit_status finding
quiet_line sink sink' finding end e quiet = elim e.statuses [
  | inl status ↦ status
  | inr four ↦ absurd (quiet (e.fault four))
]

quiet_status : (sink sink' : SinkView) (finding : Finding) (end : RunEnd) → EndsTelling sink sink' finding end → ¬ Rose sink.faults sink'.faults
    → (end.status ≡ 0) ⊎ (end.status ≡ 6) ⊎ (end.status ≡ 5)
quiet_status sink sink' (Passes passed) end e quiet = inl (quiet_line sink sink' (Passes passed) end e quiet)
quiet_status sink sink' (Fails line fault) end e quiet = inr (inl (quiet_line sink sink' (Fails line fault) end e quiet))

pub completes_found : (source source' : SourceView) (sink sink' : SinkView) (finding : Finding) (end : RunEnd) → IsFoundOfInput source source' finding
    → EndsTelling sink sink' finding end → CompletesAudit source source' sink sink' end
completes_found source source' sink sink' finding end found e = record {
  found = λ bytes other told audited quiet kept.
      let status = quiet_line sink sink' finding end e kept in
      let same = one_line bytes finding other (found_of_bytes source source' bytes finding told found) audited in
      inl (status ∙ same.0, subst (HasGained sink sink') same.1 (e.whole status));
  judged = λ bytes told has quiet kept. quiet_status sink sink' finding end e kept;
  refused = λ bytes refusal told refused quiet. absurd (found_not_refused bytes finding refusal (found_of_bytes source source' bytes finding told found) refused);
  others = λ bytes told none quiet. absurd (none finding (found_of_bytes source source' bytes finding told found));
}

module _ (source source' : SourceView) (status : ℕ) (refusal : Option Refusal) (bytes : List ℕ) (told : source.left ≡ Some bytes)
    (quiet : ¬ Rose source.faults source'.faults) where
  -- an input that isn't refused stops the audit only for want of memory
  stops_for_memory : (stop : Stop) → status ≡ status_of stop → StopsFor Audit source source' stop
      → ((given : Refusal) → IsRefusedAuditInput bytes given → ⊥) → status ≡ 5
  stops_for_memory Usage is why never = absurd why
  stops_for_memory (Refused given) is why never = absurd (never given (refused_audit_input source source' bytes given told why))
  stops_for_memory ReadFault is why never = absurd (quiet why)
  stops_for_memory OutOfMemory is why never = is

  -- a stop is a refusal or want of memory
  stops_refused : (stop : Stop) → status ≡ status_of stop → refusal ≡ refusal_of stop → StopsFor Audit source source' stop
      → IsSomeAnd refusal (IsRefusedAuditInput bytes) ⊎ (status ≡ 5)
  stops_refused Usage is given why = absurd why
  stops_refused (Refused found) is given why =
      inl (subst (λ (r : Option Refusal). IsSomeAnd r (IsRefusedAuditInput bytes)) (sym given) (refused_audit_input source source' bytes found told why))
  stops_refused ReadFault is given why = absurd (quiet why)
  stops_refused OutOfMemory is given why = inr is

  -- a stop is this refusal, where the input is refused for it
  stops_with : (stop : Stop) (found : Refusal) → status ≡ status_of stop → refusal ≡ refusal_of stop → StopsFor Audit source source' stop
      → IsRefusedAuditInput bytes found → (refusal ≡ Some found) ⊎ (status ≡ 5)
  stops_with Usage found is given why refused = absurd why
  stops_with (Refused other) found is given why refused =
      inl (given ∙ ap Some (one_refusal bytes other found (refused_audit_input source source' bytes other told why) refused))
  stops_with ReadFault found is given why refused = absurd (quiet why)
  stops_with OutOfMemory found is given why refused = inr is

pub completes_stopped_audit : (source source' : SourceView) (sink : SinkView) (stop : Stop) (end : RunEnd) → EndsStopped stop end
    → StopsFor Audit source source' stop → CompletesAudit source source' sink sink end
completes_stopped_audit source source' sink stop end e why = record {
  found = λ bytes finding told audited quiet kept. inr (stops_for_memory source source' end.status end.refusal bytes told quiet stop e.status why (λ given. found_not_refused bytes finding given audited));
  judged = λ bytes told has quiet kept. inr (inr (stops_for_memory source source' end.status end.refusal bytes told quiet stop e.status why (λ given. taken_not_refused bytes given has)));
  refused = λ bytes found told refused quiet. stops_with source source' end.status end.refusal bytes told quiet stop found e.status e.refusal why refused;
  others = λ bytes told none quiet. stops_refused source source' end.status end.refusal bytes told quiet stop e.status e.refusal why;
}

-- ---- the end, once the words ask for an audit

pub serving_found : (source source' : SourceView) (reliable reliable' : Type 0) (sink sink' : SinkView) (finding : Finding) (end : RunEnd)
    → IsFoundOfInput source source' finding → HasReadOn source source' → EndsTelling sink sink' finding end
    → (reliable → StaysReliable source source' reliable') → EndsServing Audit source source' reliable reliable' sink sink' end
serving_found source source' reliable reliable' sink sink' finding end found read_on e lasting =
    let statuses = three_statuses source source' sink sink' end finding e in
    record {
      ends = ends_found source source' sink sink' end finding found read_on e;
      complete = completes_found source source' sink sink' finding end found e;
      words = λ one. absurd (omega (arith, one, statuses));
      no_read_fault = λ sure three. absurd (omega (arith, three, statuses));
      lasting = lasting;
    }
