-- From what was written to what the program says of its end.
use Rattle.std.proofs.Common.{◌≡◌, ◌≢◌, ◌⊎◌, inl, inr, ℕ, ◌≤◌, ◌↔◌, List, [], ◌∷◌, ◌++◌, length, map, Option, None, Some, Result, Ok, Err, refl, sym, ap, ◌∙◌, subst, arith}
use Rattle.std.specs.Prelude.{Bool, IfErr, IsErrAnd, IsSome, IsSomeAnd, false, if◌then◌else◌, true}
use Rattle.std.specs.Io.KnownBytes.{Consumes}
use Rattle.std.proofs.lemmas.List.{append-nil}
use Rattle.cron_io.specs.Faults.{Rose}
use Rattle.cron_io.specs.Reading.{HasReadOn, IsReadToEnd, StaysReliable}
use Rattle.cron_io.specs.Views.{SourceView, SinkView}
use Rattle.cron_io.specs.Writing.{HasGained, HasGainedPrefix}
use Rattle.disk_model.specs.declared.mem_disk.MemDisk.{MemDisk}
use Rattle.due_set.specs.Table.{Table}
use Rattle.replica_node.specs.declared.node.Node.{Node}
use Rattle.history.specs.Some.{no_jobs}
use Rattle.world_law.specs.Book.{BookState, posted_as}
use Rattle.world_law.proofs.Called.{held_at_rest, late_at_rest}
use Rattle.report_text.specs.Book.{IsBookReport}
use Rattle.journal_text.specs.Starts.{IsBookJournal}
use Rattle.script_semantics.specs.Starts.{AreStarts}
use Rattle.journal_text.specs.Journal.{journal_text}
use Rattle.journal_text.specs.Summary.{IsBookSummary}
use Rattle.journal_text.proofs.StartLemmas.{book_starts}
use Rattle.script_play.specs.Play.{HasStarts}
use Rattle.script_play.specs.declared.seen.Seen.{Seen}
use Rattle.script_text.specs.declared.command.Command.{Command}
use Rattle.report_text.specs.Writes.{Writes}
use Rattle.report_text.specs.declared.fault.ReportFault.{ReportFault}
use Rattle.report_text.specs.declared.fault.ReportFault.TheVariants as report
use Rattle.due_list.specs.Listing.{WritesListing}
use Rattle.due_list.specs.declared.fault.ListFault.{ListFault}
use Rattle.due_list.specs.declared.fault.ListFault.TheVariants as listing
use Rattle.cron_serve.specs.Complete.{Completes}
use Rattle.cron_serve.specs.Ends.{Ends, EndsUnread}
use Rattle.cron_serve.specs.Served.{CompletesFor, EndsFor, EndsServing}
use Rattle.cron_serve.specs.Serve.{StandsIfAsked, IsGiven, IsReportOf, IsRunOf, IsSummaryOf, IsTextOf, LeavesNoRun}
use Rattle.cron_serve.specs.Input.{IsOfInput, IsRefusedBytes}
use Rattle.cron_serve.specs.Played.{HasWatched}
use Rattle.cron_serve.specs.Stop.{IsRefusedFor, StopsFor, refusal_of, status_of, stop_of_run}
use Rattle.cron_serve.specs.Watch.{IsBookWatch, watch_text}
use Rattle.cron_serve.specs.Written.{EndsRunText, EndsWriting, WritesAtStatus, WritesTextOf, status_of_listing, status_of_writing}
use Rattle.program_options.specs.declared.words.Output.{Output}
use Rattle.program_options.specs.declared.words.Output.TheVariants.{Report, DueList, Check, Summary}
use Rattle.program_options.specs.declared.words.Request.{Request}
use Rattle.program_options.specs.declared.words.Request.TheVariants.{Text}
use Rattle.run_text.specs.Steps.{IfRefused}
use Rattle.run_text.specs.declared.refusal.Refusal.{Refusal}
use Rattle.run_text.specs.declared.refusal.RunFault.{RunFault}
use Rattle.run_text.specs.declared.refusal.RunFault.TheVariants as run
use Rattle.cron_serve.specs.declared.run_end.RunEnd.{RunEnd}
use Rattle.cron_serve.specs.declared.stop.Stop.{Stop}
use Rattle.cron_serve.specs.declared.stop.Stop.TheVariants.{Usage, Refused, ReadFault, OutOfMemory}

-- the exit of a `?` with an input that is refused, or for want of memory
pub stops_for_input : {T : Type 0} (output : Output) (source source' : SourceView) (bytes : List ℕ) (fault : RunFault) (result : Result T Stop) → IsOfInput output
    → IsErrAnd result (λ stop. stop ≡ stop_of_run fault) → IsReadToEnd source source' bytes → length bytes ≤ 1_048_576
    → IfRefused fault (IsRefusedBytes output bytes) → IfErr result (StopsFor (Text output) source source')
stops_for_input output source source' bytes fault (Ok value) of is read short why = tt
stops_for_input output source source' bytes (run.Refused refusal) (Err stop) of is read short why =
    subst (StopsFor (Text output) source source') (sym is) (of, inr (record { bytes = bytes; read = read; short = short; refused = why }))
stops_for_input output source source' bytes run.OutOfMemory (Err stop) of is read short why = subst (StopsFor (Text output) source source') (sym is) tt

-- what was written whole is a front of itself
prefix_of_whole : (old new : SinkView) (text : List ℕ) → HasGained old new text → HasGainedPrefix old new text
prefix_of_whole old new text gained = record { front = text; back = []; parts = sym (append-nil text); gained = gained }

-- what was written, at the status of the writing's end
written_at : (old new : SinkView) (result : Result (Unit {0}) ReportFault) (status : ℕ) (text : List ℕ) → status ≡ status_of_writing result
    → Writes old new result text → WritesAtStatus old new status text
written_at old new (Ok done) status text is w = record {
  whole = λ _. w.written;
  front = w.front;
  later = w.later;
  fault = λ four. absurd (omega (arith, is));
  taken = λ _ room tells_room. w.taken room tells_room;
  beyond = λ four room tells_room. absurd (omega (arith, is));
}
written_at old new (Err report.WriteFault) status text is w = record {
  whole = λ none. absurd (omega (arith, is));
  front = w.front;
  later = w.later;
  fault = λ _. w.fault refl;
  taken = λ none room tells_room. absurd (omega (arith, is));
  beyond = λ _ room tells_room. w.beyond room tells_room refl;
}
written_at old new (Err report.OutOfMemory) status text is w = record {
  whole = λ none. absurd (omega (arith, is));
  front = w.front;
  later = w.later;
  fault = λ four. absurd (omega (arith, is));
  taken = λ none room tells_room. absurd (omega (arith, is));
  beyond = λ four room tells_room. absurd (omega (arith, is));
}

three_statuses : (result : Result (Unit {0}) ReportFault) (status : ℕ) → status ≡ status_of_writing result → (status ≡ 0) ⊎ (status ≡ 4) ⊎ (status ≡ 5)
three_statuses (Ok done) status is = inl is
three_statuses (Err report.WriteFault) status is = inr (inl is)
three_statuses (Err report.OutOfMemory) status is = inr (inr is)

-- how the program ends after the writing of a run's text
pub run_ended : (old new : SinkView) (result : Result (Unit {0}) ReportFault) (book : BookState) (nodes : List (Node MemDisk)) (end : RunEnd) (text : List ℕ)
    → end.status ≡ status_of_writing result → end.book ≡ book → end.nodes.items ≡ nodes → end.refusal ≡ None → Writes old new result text
    → EndsRunText old new book nodes end text
run_ended old new result book nodes end text status same_book same_nodes no_refusal w = record {
  written = written_at old new result end.status text status w;
  same_book = same_book;
  same_nodes = same_nodes;
  no_refusal = no_refusal;
  statuses = three_statuses result end.status status;
}

ends_run : (output : Output) (bytes : List ℕ) (sink sink' : SinkView) (book : BookState) (nodes : List (Node MemDisk)) (end : RunEnd) (text : List ℕ)
    → IsTextOf output bytes book nodes text → EndsRunText sink sink' book nodes end text → EndsWriting output bytes sink sink' end
ends_run output bytes sink sink' book nodes end text of e =
    let is : IsTextOf output bytes end.book end.nodes.items text =
    subst (λ (b : BookState). IsTextOf output bytes b end.nodes.items text) (sym e.same_book)
    (subst (λ (n : List (Node MemDisk)). IsTextOf output bytes book n text) (sym e.same_nodes) of) in
    let writes : WritesTextOf output bytes sink sink' end.status end.book end.nodes.items = record { text = text; is = is; written = e.written } in
    record {
      statuses = e.statuses;
      no_refusal = e.no_refusal;
      later = e.written.later;
      told = λ some. writes;
      memory = λ five. inr writes;
    }

-- a journal may be written of a run
pub may_start : (bytes : List ℕ) (table : Table) (book : BookState) (nodes : List (Node MemDisk)) (starts : List ℕ) (run : IsRunOf bytes table book nodes)
    → HasStarts table run.run.commands book starts → AreStarts (length book.turns) starts × IsBookJournal table run.run.commands book (journal_text table book.turns starts)
may_start bytes table book nodes starts run has = book_starts table run.run.commands book has.rows starts has.behind has.begin

watched_is : (watch : Bool) (table : Table) (script : List Command) (book : BookState) (starts : List ℕ) (seen : List Seen) → HasWatched watch table script book starts seen
    → StandsIfAsked watch (IsBookWatch table script book) (watch_text seen)
watched_is true table script book starts seen has = record { starts = starts; seen = seen; has = has; text_is = refl }
watched_is false table script book starts seen none = ap watch_text none

told_is : (journal : Bool) (table : Table) (script : List Command) (book : BookState) (text : List ℕ) → IsBookJournal table script book text
    → StandsIfAsked journal (IsBookJournal table script book) (if journal then text else [])
told_is true table script book text is = is
told_is false table script book text is = refl

pub ends_report : (watch journal : Bool) (bytes : List ℕ) (sink sink' : SinkView) (table : Table) (book : BookState) (nodes : List (Node MemDisk)) (starts : List ℕ) (seen : List Seen)
    (end : RunEnd) (front : List ℕ) (run : IsRunOf bytes table book nodes) → HasStarts table run.run.commands book starts
    → HasWatched watch table run.run.commands book starts seen → IsBookReport table book front
    → EndsRunText sink sink' book nodes end (front ++ (watch_text seen ++ (if journal then journal_text table book.turns starts else [])))
    → EndsWriting (Report watch journal) bytes sink sink' end
ends_report watch journal bytes sink sink' table book nodes starts seen end front run has watched report e =
    let third = if journal then journal_text table book.turns starts else [] in
    let of : IsReportOf watch journal bytes book nodes (front ++ (watch_text seen ++ third)) = record {
      table = table;
      run = run;
      first = front;
      second = watch_text seen;
      third = third;
      parts = refl;
      report = report;
      watched = watched_is watch table run.run.commands book starts seen watched;
      told = told_is journal table run.run.commands book (journal_text table book.turns starts) (may_start bytes table book nodes starts run has).1;
    } in
    ends_run (Report watch journal) bytes sink sink' book nodes end (front ++ (watch_text seen ++ third)) of e

pub ends_summary : (seed : ℕ) (bytes : List ℕ) (sink sink' : SinkView) (table : Table) (book : BookState) (nodes : List (Node MemDisk)) (end : RunEnd) (text : List ℕ)
    → IsRunOf bytes table book nodes → IsBookSummary table seed book text → EndsRunText sink sink' book nodes end text → EndsWriting (Summary seed) bytes sink sink' end
ends_summary seed bytes sink sink' table book nodes end text run summary e =
    let of : IsSummaryOf seed bytes book nodes text = record { table = table; run = run; summary = summary } in
    ends_run (Summary seed) bytes sink sink' book nodes end text of e

-- a list was written whole, or a front of it, or nothing
pub ends_listing : (output : Output) (bytes : List ℕ) (sink sink' : SinkView) (result : Result (Unit {0}) ListFault) (Is : List ℕ → Type 0) (end : RunEnd)
    → ((text : List ℕ) → Is text → IsTextOf output bytes end.book end.nodes.items text) → WritesListing sink sink' result Is
    → end.status ≡ status_of_listing result → end.refusal ≡ None → LeavesNoRun end.book end.nodes.items → EndsWriting output bytes sink sink' end
ends_listing output bytes sink sink' (Ok done) Is end of w status refusal no_run =
    let whole = w.written in
    record {
      statuses = inl status;
      no_refusal = refusal;
      later = w.later;
      told = λ is. record {
        text = whole.text;
        is = of whole.text whole.is;
        written = record {
          whole = λ none. whole.gained;
          front = prefix_of_whole sink sink' whole.text whole.gained;
          later = w.later;
          fault = λ four. absurd (omega arith);
          taken = λ none room tells. whole.taken room tells;
          beyond = λ four room tells. absurd (omega arith);
        };
      };
      memory = λ five. absurd (omega arith);
    }
ends_listing output bytes sink sink' (Err listing.WriteFault) Is end of w status refusal no_run =
    let front = w.front refl in
    record {
      statuses = inr (inl status);
      no_refusal = refusal;
      later = w.later;
      told = λ is. record {
        text = front.text;
        is = of front.text front.is;
        written = record {
          whole = λ none. absurd (omega arith);
          front = front.front;
          later = w.later;
          fault = λ four. front.rose;
          taken = λ none room tells. absurd (omega arith);
          beyond = λ four room tells. front.beyond room tells;
        };
      };
      memory = λ five. absurd (omega arith);
    }
ends_listing output bytes sink sink' (Err listing.OutOfMemory) Is end of w status refusal no_run = record {
  statuses = inr (inr status);
  no_refusal = refusal;
  later = w.later;
  told = λ is. absurd (omega (arith, is));
  memory = λ five. inl (record { unwritten = w.nothing refl; no_run = no_run });
}

no_some : {T : Type 0} (o : Option T) → o ≡ None → IsSome o → ⊥
no_some None is some = absurd (cc)
no_some (Some x) is some = absurd (cc)

-- the text was written of the bytes that were given
pub ends_text : (output : Output) (source source' : SourceView) (sink sink' : SinkView) (bytes : List ℕ) (end : RunEnd)
    → IsGiven output source source' bytes → HasReadOn source source' → EndsWriting output bytes sink sink' end → Ends output source source' sink sink' end
ends_text output source source' sink sink' bytes end given read_on e =
    let statuses = e.statuses in
    record {
      text = λ is.
          let t = e.told (inl is) in
          (t.text, record { bytes = bytes; given = given; is = t.is }, t.written.whole is);
      refused = λ is. absurd (omega (arith, statuses));
      refusal = (λ some. absurd (no_some end.refusal e.no_refusal some), λ is. absurd (omega (arith, statuses)));
      read_fault = λ is. absurd (omega (arith, statuses));
      write_fault = λ is. (e.told (inr is)).written.fault is;
      front = λ is.
          let t = e.told (inr is) in
          (t.text, record { bytes = bytes; given = given; is = t.is }, t.written.front);
      memory = λ is. elim (e.memory is) [
        | inl none ↦ inl none
        | inr some ↦ inr (some.text, record { bytes = bytes; given = given; is = some.is }, some.written.front)
      ];
      statuses = omega (arith, statuses);
      nothing = λ least most. absurd (omega (arith, statuses));
      read_on = read_on;
      later = e.later;
      fits = λ is room tells.
          let t = e.told (inl is) in
          record { text = t.text; of_input = record { bytes = bytes; given = given; is = t.is }; gained = t.written.whole is; taken = t.written.taken is room tells };
      exceeds = λ is room tells.
          let t = e.told (inr is) in
          record { text = t.text; of_input = record { bytes = bytes; given = given; is = t.is }; front = t.written.front; beyond = t.written.beyond is room tells };
    }

-- an input that was read to its end was given
pub given_by_reading : (output : Output) (source source' : SourceView) (bytes : List ℕ) → IsOfInput output → IsReadToEnd source source' bytes → IsGiven output source source' bytes
given_by_reading (Report watch journal) source source' bytes of read = read
given_by_reading DueList source source' bytes of read = read
given_by_reading Check source source' bytes of read = read
given_by_reading (Summary seed) source source' bytes of read = absurd of

none_consumed : (left : Option (List ℕ)) → Consumes left left []
none_consumed None = tt
none_consumed (Some bytes) = refl

-- where nothing was read, nothing was taken
pub none_read : (source : SourceView) → HasReadOn source source
none_read source = record { taken = ([], none_consumed source.left); later = omega arith }

-- the refusal that a stop hands on
pub refused_by : (request : Request) (source source' : SourceView) (stop : Stop) (refusal : Option Refusal) → refusal ≡ refusal_of stop
    → StopsFor request source source' stop → status_of stop ≡ 2 → IsSomeAnd refusal (IsRefusedFor request source source')
refused_by request source source' Usage refusal is why two = absurd (omega arith)
refused_by request source source' (Refused given) refusal is why two = subst (λ (r : Option Refusal). IsSomeAnd r (IsRefusedFor request source source')) (sym is) why
refused_by request source source' ReadFault refusal is why two = absurd (omega arith)
refused_by request source source' OutOfMemory refusal is why two = absurd (omega arith)

pub some_refused : (stop : Stop) → IsSome (refusal_of stop) ↔ (status_of stop ≡ 2)
some_refused Usage = (λ some. absurd (cc), λ two. absurd (omega arith))
some_refused (Refused given) = (λ some. refl, λ two. refl)
some_refused ReadFault = (λ some. absurd (cc), λ two. absurd (omega arith))
some_refused OutOfMemory = (λ some. absurd (cc), λ two. absurd (omega arith))

pub rose_by : (request : Request) (source source' : SourceView) (stop : Stop) → StopsFor request source source' stop → status_of stop ≡ 3
    → Rose source.faults source'.faults
rose_by request source source' Usage why three = absurd (omega arith)
rose_by request source source' (Refused given) why three = absurd (omega arith)
rose_by request source source' ReadFault why three = why
rose_by request source source' OutOfMemory why three = absurd (omega arith)

pub stop_statuses : (stop : Stop) → (1 ≤ status_of stop) × (status_of stop ≤ 5) × (status_of stop ≢ 4)
stop_statuses Usage = (omega arith, omega arith, λ four. omega arith)
stop_statuses (Refused given) = (omega arith, omega arith, λ four. omega arith)
stop_statuses ReadFault = (omega arith, omega arith, λ four. omega arith)
stop_statuses OutOfMemory = (omega arith, omega arith, λ four. omega arith)

-- what the end of a program says that stopped
pub record EndsStopped (stop : Stop) (end : RunEnd) : Type 0 where
  pub status : end.status ≡ status_of stop
  pub refusal : end.refusal ≡ refusal_of stop
  pub no_run : LeavesNoRun end.book end.nodes.items

-- a stop leaves the sink as it was
pub ends_stopped : (output : Output) (source source' : SourceView) (sink : SinkView) (stop : Stop) (end : RunEnd) → EndsStopped stop end
    → HasReadOn source source' → StopsFor (Text output) source source' stop → Ends output source source' sink sink end
ends_stopped output source source' sink stop end e read_on why =
    let is = e.status in
    let bounds = stop_statuses stop in
    let least = bounds.0 in
    let most = bounds.1 in
    let other = bounds.2 in
    record {
      text = λ none. absurd (omega arith);
      refused = λ two. refused_by (Text output) source source' stop end.refusal e.refusal why (omega arith);
      refusal = (
        λ some. is ∙ (some_refused stop).0 (subst (λ (r : Option Refusal). IsSome r) e.refusal some),
        λ two. subst (λ (r : Option Refusal). IsSome r) (sym e.refusal) ((some_refused stop).1 (sym is ∙ two)),
      );
      read_fault = λ three. rose_by (Text output) source source' stop why (omega arith);
      write_fault = λ four. absurd (other (omega arith));
      front = λ four. absurd (other (omega arith));
      memory = λ five. inl (record { unwritten = refl; no_run = e.no_run });
      statuses = omega arith;
      nothing = λ from until. record { unwritten = refl; no_run = e.no_run };
      read_on = read_on;
      later = omega arith;
      fits = λ none. absurd (omega arith);
      exceeds = λ four. absurd (other (omega arith));
    }

-- faulty words: nothing was read
pub ends_unread : (source : SourceView) (sink : SinkView) (end : RunEnd) → EndsStopped Usage end → EndsUnread source source sink sink end
ends_unread source sink end e = record { unread = refl; unwritten = refl; no_refusal = e.refusal; no_run = e.no_run }

-- the end of a run that was made, over any source: nothing of it was read
pub serving_made : (output : Output) (source : SourceView) (reliable : Type 0) (sink sink' : SinkView) (end : RunEnd) → Ends output source source sink sink' end
    → Completes output source source sink sink' end → (end.status ≡ 0) ⊎ (end.status ≡ 4) ⊎ (end.status ≡ 5)
    → EndsServing (Text output) source source reliable reliable sink sink' end
serving_made output source reliable sink sink' end ends complete statuses = record {
  ends = ends;
  complete = complete;
  words = λ is. absurd (omega (arith, statuses));
  no_read_fault = λ sure is. absurd (omega (arith, statuses));
  lasting = λ sure. record { quiet = refl; still = sure };
}

-- without a fault of a read no stop has the status of one
not_read_fault : (stop : Stop) → ¬ (stop ≡ ReadFault) → status_of stop ≢ 3
not_read_fault Usage other three = absurd (omega arith)
not_read_fault (Refused given) other three = absurd (omega arith)
not_read_fault ReadFault other three = other refl
not_read_fault OutOfMemory other three = absurd (omega arith)

-- words that ask for something are not at fault
not_usage : (request : Request) (source source' : SourceView) (stop : Stop) → StopsFor request source source' stop → status_of stop ≢ 1
not_usage request source source' Usage why one = why
not_usage request source source' (Refused given) why one = absurd (omega arith)
not_usage request source source' ReadFault why one = absurd (omega arith)
not_usage request source source' OutOfMemory why one = absurd (omega arith)

-- the end at a stop, once the words ask for this
pub serving_stopped : (request : Request) (source source' : SourceView) (reliable reliable' : Type 0) (sink : SinkView) (stop : Stop) (end : RunEnd)
    → EndsStopped stop end → EndsFor request source source' sink sink end → CompletesFor request source source' sink sink end
    → StopsFor request source source' stop → (reliable → ¬ (stop ≡ ReadFault))
    → (reliable → StaysReliable source source' reliable') → EndsServing request source source' reliable reliable' sink sink end
serving_stopped request source source' reliable reliable' sink stop end e ends complete why other lasting = record {
  ends = ends;
  complete = complete;
  words = λ one. not_usage request source source' stop why (sym e.status ∙ one);
  no_read_fault = λ sure three. not_read_fault stop (other sure) (sym e.status ∙ three);
  lasting = lasting;
}

none_mapped : {X Y : Type 0} (f : X → Y) (xs : List X) → map f xs ≡ [] → xs ≡ []
none_mapped f [] none = refl
none_mapped f (x ∷ xs) none = absurd (cc)

-- where no run is left, nothing of one is
pub is_empty : (book : BookState) (nodes : List (Node MemDisk)) → LeavesNoRun book nodes
    → (book.turns ≡ []) × (book.letters ≡ []) × (book.ledger.held ≡ []) × (book.ledger.late ≡ []) × (nodes ≡ [])
is_empty book nodes none =
    let behind = none.no_turn no_jobs in
    (behind.turns, none_mapped posted_as book.letters behind.letters, held_at_rest no_jobs [] book none.no_call behind, late_at_rest no_jobs [] book none.no_call behind, none.no_node)
