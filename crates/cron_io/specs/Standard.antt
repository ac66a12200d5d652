-- The readers and writers of std as sources and sinks, and what such an adapter owes.
use Rattle.std.specs.Prelude.{◌≡◌, ℕ, suc, zero, Option, None, Some, Result, OnOk, OnErr}
use Rattle.std.specs.Result.{result_ok}
use Rattle.cron_io.specs.declared.asked.Asked.{Asked}
use Rattle.cron_io.specs.declared.standard.StdSource.{StdSource}
use Rattle.cron_io.specs.declared.standard.StdSink.{StdSink}
use Rattle.cron_io.specs.Faults.{next_count}

-- how often a reader or a writer was asked, and what it answered last: a number of bytes, or None for an error
pub record Asking : Type 0 where
  pub calls : ℕ
  pub last : Option ℕ

-- how often a reader or a writer was asked, and what it was asked last
abbrev pub asking_of : {T : Type 0} → Asked T → Asking
asking_of asked = record { calls = asked.calls; last = asked.last }

-- it was asked once more, and answered so
abbrev pub WasAskedOnce : Asking → Asking → Option ℕ → Type 0
WasAskedOnce old new answer = (new.calls ≡ next_count old.calls) × (new.last ≡ answer)

-- What an adapter owes: it asks once and hands that answer on, and each error that it tells is one fault more, and no other
-- call is.
pub record HandsOn {E : Type 0} (old new : Asking) (faults_old faults_new : ℕ) (answer : Option ℕ → Option ℕ) (result : Result ℕ E) : Type 0 where
  pub once : new.calls ≡ next_count old.calls
  pub told : result_ok result ≡ answer new.last
  pub quiet : OnOk result (faults_new ≡ faults_old)
  pub counted : OnErr result (faults_new ≡ next_count faults_old)

-- the answer of a reader, as it is
abbrev pub count_read : Option ℕ → Option ℕ
count_read answer = answer

-- the answer of a writer: one that takes no byte is no success
abbrev pub count_written : Option ℕ → Option ℕ
count_written None = None
count_written (Some zero) = None
count_written (Some (suc count)) = Some (suc count)

-- what a source of the standard library was asked
abbrev pub source_asking : {R : Type 0} → StdSource R → Asking
source_asking source = asking_of source.reader

-- how many faults such a source has counted
abbrev pub source_faults : {R : Type 0} → StdSource R → ℕ
source_faults source = source.faults

-- what a sink of the standard library was asked
abbrev pub sink_asking : {W : Type 0} → StdSink W → Asking
sink_asking sink = asking_of sink.writer

-- how many faults such a sink has counted
abbrev pub sink_faults : {W : Type 0} → StdSink W → ℕ
sink_faults sink = sink.faults
