-- What is seen of the source and the sink in memory.
use Rattle.std.specs.Prelude.{◌≡◌, ℕ, List, [], ◌∷◌, Option, Some, None, drop}
use Rattle.cron_io.specs.Views.{SourceView, SinkView}
use Rattle.cron_io.specs.declared.memory.MemSource.{MemSource}
use Rattle.cron_io.specs.declared.memory.MemSink.{MemSink}

-- the bytes that are left
abbrev pub source_left : MemSource → List ℕ
source_left source = drop source.at source.bytes.items

-- the numbers of the reads that fail
abbrev pub source_fails : MemSource → List ℕ
source_fails source = source.fails.items

-- the number of the next read
abbrev pub source_calls : MemSource → ℕ
source_calls source = source.calls

-- how many reads have failed
abbrev pub source_faults : MemSource → ℕ
source_faults source = source.faults

-- what is seen of it: it tells its bytes
abbrev pub source_seen : MemSource → SourceView
source_seen source = record { left = Some (source_left source); faults = source_faults source }

-- no read fails from here on
abbrev pub NeverFails : MemSource → Type 0
NeverFails source = source_fails source ≡ []

-- what was written
abbrev pub sink_bytes : MemSink → List ℕ
sink_bytes sink = sink.bytes.items

-- how many bytes there is room for
abbrev pub sink_room : MemSink → ℕ
sink_room sink = sink.room

-- the numbers of the writes that fail
abbrev pub sink_fails : MemSink → List ℕ
sink_fails sink = sink.fails.items

-- the number of the next write
abbrev pub sink_calls : MemSink → ℕ
sink_calls sink = sink.calls

-- how many writes have failed
abbrev pub sink_faults : MemSink → ℕ
sink_faults sink = sink.faults

-- the room, where no write is to fail
abbrev pub room_unless : List ℕ → ℕ → Option ℕ
room_unless [] room = Some room
room_unless (_ ∷ _) room = None

-- how many bytes it still takes, where that is all that its answers turn on
abbrev pub sink_told : MemSink → Option ℕ
sink_told sink = room_unless (sink_fails sink) (sink_room sink)

-- what is seen of it: it tells its bytes, and its room where no write is to fail
abbrev pub sink_seen : MemSink → SinkView
sink_seen sink = record { written = Some (sink_bytes sink); faults = sink_faults sink; room = sink_told sink }
