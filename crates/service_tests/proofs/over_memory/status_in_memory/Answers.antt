use Rattle.std.proofs.Common.{ap, ◌∙◌, Some, false}
use Rattle.cron_io.specs.Memory.{room_unless}
use Rattle.cron_serve.specs.Input.{IsRefusedInput}
use Rattle.program_options.specs.Words.{texts_of}
use Rattle.program_options.specs.declared.words.Output.TheVariants.{Report}
use Rattle.program_options.proofs.WordLemmas.{asks_report}
use Rattle.service_tests.proofs.OverMemoryLemmas.{EndsOverMemory, ends_whole, ends_cut, ends_refused, not_risen}
use Rattle.service_tests.proofs.over_memory.status_in_memory.Goals as goal

pub returns : goal.returns
returns g c =
    let end = c.cron_cluster-end.ensures in
    let source = c.new-source.ensures in
    let sink = c.in_ok-sink.ensures in
    let sure = source.fails ∙ c.new.ensures.items in
    let told = ap (λ fails. room_unless fails c.in_ok-sink.sink.room) (sink.fails ∙ c.new-2.ensures.items) ∙ ap Some sink.room in
    let asked = asks_report _ (ap texts_of (c.into_iter-words.ensures.rest ∙ c.new-4.ensures.items)) in
    let over_memory : EndsOverMemory _ _ _ _ c.args.bytes.items c.args.room c.cron_cluster-end.result = record {
      has = ap Some source.left;
      has_room = told;
      usage = λ e. end.usage.0 e asked.0 asked.1;
      reliable = end.no_read_fault sure;
      ends = end.ends _ asked;
    } in
    record {
      fits = λ run table taken. ends_whole _ _ _ _ _ _ _ over_memory run table taken;
      exceeds = λ run table taken. ends_cut _ _ _ _ _ _ _ over_memory run table taken;
      refused = λ none.
          ends_refused _ _ _ _ c.cron_cluster-end.result (IsRefusedInput (Report false false) c.args.bytes.items) (end.ends _ asked)
          ((end.complete _ asked).others _ (ap Some source.left) none (not_risen _ _ (end.lasting sure).quiet source.faults));
    }
