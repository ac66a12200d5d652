use Rattle.std.proofs.Common.{◌≡◌, take}
use Rattle.std.specs.Prelude.{string_bytes}
use Rattle.cron_serve.specs.Watch.{watch_text}
use Rattle.cron_serve.proofs.watch.text_of.Given as goal

abbrev pub invariant-rows : goal.invariant-rows
invariant-rows l = string_bytes l.text ≡ watch_text (take l.row-index l.seen)
