use Rattle.std.proofs.Common.{string_bytes}
use Rattle.generated_run.proofs.LoopLemmas.{state_first}
use Rattle.generated_run.proofs.PartLemmas.{whole_put}
use Rattle.generated_run.proofs.make.make_run.Goals as goal

pub returns : goal.returns
returns c =
    let seed = c.args.seed in
    let first = state_first seed c.new-draws.result.state c.new-draws.ensures in
    let hours = c.in_ok-put_hours.ensures.drawn seed first in
    let days = c.in_ok-put_days.ensures.drawn seed hours in
    record {
      made = whole_put seed (string_bytes c.new-text.result) (string_bytes c.put_head.new.into) (string_bytes c.put_hours.new.into) (string_bytes c.put_days.new.into) (string_bytes c.push_str.new.self)
          (string_bytes c.put_parts.new.into) (string_bytes c.push_str-2.new.self) c.new-text.ensures.bytes c.in_ok-put_head.ensures (c.in_ok-put_hours.ensures.put seed first)
          (c.in_ok-put_days.ensures.put seed hours) c.in_ok-push_str.ensures.bytes (c.in_ok-put_parts.ensures seed days) c.in_ok-push_str-2.ensures.bytes;
    }
