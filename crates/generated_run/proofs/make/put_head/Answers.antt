use Rattle.std.proofs.Common.{string_bytes}
use Rattle.generated_run.proofs.PartLemmas.{head_put}
use Rattle.generated_run.proofs.make.put_head.Goals as goal

pub returns : goal.returns
returns c =
    head_put (string_bytes c.args.into.now) (string_bytes c.push_str.new.self) (string_bytes c.write_stamp.new.into) (string_bytes c.push_str-2.new.self) (string_bytes c.write_stamp-2.new.into)
    (string_bytes c.push_str-3.new.self) c.in_ok-push_str.ensures.bytes c.in_ok-write_stamp.ensures.ok c.in_ok-push_str-2.ensures.bytes c.in_ok-write_stamp-2.ensures.ok c.in_ok-push_str-3.ensures.bytes
