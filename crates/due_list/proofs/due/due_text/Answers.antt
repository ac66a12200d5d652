use Rattle.std.proofs.Common.{string_bytes}
use Rattle.due_list.proofs.LineLemmas.{due_text_is}
use Rattle.due_list.proofs.due.due_text.Goals as goal

pub returns : goal.returns
returns c =
    due_text_is c.args.table.now (string_bytes c.in_ok-text.text) (string_bytes c.put_versions.new.into) (string_bytes c.push_str.new.self) c.in_ok-text.ensures.ok c.in_ok-put_versions.ensures c.in_ok-push_str.ensures.bytes
