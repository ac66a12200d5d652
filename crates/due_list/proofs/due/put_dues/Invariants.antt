use Rattle.std.proofs.Common.{◌≡◌, ◌++◌, map, take, string_bytes}
use Rattle.jiff.specs.Types.{TimeZone}
use Rattle.due_set.specs.Table.{Job, IsJobIn}
use Rattle.cron_io.specs.Lines.{text_of_lines}
use Rattle.due_list.specs.DueText.{due_line}
use Rattle.due_list.proofs.due.put_dues.Given as goal

abbrev pub invariant-loop-at : goal.invariant-loop-at
invariant-loop-at l =
    (j : Job) (zone : TimeZone) → IsJobIn l.table l.version l.job j zone
    → string_bytes l.into ≡ string_bytes l.fn.into ++ text_of_lines (map (λ at. due_line l.table l.job zone at.0) (take l.at-index l.dues))
