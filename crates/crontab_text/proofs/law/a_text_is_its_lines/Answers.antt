use Rattle.crontab_text.proofs.LineLemmas.{lines_of-none, lines_of-begins, some_line}
use Rattle.crontab_text.proofs.law.a_text_is_its_lines.Goals as goal

pub returns : goal.returns
returns c = record { none = lines_of-none; next = lines_of-begins; some = some_line }
