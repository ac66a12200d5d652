use Rattle.run_audit.proofs.ScriptLemmas.{HasComeTo}
use Rattle.run_audit.proofs.script.play_script.Given as goal

abbrev pub invariant-parts : goal.invariant-parts
invariant-parts l = HasComeTo l.fn.replay.book.members l.table l.script l.text l.place l.replay l.rest
