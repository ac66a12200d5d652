use Rattle.std.proofs.Common.{ℕ, subst, sym}
use Rattle.std.specs.List.{All}
use Rattle.script_text.specs.Command.{IsInRange}
use Rattle.run_audit.proofs.AuditLemmas.{fit_to_audit}
use Rattle.run_audit.proofs.journal.audit.Goals as goal

pub start-requires-clause-some : goal.start-requires-clause-some
start-requires-clause-some c = (fit_to_audit c.args.run.now c.args.table.now c.requires.run c.requires.table).some

pub start-requires-clause-few : goal.start-requires-clause-few
start-requires-clause-few c = (fit_to_audit c.args.run.now c.args.table.now c.requires.run c.requires.table).few

pub play_script-requires-clause-names : goal.play_script-requires-clause-names
play_script-requires-clause-names c = (fit_to_audit c.args.run.now c.args.table.now c.requires.run c.requires.table).names

pub play_script-requires-clause-range : goal.play_script-requires-clause-range
play_script-requires-clause-range c =
    let fit = fit_to_audit c.args.run.now c.args.table.now c.requires.run c.requires.table in
    let each : All (λ command. IsInRange c.args.run.now.members c.args.table.now.window command) c.as_slice.result.now =
    subst (All (λ command. IsInRange c.args.run.now.members c.args.table.now.window command)) (sym c.as_slice.ensures.value) fit.range in
    subst (λ (n : ℕ). All (λ command. IsInRange n c.args.table.now.window command) c.as_slice.result.now) (sym c.in_ok-replay.ensures.members) each
