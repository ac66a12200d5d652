use Rattle.std.proofs.Common.{◌∷◌, ◌++◌, []}
use Rattle.run_text.specs.Follow.{Script, End}
use Rattle.run_text.specs.Run.{Run}
use Rattle.run_text.specs.Steps.{place_of, CarriesBack, RefusedFrom, BeginsScript, PassesCommand}
use Rattle.run_text.specs.declared.table.Tables.{Tables}
use Rattle.run_text.proofs.ScriptLemmas.{commands_none, commands_next, commands_refused, script_ends}
use Rattle.run_text.proofs.VariantLemmas.{at_some, at_none, ok_so, err_so}
use Rattle.run_text.proofs.script.pass_script.Goals as goal
use Rattle.crontab_text.proofs.VariantLemmas.{handed_on}

pub returns-in_err-_command-clause-refused : goal.returns-in_err-_command-clause-refused
returns-in_err-_command-clause-refused c =
    handed_on c.from_residual.result c.in_err-_command.field-0.0 (λ refusal. (tables : Tables) (run : Run) → BeginsScript c.args.head run → RefusedFrom tables (place_of c.args.reader.now (Script run)) refusal)
    c.from_residual.ensures.1
    (commands_refused _ _ _ _ _ _ c.commands.invariant.1 c.in_err-_command.ensures.refused)

pub commands-init : goal.commands-init
commands-init c = ([], commands_none c.args.head c.args.reader.now c.whole-left.result c.whole-left.ensures c.requires)

pub commands-preserved : goal.commands-preserved
commands-preserved c =
    let passes = at_some c.in_ok-_command.field-0 (PassesCommand c.args.head c.commands.reader c.read_line.new.reader c.commands.left c.read_line.new.left) c.in-Some._command c.in-Some.is c.in_ok-_command.ensures.command in
    (c.commands.invariant.0 ++ c.in-Some._command ∷ [], commands_next _ _ _ _ _ _ _ c.in-Some._command c.commands.invariant.1 passes c.in_ok-_command.ensures.room)

pub returns-clause-read : goal.returns-clause-read
returns-clause-read c =
    let last = at_none c.in_ok-_command.field-0 {P = (tables : Tables) (run : Run) → CarriesBack tables (place_of c.commands.reader (Script run)) (place_of c.read_line.new.reader (End run))} c.in_default.is c.in_ok-_command.ensures.end in
    ok_so c.read_end.result c.read_end.ensures.read
    (λ reads. (c.commands.invariant.0, λ tables run begins. (script_ends _ _ _ c.read_line.new.reader _ _ c.commands.invariant.1 last tables run begins).reads _ (reads tables _)))

pub returns-clause-refused : goal.returns-clause-refused
returns-clause-refused c =
    let last = at_none c.in_ok-_command.field-0 {P = (tables : Tables) (run : Run) → CarriesBack tables (place_of c.commands.reader (Script run)) (place_of c.read_line.new.reader (End run))} c.in_default.is c.in_ok-_command.ensures.end in
    err_so c.read_end.result (λ refusal. (tables : Tables) (run : Run) → RefusedFrom tables (place_of c.read_line.new.reader (End run)) refusal)
    (λ refusal. (tables : Tables) (run : Run) → BeginsScript c.args.head run → RefusedFrom tables (place_of c.args.reader.now (Script run)) refusal) c.read_end.ensures.refused
    (λ refusal refused tables run begins. (script_ends _ _ _ c.read_line.new.reader _ _ c.commands.invariant.1 last tables run begins).refuses refusal (refused tables _))
