use Rattle.std.proofs.Common.{subst, sym}
use Rattle.run_text.specs.Follow.{Script, End}
use Rattle.run_text.specs.Run.{Run}
use Rattle.run_text.specs.Steps.{place_of, CarriesBack, RefusedFrom, BeginsScript, PassesCommand}
use Rattle.run_text.specs.declared.table.Tables.{Tables}
use Rattle.run_text.proofs.ScriptLemmas.{ReadsCommands, commands_next, commands_refused, script_ends}
use Rattle.run_text.proofs.VariantLemmas.{at_some, at_none, refused_on}
use Rattle.run_text.proofs.script.read_script.Goals as goal

pub returns-in_err-command-clause-refused : goal.returns-in_err-command-clause-refused
returns-in_err-command-clause-refused c =
    refused_on c.from_residual.result c.in_err-command.field-0.0 (λ refusal. (tables : Tables) (run : Run) → BeginsScript c.args.head run → RefusedFrom tables (place_of c.args.reader.now (Script run)) refusal)
    c.from_residual.ensures.1
    (commands_refused _ _ _ _ _ _ c.commands.invariant c.in_err-command.ensures.refused)

pub commands-preserved : goal.commands-preserved
commands-preserved c =
    let passes = at_some c.in_ok-command.field-0 (PassesCommand c.args.head c.commands.reader c.read_line.new.reader c.commands.left c.read_line.new.left) c.in-Some.command c.in-Some.is c.in_ok-command.ensures.command in
    subst (ReadsCommands c.args.head c.args.reader.now c.read_line.new.reader c.read_line.new.left) (sym c.in_ok-push.ensures.items)
    (commands_next _ _ _ _ _ _ _ c.in-Some.command c.commands.invariant passes c.in_ok-command.ensures.room)

pub returns-in_err-read_end-clause-refused : goal.returns-in_err-read_end-clause-refused
returns-in_err-read_end-clause-refused c =
    let last = at_none c.in_ok-command.field-0 {P = (tables : Tables) (run : Run) → CarriesBack tables (place_of c.commands.reader (Script run)) (place_of c.read_line.new.reader (End run))} c.in_default.is c.in_ok-command.ensures.end in
    refused_on c.from_residual-in_err-read_end.result c.in_err-read_end.field-0.0 (λ refusal. (tables : Tables) (run : Run) → BeginsScript c.args.head run → RefusedFrom tables (place_of c.args.reader.now (Script run)) refusal)
    c.from_residual-in_err-read_end.ensures.1
    (λ tables run begins. (script_ends _ _ _ c.read_line.new.reader _ _ c.commands.invariant last tables run begins).refuses _ (c.in_err-read_end.ensures.refused tables _))

pub returns-clause-read : goal.returns-clause-read
returns-clause-read c = λ tables run begins.
    let last = at_none c.in_ok-command.field-0 {P = (tables : Tables) (run : Run) → CarriesBack tables (place_of c.commands.reader (Script run)) (place_of c.read_line.new.reader (End run))} c.in_default.is c.in_ok-command.ensures.end in
    (script_ends _ _ _ c.read_line.new.reader _ _ c.commands.invariant last tables run begins).reads _ (c.in_ok-read_end.ensures.read tables _)
