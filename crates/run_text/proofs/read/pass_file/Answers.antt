use Rattle.std.proofs.Common.{refl}
use Rattle.run_text.specs.Follow.{Script}
use Rattle.run_text.specs.Run.{Run, run_with, with_parts, with_commands}
use Rattle.run_text.specs.Steps.{start, place_of, RefusedFrom, BeginsScript}
use Rattle.run_text.specs.declared.table.Tables.{Tables}
use Rattle.run_text.proofs.PartLemmas.{no_part}
use Rattle.run_text.proofs.StepLemmas.{goes_on}
use Rattle.run_text.proofs.VariantLemmas.{ok_so, err_so}
use Rattle.run_text.proofs.read.pass_file.Goals as goal
use Rattle.crontab_text.proofs.VariantLemmas.{handed_on}

pub returns-in_err-pass_parts-clause-refused : goal.returns-in_err-pass_parts-clause-refused
returns-in_err-pass_parts-clause-refused c =
    let head = c.in_ok-head.head in
    let run = run_with head.members head.window head.grace in
    handed_on c.from_residual-in_err-pass_parts.result c.in_err-pass_parts.field-0.0 (RefusedFrom c.args.tables (start c.args.text.now)) c.from_residual-in_err-pass_parts.ensures.1
    ((c.in_ok-head.ensures.read c.args.tables).refuses _ (c.in_err-pass_parts.ensures.refused run (no_part _ _ _)))

pub returns-clause-refused : goal.returns-clause-refused
returns-clause-refused c =
    let head = c.in_ok-head.head in
    let run = run_with head.members head.window head.grace in
    let parts = c.in_ok-pass_parts.ensures.read in
    let way = goes_on _ _ _ (c.in_ok-head.ensures.read c.args.tables) (parts.3 run (no_part _ _ _)) in
    err_so c.pass_script.result (λ refusal. (tables : Tables) (run : Run) → BeginsScript head run → RefusedFrom tables (place_of c.pass_parts.new.reader (Script run)) refusal)
    (RefusedFrom c.args.tables (start c.args.text.now)) c.pass_script.ensures.refused
    (λ refusal refused. way.refuses refusal (refused c.args.tables (with_parts run parts.0 parts.1 parts.2) (record { members = refl; window = refl; none = refl })))

pub returns-clause-read : goal.returns-clause-read
returns-clause-read c =
    let head = c.in_ok-head.head in
    let run = run_with head.members head.window head.grace in
    let parts = c.in_ok-pass_parts.ensures.read in
    let way = goes_on _ _ _ (c.in_ok-head.ensures.read c.args.tables) (parts.3 run (no_part _ _ _)) in
    ok_so c.pass_script.result c.pass_script.ensures.read
    (λ (commands, reads). (
      with_commands (with_parts run parts.0 parts.1 parts.2) commands,
      way.reads _ (reads c.args.tables (with_parts run parts.0 parts.1 parts.2) (record { members = refl; window = refl; none = refl })),
    ))
