use Rattle.std.proofs.Common.{refl}
use Rattle.run_text.specs.Follow.{Sections, Script}
use Rattle.run_text.specs.Run.{Run, run_with}
use Rattle.run_text.specs.Steps.{place_of, start, RefusedFrom, IfRefused, BeginsScript, HasNoPart, with_all}
use Rattle.run_text.specs.declared.refusal.Refusal.{Refusal}
use Rattle.run_text.specs.declared.refusal.RunFault.{RunFault}
use Rattle.run_text.specs.declared.refusal.RunFault.TheVariants.{Refused, OutOfMemory}
use Rattle.run_text.specs.declared.table.Tables.{Tables}
use Rattle.run_text.proofs.PartLemmas.{no_part}
use Rattle.run_text.proofs.StepLemmas.{goes_on}
use Rattle.run_text.proofs.read.read_file.Goals as goal
use Rattle.crontab_text.proofs.VariantLemmas.{handed_on}

-- what follows where there is a refusal
refused_so : (fault : RunFault) (P Q : Refusal → Type 0) → ((refusal : Refusal) → P refusal → Q refusal) → IfRefused fault P → IfRefused fault Q
refused_so (Refused refusal) P Q follows holds = follows refusal holds
refused_so OutOfMemory P Q follows holds = tt

pub returns-in_err-parts-clause-refused : goal.returns-in_err-parts-clause-refused
returns-in_err-parts-clause-refused c =
    let begun = run_with c.in_ok-head.head.members c.in_ok-head.head.window c.in_ok-head.head.grace in
    handed_on c.from_residual-in_err-parts.result c.in_err-parts.field-0.0 (λ fault. IfRefused fault (RefusedFrom c.args.tables (start c.args.text.now))) c.from_residual-in_err-parts.ensures.1
    (refused_so c.in_err-parts.field-0.0
    (λ refusal. (run : Run) → HasNoPart c.in_ok-head.head.window run → RefusedFrom c.args.tables (place_of c.in_ok-head.reader (Sections run)) refusal) (RefusedFrom c.args.tables (start c.args.text.now))
    (λ refusal refused. (c.in_ok-head.ensures.read c.args.tables).refuses refusal (refused begun (no_part _ _ _))) c.in_err-parts.ensures.refused)

pub returns-in_err-commands-clause-refused : goal.returns-in_err-commands-clause-refused
returns-in_err-commands-clause-refused c =
    let begun = run_with c.in_ok-head.head.members c.in_ok-head.head.window c.in_ok-head.head.grace in
    let way = goes_on _ _ _ (c.in_ok-head.ensures.read c.args.tables) (c.in_ok-parts.ensures.read begun (no_part _ _ _)) in
    handed_on c.from_residual-in_err-commands.result c.in_err-commands.field-0.0 (λ fault. IfRefused fault (RefusedFrom c.args.tables (start c.args.text.now))) c.from_residual-in_err-commands.ensures.1
    (refused_so c.in_err-commands.field-0.0
    (λ refusal. (tables : Tables) (run : Run) → BeginsScript c.in_ok-head.head run → RefusedFrom tables (place_of c.read_parts.new.reader (Script run)) refusal) (RefusedFrom c.args.tables (start c.args.text.now))
    (λ refusal refused. way.refuses refusal (refused c.args.tables (with_all begun c.in_ok-parts.parts) (record { members = refl; window = refl; none = refl }))) c.in_err-commands.ensures.refused)

pub returns-clause-read : goal.returns-clause-read
returns-clause-read c =
    let begun = run_with c.in_ok-head.head.members c.in_ok-head.head.window c.in_ok-head.head.grace in
    let way = goes_on _ _ _ (c.in_ok-head.ensures.read c.args.tables) (c.in_ok-parts.ensures.read begun (no_part _ _ _)) in
    way.reads _ (c.in_ok-commands.ensures.read c.args.tables (with_all begun c.in_ok-parts.parts) (record { members = refl; window = refl; none = refl }))
