-- The lines of a table and of a script that say what they are to say, one after another.
use Rattle.std.proofs.Common.{◌≡◌, ℕ, suc, ◌+◌, List, [], ◌∷◌, ◌++◌, length, map, refl, sym, ap, subst, inl, inr, arith, codes, append_assoc, append-nil, length-append}
use Rattle.std.specs.List.{AllByRecursion}
use Rattle.std.proofs.lemmas.List.Sums.{sum_by-append}
use Rattle.crontab_text.specs.declared.answer.Style.TheVariants.{User as UserStyle}
use Rattle.script_text.specs.Command.{command_line, IsInRange}
use Rattle.script_text.specs.Script.{IsScriptWithinLimits, rounds_of, free_turns_of}
use Rattle.script_text.specs.declared.command.Command.{Command}
use Rattle.run_text.specs.Follow.{Sections, Script, End, inside}
use Rattle.run_text.specs.Reading.{ReadsFrom}
use Rattle.run_text.specs.Run.{Run, Section, with_section, with_command, with_commands}
use Rattle.run_text.specs.Table.{Says}
use Rattle.run_text.specs.declared.run.SectionKind.TheVariants.{User}
use Rattle.run_text.specs.declared.table.Tables.TheVariants.{Judged}

-- a user's table, by its lines
abbrev pub table_at : ℕ → List ℕ → List ℕ → List (List ℕ) → Section
table_at line label zone lines = record { line = line; kind = User; label = label; zone = zone; lines = lines }

-- lines of a user's table, each of which says something
pub table_reads : (number line : ℕ) (run : Run) (label zone : List ℕ) (before lines behind : List (List ℕ)) (final : Run) → AllByRecursion (Says UserStyle label) lines
    → ReadsFrom Judged (number + length lines) (Sections (with_section run (table_at line label zone (before ++ lines)))) behind final
    → ReadsFrom Judged number (inside run (table_at line label zone before) (length lines)) (lines ++ behind) final
table_reads number line run label zone before [] behind final each reads =
    subst (λ n. ReadsFrom Judged n (Sections (with_section run (table_at line label zone before))) behind final) (no_more number)
    (subst (λ (ls : List (List ℕ)). ReadsFrom Judged (number + 0) (Sections (with_section run (table_at line label zone ls))) behind final) (append-nil before) reads)
  where
    no_more : (n : ℕ) → n + 0 ≡ n
    no_more n = omega arith
table_reads number line run label zone before (first ∷ lines) behind final each reads = (
  inside run (table_at line label zone (before ++ first ∷ [])) (length lines),
  (each.0, refl),
  table_reads (number + 1) line run label zone (before ++ first ∷ []) lines behind final each.1
      (subst (λ n. ReadsFrom Judged n (Sections (with_section run (table_at line label zone ((before ++ first ∷ []) ++ lines)))) behind final) (one_more number (length lines))
      (subst (λ (ls : List (List ℕ)). ReadsFrom Judged (number + length (first ∷ lines)) (Sections (with_section run (table_at line label zone ls))) behind final) (sym (append_assoc before (first ∷ []) lines)) reads)),
)
  where
    one_more : (n m : ℕ) → n + suc m ≡ n + 1 + m
    one_more n m = omega arith

-- a command that a run may have: what it names is in range
pub record MayBeSaid (run : Run) (command : Command) : Type 0 where
  pub in_range : IsInRange run.members run.window command

-- the first commands of a script within its limits are within them
front_within : (front back : List Command) → IsScriptWithinLimits (front ++ back) → IsScriptWithinLimits front
front_within front back within = record {
  commands = let all = within.commands in omega (arith, length-append front back);
  rounds = let all = within.rounds in omega (arith, sum_by-append rounds_of front back);
  free_turns = let all = within.free_turns in omega (arith, sum_by-append free_turns_of front back);
}

pub script_reads : (number : ℕ) (run : Run) (commands : List Command) → AllByRecursion (MayBeSaid run) commands → IsScriptWithinLimits (run.commands ++ commands)
    → ReadsFrom Judged number (Script run) (map command_line commands ++ codes "end" ∷ []) (with_commands run commands)
script_reads number run [] each within = (End run, inl (refl, refl), ap (λ (cs : List Command). End (record run { commands = cs })) (sym (append-nil run.commands)))
script_reads number run (command ∷ commands) each within = (
  Script (with_command run command),
  inr (record {
    command = command;
    says = record { is = record { is = refl; in_range = each.0.in_range }; within = front_within (run.commands ++ command ∷ []) commands longer };
    next_is = refl;
  }),
  subst (λ (cs : List Command). ReadsFrom Judged (number + 1) (Script (with_command run command)) (map command_line commands ++ codes "end" ∷ []) (record run { commands = cs }))
      (append_assoc run.commands (command ∷ []) commands)
      (script_reads (number + 1) (with_command run command) commands (kept commands each.1) longer),
)
  where
    longer : IsScriptWithinLimits ((run.commands ++ command ∷ []) ++ commands)
    longer = subst IsScriptWithinLimits (sym (append_assoc run.commands (command ∷ []) commands)) within

    kept : (others : List Command) → AllByRecursion (MayBeSaid run) others → AllByRecursion (MayBeSaid (with_command run command)) others
    kept [] all = tt
    kept (other ∷ others) all = (record { in_range = all.0.in_range }, kept others all.1)
