-- Commands, one after another.
use Rattle.std.proofs.Common.{◌≡◌, ℕ, ◌+◌, ◌<◌, ◌^◌, List, [], ◌∷◌, ◌++◌, refl, sym, ap, subst, inr, append_assoc, arith}
use Rattle.std.proofs.lemmas.List.{append-nil}
use Rattle.crontab_text.specs.Lines.{lines_of}
use Rattle.script_text.specs.Command.{IsCommandLine}
use Rattle.script_text.specs.Script.{IsLeftBy, IsScriptWithinLimits}
use Rattle.script_text.specs.declared.command.Command.{Command}
use Rattle.script_text.specs.declared.limits.Limits.{Limits}
use Rattle.script_text.proofs.UniqueLemmas.{one_command}
use Rattle.run_text.specs.Follow.{Script, End, SaysCommand}
use Rattle.run_text.specs.Run.{Run, with_command, with_commands}
use Rattle.run_text.specs.Steps.{place_of, CarriesBack, RefusedFrom, CanCountLines, BeginsScript, HasScript, PassesCommand}
use Rattle.run_text.specs.declared.head.Head.{Head}
use Rattle.run_text.specs.declared.reader.Reader.{Reader}
use Rattle.run_text.specs.declared.refusal.Refusal.{Refusal}
use Rattle.run_text.specs.declared.table.Tables.{Tables}
use Rattle.run_text.proofs.StepLemmas.{stays, goes_on, one_line_at}

same_script : (run : Run) (a b : List Command) → a ≡ b → ◌≡◌ {A = Run} (record run { commands = a }) (record run { commands = b })
same_script run a b is = rw is refl

-- what was read from the first place on, which is the beginning of a script
pub record ReadsCommands (head : Head) (first now : Reader) (left : Limits) (commands : List Command) : Type 0 where
  pub room : CanCountLines now
  pub leads : (tables : Tables) (run : Run) → BeginsScript head run → CarriesBack tables (place_of first (Script run)) (place_of now (Script (with_commands run commands)))
  pub has : (run : Run) → BeginsScript head run → HasScript head (with_commands run commands) left

-- nothing is read at first
pub commands_none : (head : Head) (reader : Reader) (left : Limits) → IsLeftBy [] left → CanCountLines reader → ReadsCommands head reader reader left []
commands_none head reader left whole room = record {
  room = room;
  leads = λ tables run begins.
      subst (λ r. CarriesBack tables (place_of reader (Script run)) (place_of reader (Script r)))
      (same_script run run.commands (run.commands ++ []) (sym (append-nil run.commands)))
      (stays _ _ _ _ refl);
  has = λ run begins. record {
    members = begins.members;
    window = begins.window;
    left_is = subst (λ script. IsLeftBy script left) (sym (ap (λ c. c ++ []) begins.none)) whole;
  };
}

-- one command more
script_next : (run : Run) (commands : List Command) (command : Command) → with_command (with_commands run commands) command ≡ with_commands run (commands ++ command ∷ [])
script_next run commands command =
    same_script run ((run.commands ++ commands) ++ command ∷ []) (run.commands ++ (commands ++ command ∷ [])) (append_assoc run.commands commands (command ∷ []))

pub commands_next : (head : Head) (first now new : Reader) (before after : Limits) (commands : List Command) (command : Command)
    → ReadsCommands head first now before commands → PassesCommand head now new before after command → CanCountLines new
    → ReadsCommands head first new after (commands ++ command ∷ [])
commands_next head first now new before after commands command so_far passes room = record {
  room = room;
  leads = λ tables run begins.
      subst (λ r. CarriesBack tables (place_of first (Script run)) (place_of new (Script r))) (script_next run commands command)
      (goes_on _ _ _ (so_far.leads tables run begins) (passes.leads tables (with_commands run commands) (so_far.has run begins)));
  has = λ run begins. subst (λ r. HasScript head r after) (script_next run commands command) (passes.left_is (with_commands run commands) (so_far.has run begins));
}

pub commands_refused : (head : Head) (first now : Reader) (left : Limits) (commands : List Command) (refusal : Refusal) → ReadsCommands head first now left commands
    → ((tables : Tables) (run : Run) → HasScript head run left → RefusedFrom tables (place_of now (Script run)) refusal)
    → (tables : Tables) (run : Run) → BeginsScript head run → RefusedFrom tables (place_of first (Script run)) refusal
commands_refused head first now left commands refusal so_far refused tables run begins =
    (so_far.leads tables run begins).refuses refusal (refused tables (with_commands run commands) (so_far.has run begins))

-- the line that ends the script
pub script_ends : (head : Head) (first now new : Reader) (left : Limits) (commands : List Command) → ReadsCommands head first now left commands
    → ((tables : Tables) (run : Run) → CarriesBack tables (place_of now (Script run)) (place_of new (End run)))
    → (tables : Tables) (run : Run) → BeginsScript head run → CarriesBack tables (place_of first (Script run)) (place_of new (End (with_commands run commands)))
script_ends head first now new left commands so_far last tables run begins = goes_on _ _ _ (so_far.leads tables run begins) (last tables (with_commands run commands))

-- the reader passed a line that says a command
pub command_passes : (head : Head) (old new : Reader) (before after : Limits) (line : List ℕ) (command : Command)
    → new.number ≡ old.number + 1 → lines_of old.rest.now ≡ line ∷ lines_of new.rest.now
    → ((run : Run) → HasScript head run before → SaysCommand run line command)
    → ((run : Run) → HasScript head run before → HasScript head (with_command run command) after)
    → PassesCommand head old new before after command
command_passes head old new before after line command number lines says left = record {
  leads = λ tables run has.
      one_line_at old new (Script run) (Script (with_command run command)) line number lines
      (inr (record { command = command; says = says run has; next_is = refl }));
  left_is = left;
}

-- what a line says within the limits
pub says_within : (head : Head) (line : List ℕ) (command : Command) (before after : Limits) → IsCommandLine line head.members head.window command
    → ((script : List Command) → IsLeftBy script before → IsLeftBy (script ++ command ∷ []) after)
    → (run : Run) → HasScript head run before → SaysCommand run line command
says_within head line command before after is leaves run has =
    let left = leaves run.commands has.left_is in
    record {
      is = rw (has.members, has.window) is;
      within = record { commands = omega (arith, left.commands); rounds = omega (arith, left.rounds); free_turns = omega (arith, left.free_turns) };
    }

pub leaves_within : (head : Head) (command : Command) (before after : Limits)
    → ((script : List Command) → IsLeftBy script before → IsLeftBy (script ++ command ∷ []) after)
    → (run : Run) → HasScript head run before → HasScript head (with_command run command) after
leaves_within head command before after leaves run has = record { members = has.members; window = has.window; left_is = leaves run.commands has.left_is }

-- the line of a command that goes past a limit says none within them
pub says_past : (head : Head) (line : List ℕ) (command : Command) (left : Limits) → head.members < 2 ^ 8 → IsCommandLine line head.members head.window command
    → ((script : List Command) → IsLeftBy script left → IsScriptWithinLimits (script ++ command ∷ []) → ⊥)
    → (run : Run) (other : Command) → HasScript head run left → SaysCommand run line other → ⊥
says_past head line command left small is past run other has says =
    let again : IsCommandLine line head.members head.window other = rw (← has.members, ← has.window) says.is in
    let same = one_command line head.members head.members head.window head.window small small other command again is in
    past run.commands has.left_is (subst (λ c. IsScriptWithinLimits (run.commands ++ c ∷ [])) same says.within)
