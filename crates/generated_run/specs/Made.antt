-- The run that a seed makes, and its text: 200 jobs and three replicas over ten days, and a script in which replicas stop.
use Rattle.std.specs.Prelude.{ℕ, ◌+◌, ◌*◌, List, [], ◌∷◌, ◌++◌, map, flat_map, codes, decimal, pos}
use Rattle.std.specs.List.{range_with_len}
use Rattle.cron_io.specs.Lines.{text_of_lines}
use Rattle.zone_minutes.specs.Window.{window_line}
use Rattle.zone_minutes.specs.declared.minute.Minute.{Minute}
use Rattle.zone_minutes.specs.declared.minute.Window.{Window}
use Rattle.script_text.specs.Command.{command_line}
use Rattle.script_text.specs.declared.command.Command.{Command}
use Rattle.script_text.specs.declared.command.Command.TheVariants.{Campaign, Restart, Round, Stop}
use Rattle.run_text.specs.Grammar.{replicas_line, section_line}
use Rattle.run_text.specs.Run.{Run}
use Rattle.run_text.specs.declared.run.SectionKind.TheVariants.{User}
use Rattle.generated_run.specs.Draws.{draw}

-- so many minutes behind 2024-03-01T00:00Z
abbrev pub made_instant : ℕ → Minute
made_instant minutes = record { 0 = pos (28_487_520 + minutes) }

-- ten days from 2024-03-01T00:00Z on
abbrev pub made_window : Window
made_window = record { from = made_instant 0; until = made_instant 14_400 }

-- an entry of each hour, and one of each day, by its number
abbrev pub hour_text : (minute number : ℕ) → List ℕ
hour_text minute number = decimal minute ++ (codes " * * * * hourly " ++ decimal number)

-- the line of a job that runs once a day
abbrev pub day_text : (minute hour number : ℕ) → List ℕ
day_text minute hour number = decimal minute ++ 32 ∷ (decimal hour ++ (codes " * * * daily " ++ decimal number))

-- a job of each hour, at a minute that is drawn
unfoldable pub hourly_line : (seed number : ℕ) → List ℕ
hourly_line seed number = hour_text (draw seed number 60) (number + 1)

-- a job of each day, at a minute and an hour that are drawn
unfoldable pub daily_line : (seed number : ℕ) → List ℕ
daily_line seed number = day_text (draw seed (40 + 2 * number) 60) (draw seed (41 + 2 * number) 24) (number + 41)

-- the lines of so many jobs of each hour, and of so many of each day
unfoldable pub hourly_lines : (seed count : ℕ) → List (List ℕ)
hourly_lines seed count = map (hourly_line seed) (range_with_len 0 count)

-- the lines of the jobs that run once a day
unfoldable pub daily_lines : (seed count : ℕ) → List (List ℕ)
daily_lines seed count = map (daily_line seed) (range_with_len 0 count)

-- the lines of the table: 40 jobs of each hour and 160 of each day
abbrev pub table_lines : (seed : ℕ) → List (List ℕ)
table_lines seed = hourly_lines seed 40 ++ daily_lines seed 160

-- half a day: rounds, a replica that is drawn stops, one that is drawn stands for leader, rounds, and all run again
unfoldable pub part_commands : (seed number : ℕ) → List Command
part_commands seed number =
    Round (made_instant (720 * number)) 40
    ∷ Stop (draw seed (360 + 2 * number) 3)
    ∷ Campaign (draw seed (361 + 2 * number) 3)
    ∷ Round (made_instant (720 * number)) 40
    ∷ Restart 0
    ∷ Restart 1
    ∷ Restart 2
    ∷ []

-- so many such parts
unfoldable pub first_parts : (seed count : ℕ) → List Command
first_parts seed count = flat_map (part_commands seed) (range_with_len 0 count)

-- the script: replica 0 leads at first, and twenty parts follow
abbrev pub made_script : (seed : ℕ) → List Command
made_script seed = Campaign 0 ∷ first_parts seed 20

-- the run of the seed
abbrev pub made_run : (seed : ℕ) → Run
made_run seed = record {
  members = 3;
  window = made_window;
  grace = 14_400;
  zones = [];
  sections = record { line = 5; kind = User; label = codes "make"; zone = codes "UTC"; lines = table_lines seed } ∷ [];
  versions = [];
  commands = made_script seed;
}

-- the lines before those of the table
abbrev pub head_lines : List (List ℕ)
head_lines =
    codes "cronrun 1"
    ∷ replicas_line 3
    ∷ window_line made_window
    ∷ (codes "grace " ++ decimal 14_400)
    ∷ section_line User (codes "make") (codes "UTC") 200
    ∷ []

-- the lines of the run
abbrev pub made_lines : (seed : ℕ) → List (List ℕ)
made_lines seed = head_lines ++ (table_lines seed ++ codes "script" ∷ (map command_line (made_script seed) ++ codes "end" ∷ []))

-- the text of the run
unfoldable pub made_text : (seed : ℕ) → List ℕ
made_text seed = text_of_lines (made_lines seed)
