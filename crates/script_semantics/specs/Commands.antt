-- The commands that one turn follows, or none: the turn that each asks for, and what it sets.
use Rattle.std.specs.Prelude.{ℕ, ◌==◌, ◌&&◌, nat_lt, not, Bool, true, false, List, [], ◌∷◌, ◌++◌, length, reverse, Option, None, Some, if◌then◌else◌, slice_get}
use Rattle.std.specs.List.{filter}
use Rattle.cluster_sched.specs.declared.fate.Fate.{Fate}
use Rattle.cluster_sched.specs.declared.fate.Fate.TheVariants as fate
use Rattle.script_text.specs.declared.command.Command.{Command}
use Rattle.script_text.specs.declared.command.Command.TheVariants as command
use Rattle.script_text.specs.declared.command.FateWord.{FateWord}
use Rattle.script_text.specs.declared.command.FateWord.TheVariants as word
use Rattle.history.specs.Book.{PostedLetter, Row, with_fact}
use Rattle.history.specs.declared.turn.Cause.TheVariants as cause
use Rattle.script_semantics.specs.Parts.{Plays, Sets, Then}
use Rattle.script_semantics.specs.Situation.{Situation, Task, Arrive, Do, Restart, Stop}

-- the number is among them
abbrev pub has_number : ℕ → List ℕ → Bool
has_number number [] = false
has_number number (other ∷ others) = if other == number then true else has_number number others

-- each number once, in the order of the first places
abbrev pub each_once : List ℕ → List ℕ
each_once [] = []
each_once (number ∷ numbers) = number ∷ filter (λ other. not (other == number)) (each_once numbers)

-- ---- turns

-- a late call that has not arrived arrives
abbrev pub arrival_tasks : ℕ → Situation → List Task
arrival_tasks late situation =
    if nat_lt late (length situation.standing.late) && not (has_number late situation.standing.arrived) then Arrive late ∷ [] else []

-- the turn that a command asks for: a replica that runs stands for leader or stops, and one that is stopped starts again
abbrev pub tasks_for : Command → Situation → List Task
tasks_for (command.Campaign who) situation = if situation.standing.runs who then Do who cause.Campaign ∷ [] else []
tasks_for (command.Stop who) situation = if situation.standing.runs who then Stop who ∷ [] else []
tasks_for (command.Restart who) situation = if situation.standing.runs who then [] else Restart who ∷ []
tasks_for (command.Arrive late) situation = arrival_tasks late situation
tasks_for other situation = []

-- ---- what is set

-- the letter is from that replica
abbrev pub is_from : ℕ → Option PostedLetter → Bool
is_from who None = false
is_from who (Some letter) = letter.from == who

-- the letters of a mail that are from a replica
abbrev pub from_one : List PostedLetter → ℕ → List ℕ → List ℕ
from_one posted who mail = filter (λ number. is_from who (slice_get posted number)) mail

-- those that are from others
abbrev pub from_others : List PostedLetter → ℕ → List ℕ → List ℕ
from_others posted who mail = filter (λ number. not (is_from who (slice_get posted number))) mail

-- another mail of a replica
abbrev pub with_mail : ℕ → List ℕ → Situation → Situation
with_mail who mail situation = record situation { mails = with_fact who mail situation.mails }

-- a letter joins the mail of its addressee, where there is such a letter and its addressee runs
abbrev pub with_letter : ℕ → Option PostedLetter → Situation → Situation
with_letter number None situation = situation
with_letter number (Some letter) situation =
    if situation.standing.runs letter.to then with_mail letter.to (situation.mails letter.to ++ number ∷ []) situation else situation

-- the fate that a word stands for
abbrev pub fate_of : FateWord → Fate
fate_of word.Done = fate.Done
fate_of word.LostBefore = fate.LostBefore
fate_of word.LostAfter = fate.LostAfter
fate_of word.Late = fate.Late

-- what a command sets: from whom to whom letters are lost, the letters of a mail and their order, a clock, the fate of a call
abbrev pub set_by : Command → Situation → Situation
set_by (command.Cut from to) situation = record situation { cuts = (from, to) ∷ situation.cuts }
set_by command.Heal situation = record situation { cuts = [] }
set_by (command.Drop from to) situation = with_mail to (from_others situation.standing.posted from (situation.mails to)) situation
set_by (command.Repeat from to) situation =
    with_mail to (situation.mails to ++ each_once (from_one situation.standing.posted from (situation.mails to))) situation
set_by (command.Reverse who) situation = with_mail who (reverse (situation.mails who)) situation
set_by (command.Again number) situation = with_letter number (slice_get situation.standing.posted number) situation
set_by (command.Skew who minutes) situation = record situation { skews = with_fact who minutes situation.skews }
set_by (command.Fate who fate) situation = record situation { fates = with_fact who (fate_of fate) situation.fates }
set_by other situation = situation

-- the turns that the situation asks for, and then a change of it
abbrev pub Plain : ℕ → (Situation → List Task) → (Situation → Situation) → Situation → List Row → Situation → Type 0
Plain members tasks change = Then (Plays members tasks) (Sets change)
