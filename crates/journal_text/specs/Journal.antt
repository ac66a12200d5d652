-- The journal's text: a line for each turn of a book, and a line before the turns of each part.
use Rattle.std.specs.Prelude.{ℕ, suc, ◌-◌, ◌==◌, Bool, true, false, List, [], ◌∷◌, ◌++◌, length, take, drop, map, Option, None, Some, codes, decimal, get_or, if◌then◌else◌}
use Rattle.std.specs.List.{enumerate_from, flat_map, range_with_len}
use Rattle.zone_minutes.specs.Stamp.{stamp_text}
use Rattle.cluster_sched.specs.Names.{name_text}
use Rattle.cluster_sched.specs.declared.fate.Fate.{Fate}
use Rattle.cluster_sched.specs.declared.fate.Fate.TheVariants.{Done, LostBefore, LostAfter, Late}
use Rattle.cluster_sched.specs.declared.row.SchedRow.{SchedRow}
use Rattle.due_set.specs.Table.{Table}
use Rattle.paxos_base.specs.declared.entry.Kind.{Kind}
use Rattle.paxos_base.specs.declared.entry.Kind.TheVariants.{Launch, Void}
use Rattle.history.specs.declared.turn.CallRow.{CallRow}
use Rattle.history.specs.declared.turn.Cause.{Cause}
use Rattle.history.specs.declared.turn.Cause.TheVariants.{Campaign, Tick, Hear, Answer}
use Rattle.history.specs.declared.turn.Turn.{Turn}
use Rattle.history.specs.declared.turn.Turn.TheVariants.{Did, Stopped, Restarted, Arrived}
use Rattle.cron_io.specs.Lines.{text_of_lines}

-- ---- turns

-- what a replica has its turn for: campaign, tick STAMP, hear K, or answer
abbrev pub cause_words : Cause → List ℕ
cause_words Campaign = codes "campaign"
cause_words (Tick now) = codes "tick " ++ stamp_text now.0
cause_words (Hear letter) = codes "hear " ++ decimal letter
cause_words Answer = codes "answer"

-- the fate of a call, as scripts have it
abbrev pub word_of_fate : Fate → List ℕ
word_of_fate Done = codes "done"
word_of_fate LostBefore = codes "lost-before"
word_of_fate LostAfter = codes "lost-after"
word_of_fate Late = codes "late"

-- how a launch ended, behind its name
abbrev pub end_word : Kind → List ℕ
end_word Launch = codes " launch"
end_word Void = codes " void"

-- NAME launch or NAME void, behind a blank, where a row answered
abbrev pub answer_words : Table → Option SchedRow → List ℕ
answer_words table None = []
answer_words table (Some row) = 32 ∷ (name_text table row.name ++ end_word row.kind)

-- FATE and the answer, behind a blank, where a call was made
abbrev pub call_words : Table → Option CallRow → List ℕ
call_words table None = []
call_words table (Some made) = 32 ∷ (word_of_fate made.fate ++ answer_words table made.answer)

-- whether the disk has what the turn was saving
abbrev pub kept_word : Bool → List ℕ
kept_word true = codes " kept "
kept_word false = codes " lost "

-- a stop: nothing more of one between two turns, and of one within a turn what was kept and what the turn was for
abbrev pub stop_words : Option Cause → Bool → List ℕ
stop_words None kept = codes "stop"
stop_words (Some cause) kept = codes "stop" ++ (kept_word kept ++ cause_words cause)

-- a turn: its replica, or `-` of an arrival, and what happened
abbrev pub turn_words : Table → Turn → List ℕ
turn_words table (Did who cause made) = decimal who ++ 32 ∷ (cause_words cause ++ call_words table made)
turn_words table (Stopped who cause kept) = decimal who ++ 32 ∷ stop_words cause kept
turn_words table (Restarted who) = decimal who ++ codes " restart"
turn_words table (Arrived late) = codes "- arrive " ++ decimal late

-- the line of a turn: its number comes first
abbrev pub turn_line : Table → ℕ × Turn → List ℕ
turn_line table numbered = decimal numbered.0 ++ 32 ∷ turn_words table numbered.1

-- ---- parts

-- where the part of a place ends: where the next one begins, and the last one behind the last turn
abbrev pub end_of : (starts : List ℕ) → (turns : ℕ) → (place : ℕ) → ℕ
end_of starts turns place = get_or starts (suc place) turns

-- the turns from a number up to another, each with its number
abbrev pub numbered_turns : List Turn → (from until : ℕ) → List (ℕ × Turn)
numbered_turns turns from until = enumerate_from from (take (until - from) (drop from turns))

-- the turns of the part of a place
abbrev pub part_turns : List Turn → List ℕ → ℕ → List (ℕ × Turn)
part_turns turns starts place = numbered_turns turns (get_or starts place 0) (end_of starts (length turns) place)

-- the line before a part: command K, from 1, and of the last one, which is the walk's, command end
abbrev pub part_head : (parts place : ℕ) → List ℕ
part_head parts place = codes "command " ++ (if suc place == parts then codes "end" else decimal (suc place))

-- the lines of the part of a place
abbrev pub part_lines : Table → List Turn → List ℕ → ℕ → List (List ℕ)
part_lines table turns starts place = part_head (length starts) place ∷ map (turn_line table) (part_turns turns starts place)

-- **The journal of some turns**, whose parts begin at these numbers
abbrev pub journal_text : Table → List Turn → List ℕ → List ℕ
journal_text table turns starts =
    text_of_lines (
    codes "cron journal 1" ∷ (flat_map (part_lines table turns starts) (range_with_len 0 (length starts)) ++ codes "end" ∷ [])
    )
