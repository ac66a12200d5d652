-- The lines of a journal have no newline in them, where no job's name has one: so the journal of a book falls into its lines.
use Rattle.std.proofs.Common.{◌≡◌, ℕ, suc, ◌+◌, ◌==◌, Bool, true, false, cond, List, [], ◌∷◌, ◌++◌, append-nil, length, map, Option, Some, None, refl, ap, sym, ◌∙◌, arith, codes, decimal, rules}
use Rattle.std.specs.Prelude.{slice_get, ℤ}
use Rattle.std.specs.List.{AllByRecursion, flat_map, range_with_len}
use Rattle.std.proofs.lemmas.List.Elements.{All-weaker}
use Rattle.due_set.proofs.TableLemmas.{All-slice_get}
use Rattle.cron_io.specs.Lines.{text_of_lines}
use Rattle.zone_minutes.specs.Stamp.{basic_stamp_text, date_text, stamp_text}
use Rattle.cluster_sched.specs.Names.{name_text, time_text}
use Rattle.cluster_sched.specs.declared.fate.Fate.{Fate}
use Rattle.cluster_sched.specs.declared.fate.Fate.TheVariants.{Done, LostBefore, LostAfter, Late}
use Rattle.cluster_sched.specs.declared.row.Name.{Name}
use Rattle.cluster_sched.specs.declared.row.SchedRow.{SchedRow}
use Rattle.due_set.specs.Table.{Job, Table, is_by_period, job_name, name_of}
use Rattle.job_table.specs.Names.{HaveWordNames, IsWordByte}
use Rattle.job_table.proofs.NameLemmas.{decimal_word}
use Rattle.paxos_base.specs.declared.entry.Kind.{Kind}
use Rattle.paxos_base.specs.declared.entry.Kind.TheVariants.{Launch, Void}
use Rattle.script_text.specs.declared.command.Command.{Command}
use Rattle.history.specs.Book.{Row}
use Rattle.history.specs.declared.turn.CallRow.{CallRow}
use Rattle.history.specs.declared.turn.Cause.{Cause}
use Rattle.history.specs.declared.turn.Cause.TheVariants.{Campaign, Tick, Hear, Answer}
use Rattle.history.specs.declared.turn.Turn.{Turn}
use Rattle.history.specs.declared.turn.Turn.TheVariants.{Did, Stopped, Restarted, Arrived}
use Rattle.world_law.specs.Book.{BookState, StandsBehind}
use Rattle.journal_line.specs.Line.{IsUnblank}
use Rattle.journal_text.specs.Journal.{answer_words, call_words, cause_words, end_word, kept_word, part_head, part_lines, part_turns, stop_words, turn_line, turn_words, word_of_fate}
use Rattle.journal_text.specs.Line.{HasUnblankNames}
use Rattle.journal_text.specs.Starts.{IsBookJournal}
use Rattle.run_audit.specs.Sound.{lines_so_far, turns_of}
use Rattle.run_audit.specs.Verdict.{IsJournal, LacksNewline}

-- ---- names

unblank_name : (name : List ℕ) → AllByRecursion IsWordByte name → AllByRecursion IsUnblank name
unblank_name [] word = tt
unblank_name (c ∷ cs) word = ((word.0.0, word.0.1), unblank_name cs word.1)

-- a job's name that is one word has no blank
pub unblank_names : (table : Table) → HaveWordNames table.jobs → HasUnblankNames table
unblank_names table names =
    All-weaker (λ (job : Job). AllByRecursion IsWordByte job.name) (λ (job : Job). AllByRecursion IsUnblank job.name) (λ job word. unblank_name job.name word) table.jobs names

word_lacks : (text : List ℕ) → AllByRecursion IsWordByte text → LacksNewline text
word_lacks [] word = tt
word_lacks (c ∷ cs) word = (word.0.2, word_lacks cs word.1)

job_lacks : (table : Table) (number : ℕ) → HaveWordNames table.jobs → LacksNewline (job_name table number)
job_lacks table number names = by (slice_get table.jobs number) refl
  where
    by : (job : Option Job) → slice_get table.jobs number ≡ job → LacksNewline (name_of job)
    by None is = tt
    by (Some job) is = word_lacks job.name (All-slice_get (λ (job : Job). AllByRecursion IsWordByte job.name) table.jobs number job names is)

-- ---- words

both_lack : (front back : List ℕ) → LacksNewline front → LacksNewline back → LacksNewline (front ++ back)
both_lack [] back one two = two
both_lack (c ∷ cs) back one two = (one.0, both_lack cs back one.1 two)

digits_lack : (n : ℕ) → LacksNewline (decimal n)
digits_lack n = word_lacks (decimal n) (decimal_word n)

no_newline : (n : ℕ) → 48 + n ≡ 10 → ⊥
no_newline n e = omega arith

stamp_lacks : (at : ℤ) → LacksNewline (stamp_text at)
unfolding stamp_text
stamp_lacks at = search (rules, no_newline)

time_lacks : (by_period : Bool) (at : ℤ) → LacksNewline (time_text by_period at)
unfolding basic_stamp_text date_text
time_lacks true at = search (rules, no_newline)
time_lacks false at = search (rules, no_newline)

name_lacks : (table : Table) (name : Name) → HaveWordNames table.jobs → LacksNewline (name_text table name)
name_lacks table name names =
    both_lack (job_name table name.job) (64 ∷ time_text (is_by_period table name.job) name.at) (job_lacks table name.job names) ((λ e. omega arith), time_lacks (is_by_period table name.job) name.at)

cause_lacks : (cause : Cause) → LacksNewline (cause_words cause)
cause_lacks Campaign = search rules
cause_lacks (Tick now) = both_lack (codes "tick ") (stamp_text now.0) (search rules) (stamp_lacks now.0)
cause_lacks (Hear letter) = both_lack (codes "hear ") (decimal letter) (search rules) (digits_lack letter)
cause_lacks Answer = search rules

fate_lacks : (fate : Fate) → LacksNewline (word_of_fate fate)
fate_lacks Done = search rules
fate_lacks LostBefore = search rules
fate_lacks LostAfter = search rules
fate_lacks Late = search rules

kind_lacks : (kind : Kind) → LacksNewline (end_word kind)
kind_lacks Launch = search rules
kind_lacks Void = search rules

answer_lacks : (table : Table) (answer : Option SchedRow) → HaveWordNames table.jobs → LacksNewline (answer_words table answer)
answer_lacks table None names = tt
answer_lacks table (Some row) names = ((λ e. omega arith), both_lack (name_text table row.name) (end_word row.kind) (name_lacks table row.name names) (kind_lacks row.kind))

call_lacks : (table : Table) (made : Option CallRow) → HaveWordNames table.jobs → LacksNewline (call_words table made)
call_lacks table None names = tt
call_lacks table (Some made) names =
    ((λ e. omega arith), both_lack (word_of_fate made.fate) (answer_words table made.answer) (fate_lacks made.fate) (answer_lacks table made.answer names))

kept_lacks : (kept : Bool) → LacksNewline (kept_word kept)
kept_lacks true = search rules
kept_lacks false = search rules

stop_lacks : (cause : Option Cause) (kept : Bool) → LacksNewline (stop_words cause kept)
stop_lacks None kept = search rules
stop_lacks (Some cause) kept = both_lack (codes "stop") (kept_word kept ++ cause_words cause) (search rules) (both_lack (kept_word kept) (cause_words cause) (kept_lacks kept) (cause_lacks cause))

turn_lacks : (table : Table) (turn : Turn) → HaveWordNames table.jobs → LacksNewline (turn_words table turn)
turn_lacks table (Did who cause made) names =
    both_lack (decimal who) (32 ∷ (cause_words cause ++ call_words table made)) (digits_lack who)
    ((λ e. omega arith), both_lack (cause_words cause) (call_words table made) (cause_lacks cause) (call_lacks table made names))
turn_lacks table (Stopped who cause kept) names = both_lack (decimal who) (32 ∷ stop_words cause kept) (digits_lack who) ((λ e. omega arith), stop_lacks cause kept)
turn_lacks table (Restarted who) names = both_lack (decimal who) (codes " restart") (digits_lack who) (search rules)
turn_lacks table (Arrived late) names = both_lack (codes "- arrive ") (decimal late) (search rules) (digits_lack late)

-- the line of a turn
pub line_lacks : (table : Table) (numbered : ℕ × Turn) → HaveWordNames table.jobs → LacksNewline (turn_line table numbered)
line_lacks table numbered names =
    both_lack (decimal numbered.0) (32 ∷ turn_words table numbered.1) (digits_lack numbered.0) ((λ e. omega arith), turn_lacks table numbered.1 names)

-- ---- lines

abbrev Lack : List (List ℕ) → Type 0
Lack lines = AllByRecursion LacksNewline lines

pub lists_lack : (front back : List (List ℕ)) → Lack front → Lack back → Lack (front ++ back)
lists_lack [] back one two = two
lists_lack (line ∷ lines) back one two = (one.0, lists_lack lines back one.1 two)

head_lacks : (parts place : ℕ) → LacksNewline (part_head parts place)
head_lacks parts place = both_lack (codes "command ") (cond (suc place == parts) (codes "end") (decimal (suc place))) (search rules) (by (suc place == parts))
  where
    by : (test : Bool) → LacksNewline (cond test (codes "end") (decimal (suc place)))
    by true = search rules
    by false = digits_lack (suc place)

pub turns_lack : (table : Table) (turns : List (ℕ × Turn)) → HaveWordNames table.jobs → Lack (map (turn_line table) turns)
turns_lack table [] names = tt
turns_lack table (turn ∷ turns) names = (line_lacks table turn names, turns_lack table turns names)

parts_lack : (table : Table) (turns : List Turn) (starts places : List ℕ) → HaveWordNames table.jobs → Lack (flat_map (part_lines table turns starts) places)
parts_lack table turns starts [] names = tt
parts_lack table turns starts (place ∷ places) names =
    lists_lack (part_lines table turns starts place) (flat_map (part_lines table turns starts) places)
    (head_lacks (length starts) place, turns_lack table (part_turns turns starts place) names) (parts_lack table turns starts places names)

-- **The journal of a book is a journal**, as an audit reads it.
pub is_of_book : (table : Table) (script : List Command) (book : BookState) (text : List ℕ) → HaveWordNames table.jobs → IsBookJournal table script book text
    → (rows : List Row) × StandsBehind table rows book × IsJournal book.members table script text rows
is_of_book table script book text names journal =
    let starts = journal.starts in
    let parts = flat_map (part_lines table book.turns starts) (range_with_len 0 (length starts)) in
    let end : List (List ℕ) = codes "end" ∷ [] in (
      journal.rows,
      journal.behind,
      record {
        lines = codes "cron journal 1" ∷ (parts ++ end);
        cut = record {
          parts = journal.text_is ∙ sym (append-nil (text_of_lines (codes "cron journal 1" ∷ (parts ++ end))));
          each = ((search rules), lists_lack parts end (parts_lack table book.turns starts (range_with_len 0 (length starts)) names) ((search rules), tt));
          last = tt;
        };
        whole = record {
          legal = journal.behind.legal;
          starts = starts;
          begin = journal.begin;
          are = ap (λ (turns : List Turn). lines_so_far table (length starts) turns starts ++ end) journal.behind.turns
              ∙ ap (λ (n : ℕ). lines_so_far table n (turns_of journal.rows) starts ++ end) journal.begin.count;
        };
      },
    )
