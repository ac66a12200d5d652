-- The line of a turn is a line of a journal's grammar, and the only one that tells the turn.
use Rattle.std.proofs.Common.{◌≡◌, ◌+◌, ◌<◌, ◌≤◌, ◌^◌, ℕ, suc, ◌==◌, if◌then◌else◌, ℤ, Bool, true, false, List, [], ◌∷◌, ◌++◌, Option, None, Some, length, append-nil, refl, ap, sym, ◌∙◌, subst, arith, rules, codes, decimal}
use Rattle.std.specs.Prelude.{IfSome, slice_get}
use Rattle.std.specs.List.{AllByRecursion}
use Rattle.zone_minutes.specs.Stamp.{basic_stamp_text, date_text, stamp_text}
use Rattle.zone_minutes.specs.Window.{IsWithinLimits}
use Rattle.zone_minutes.specs.declared.minute.Minute.{Minute}
use Rattle.due_set.specs.Table.{Job, Table, is_by_period, job_name, name_of}
use Rattle.due_set.proofs.TableLemmas.{All-slice_get}
use Rattle.paxos_base.specs.declared.entry.Kind.{Kind}
use Rattle.paxos_base.specs.declared.entry.Kind.TheVariants.{Launch, Void}
use Rattle.cluster_sched.specs.Names.{name_text, time_text}
use Rattle.cluster_sched.specs.declared.fate.Fate.{Fate}
use Rattle.cluster_sched.specs.declared.fate.Fate.TheVariants.{Done, LostBefore, LostAfter, Late}
use Rattle.cluster_sched.specs.declared.row.Name.{Name}
use Rattle.cluster_sched.specs.declared.row.SchedRow.{SchedRow}
use Rattle.script_text.specs.Command.{fate_word}
use Rattle.script_text.proofs.OperandLemmas.{digit_no_space}
use Rattle.history.specs.Book.{Row, Standing}
use Rattle.history.specs.Legal.{MayFollow, MayStop}
use Rattle.history.specs.declared.turn.CallRow.{CallRow}
use Rattle.history.specs.declared.turn.Cause.{Cause}
use Rattle.history.specs.declared.turn.Cause.TheVariants.{Campaign, Tick, Hear, Answer}
use Rattle.history.specs.declared.turn.Turn.{Turn}
use Rattle.history.specs.declared.turn.Turn.TheVariants.{Did, Stopped, Restarted, Arrived}
use Rattle.launch_safety.proofs.CallLemmas.{IsReadAt, call_read}
use Rattle.journal_line.specs.Line.{IsAnswerText, IsAnyName, IsCallWith, IsCause, IsJournalLine, IsTurn, IsUnblank, kept_text, kind_text}
use Rattle.journal_line.specs.Spaced.{Spaced}
use Rattle.journal_line.specs.Told.{ToldTurn, CallTurn, DidTurn, RestartTurn, ToldLine, CommandLine, WalkLine, ArrivalLine, TurnLine}
use Rattle.journal_line.specs.declared.line.Count.TheVariants.{Number}
use Rattle.journal_line.proofs.CountLemmas.{count_of_decimal, decimal_of_count}
use Rattle.journal_line.proofs.UniqueLine.{same_line}
use Rattle.journal_text.specs.Journal.{answer_words, call_words, cause_words, end_word, kept_word, part_head, stop_words, turn_line, word_of_fate}
use Rattle.journal_text.specs.Line.{HasUnblankNames, Tells, TellsStep, told_cause, told_fate, told_head, told_made, told_row, told_stop}
use Rattle.journal_text.specs.Told.{HasNumbers, HasStamp, IsNumbered}
use Rattle.journal_text.proofs.ToldLemmas.{stamped}

-- ---- names

no_tab : (n : ℕ) → 48 + n ≡ 9 → ⊥
no_tab n e = omega arith

abbrev Unblank : List ℕ → Type 0
Unblank text = AllByRecursion IsUnblank text

time_unblank : (by_period : Bool) (at : ℤ) → Unblank (time_text by_period at)
unfolding basic_stamp_text date_text
time_unblank true at = search (rules, digit_no_space, no_tab)
time_unblank false at = search (rules, digit_no_space, no_tab)

joined_unblank : (front back : List ℕ) → Unblank front → Unblank back → Unblank (front ++ back)
joined_unblank [] back one two = two
joined_unblank (c ∷ cs) back one two = (one.0, joined_unblank cs back one.1 two)

job_unblank : (table : Table) (number : ℕ) → HasUnblankNames table → Unblank (job_name table number)
job_unblank table number names = by (slice_get table.jobs number) refl
  where
    by : (job : Option Job) → slice_get table.jobs number ≡ job → Unblank (name_of job)
    by None is = tt
    by (Some job) is = All-slice_get (λ (job : Job). Unblank job.name) table.jobs number job names is

some_in : (front back : List ℕ) (byte : ℕ) → 0 < length (front ++ byte ∷ back)
some_in [] back byte = omega arith
some_in (c ∷ cs) back byte = omega arith

name_is_word : (table : Table) (name : Name) → HasUnblankNames table → IsAnyName (name_text table name)
name_is_word table name names =
    record {
      some = some_in (job_name table name.job) (time_text (is_by_period table name.job) name.at) 64;
      unblank = joined_unblank (job_name table name.job) (64 ∷ time_text (is_by_period table name.job) name.at) (job_unblank table name.job names)
          ((search (rules, arith)), time_unblank (is_by_period table name.job) name.at);
    }

-- ---- texts

-- two texts with a space between them
joined : {F R : List ℕ → Type 0} (front rest : List ℕ) → F front → R rest → Spaced F R (front ++ 32 ∷ rest)
joined front rest is has = record { front = front; rest = rest; parts = refl; front_is = is; rest_is = has }

cause_text : (cause : Cause) → HasStamp cause → IsNumbered cause → IsCause (told_cause cause) (cause_words cause)
cause_text Campaign stamp small = refl
cause_text (Tick now) stamp small = joined (codes "tick") (stamp_text now.0) refl (record { calendar = stamp; is = refl })
cause_text (Hear letter) stamp small = joined (codes "hear") (decimal letter) refl (count_of_decimal letter small)
cause_text Answer stamp small = refl

fate_same : (fate : Fate) → word_of_fate fate ≡ fate_word (told_fate fate)
fate_same Done = refl
fate_same LostBefore = refl
fate_same LostAfter = refl
fate_same Late = refl

answer_text : (table : Table) (name : Name) (kind : Kind) → HasUnblankNames table
    → IsAnswerText (record { name = name_text table name; kind = kind }) (name_text table name ++ end_word kind)
answer_text table name Launch names = joined (name_text table name) (codes "launch") (record { word = name_is_word table name names; is = refl }) refl
answer_text table name Void names = joined (name_text table name) (codes "void") (record { word = name_is_word table name names; is = refl }) refl

call_text : (table : Table) (answer : Option SchedRow) (fate : List ℕ) → HasUnblankNames table
    → IsCallWith (told_row table answer) fate (fate ++ answer_words table answer)
call_text table None fate names = append-nil fate
call_text table (Some row) fate names = joined fate (name_text table row.name ++ end_word row.kind) refl (answer_text table row.name row.kind names)

tick_text : (table : Table) (cause : Cause) (made : CallRow) → IsReadAt cause made.row → HasUnblankNames table → HasStamp cause
    → (words : ToldTurn) × TellsStep table cause (Some made) words × IsTurn words (cause_words cause ++ call_words table (Some made))
tick_text table (Tick now) made read names stamp =
    let call : IsCallWith (told_row table made.answer) (fate_word (told_fate made.fate)) (word_of_fate made.fate ++ answer_words table made.answer) =
    subst (λ (fate : List ℕ). IsCallWith (told_row table made.answer) fate (word_of_fate made.fate ++ answer_words table made.answer)) (fate_same made.fate)
    (call_text table made.answer (word_of_fate made.fate) names) in (
      CallTurn now (told_made table made),
      refl,
      joined (codes "tick") (stamp_text now.0 ++ 32 ∷ (word_of_fate made.fate ++ answer_words table made.answer)) refl
          (joined (stamp_text now.0) (word_of_fate made.fate ++ answer_words table made.answer) (record { calendar = stamp; is = refl }) call),
    )
tick_text table Campaign made read names stamp = absurd (let other : Campaign ≡ Tick read.now = read.is in cc)
tick_text table (Hear letter) made read names stamp = absurd (let other : Hear letter ≡ Tick read.now = read.is in cc)
tick_text table Answer made read names stamp = absurd (let other : Answer ≡ Tick read.now = read.is in cc)

step_text : (table : Table) (cause : Cause) (made : Option CallRow) → IfSome made (λ call. IsReadAt cause call.row) → HasUnblankNames table → HasStamp cause
    → IsNumbered cause → (words : ToldTurn) × TellsStep table cause made words × IsTurn words (cause_words cause ++ call_words table made)
step_text table cause None read names stamp small =
    (DidTurn (told_cause cause), refl, subst (IsCause (told_cause cause)) (sym (append-nil (cause_words cause))) (cause_text cause stamp small))
step_text table cause (Some made) read names stamp small = tick_text table cause made read names stamp

stop_text : (cause : Option Cause) (kept : Bool) → IfSome cause HasStamp → IfSome cause IsNumbered → IsTurn (told_stop cause kept) (stop_words cause kept)
stop_text None kept stamp small = refl
stop_text (Some cause) true stamp small = joined (codes "stop") (codes "kept" ++ 32 ∷ cause_words cause) refl (joined (codes "kept") (cause_words cause) refl (cause_text cause stamp small))
stop_text (Some cause) false stamp small = joined (codes "stop") (codes "lost" ++ 32 ∷ cause_words cause) refl (joined (codes "lost") (cause_words cause) refl (cause_text cause stamp small))

-- ---- lines

-- the line of a turn tells it
pub record IsTold (table : Table) (number : ℕ) (turn : Turn) : Type 0 where
  pub told : ToldLine
  pub tells : Tells table number turn told
  pub is_line : IsJournalLine told (turn_line table (number, turn))

replica_line : (number who : ℕ) (words : ToldTurn) (text : List ℕ) → number < 2 ^ 64 → who < 2 ^ 64 → IsTurn words text
    → IsJournalLine (TurnLine (Number number) (Number who) words) (decimal number ++ 32 ∷ (decimal who ++ 32 ∷ text))
replica_line number who words text small low is =
    joined (decimal number) (decimal who ++ 32 ∷ text) (count_of_decimal number small) (joined (decimal who) text (count_of_decimal who low) is)

module _ (members : ℕ) (table : Table) (standing : Standing) (few : members ≤ 7) (limits : IsWithinLimits table.window) (names : HasUnblankNames table) where
  call_is_read : (who : ℕ) (cause : Cause) (made : Option CallRow) (row : Row) → MayFollow members table standing (Did who cause made) row
      → IfSome made (λ call. IsReadAt cause call.row)
  call_is_read who cause None row may = tt
  call_is_read who cause (Some made) row may = call_read members table standing who cause made row may

  told_stopped : (who : ℕ) (cause : Option Cause) (kept : Bool) (row : Row) → MayStop members table standing who cause row kept
      → (who < members) × IfSome cause HasStamp
  told_stopped who None kept row may = (may.0, tt)
  told_stopped who (Some cause) kept row may = (may.0.member, stamped members table standing who cause row.event limits may.0.event_of)

  told_turn : (number : ℕ) (turn : Turn) (row : Row) → MayFollow members table standing turn row → HasNumbers turn → number < 2 ^ 64 → IsTold table number turn
  told_turn number (Did who cause made) row may numbered small =
      let stamp = stamped members table standing who cause row.event limits may.0.event_of in
      let (words, tells, is) = step_text table cause made (call_is_read who cause made row may) names stamp numbered in
      let member = may.0.member in
      record {
        told = TurnLine (Number number) (Number who) words;
        tells = (words, tells, refl);
        is_line = replica_line number who words (cause_words cause ++ call_words table made) small (omega arith) is;
      }
  told_turn number (Stopped who cause kept) row may numbered small =
      let (member, stamp) = told_stopped who cause kept row may in
      record {
        told = TurnLine (Number number) (Number who) (told_stop cause kept);
        tells = refl;
        is_line = replica_line number who (told_stop cause kept) (stop_words cause kept) small (omega arith) (stop_text cause kept stamp numbered);
      }
  told_turn number (Restarted who) row may numbered small =
      let member = may.0 in
      record {
        told = TurnLine (Number number) (Number who) RestartTurn;
        tells = refl;
        is_line = replica_line number who RestartTurn (codes "restart") small (omega arith) refl;
      }
  told_turn number (Arrived late) row may numbered small =
      record {
        told = ArrivalLine (Number number) (Number late);
        tells = refl;
        is_line = joined (decimal number) (codes "- arrive" ++ 32 ∷ decimal late) (count_of_decimal number small) (joined (codes "- arrive") (decimal late) refl (count_of_decimal late numbered));
      }

pub line_of_turn : (members number : ℕ) (table : Table) (standing : Standing) (row : Row) → members ≤ 7 → IsWithinLimits table.window → HasUnblankNames table
    → MayFollow members table standing row.turn row → HasNumbers row.turn → number < 2 ^ 64
    → (told : ToldLine) × Tells table number row.turn told × IsJournalLine told (turn_line table (number, row.turn))
line_of_turn members number table standing row few limits names may numbered small =
    let is = told_turn members table standing few limits names number row.turn row may numbered small in
    (is.told, is.tells, is.is_line)

-- what a reader says of the line of a turn tells the turn
pub read_back : (members number : ℕ) (table : Table) (standing : Standing) (row : Row) (told : ToldLine) → members ≤ 7 → IsWithinLimits table.window
    → HasUnblankNames table → MayFollow members table standing row.turn row → HasNumbers row.turn → number < 2 ^ 64
    → IsJournalLine told (turn_line table (number, row.turn)) → Tells table number row.turn told
read_back members number table standing row told few limits names may numbered small is =
    let said = told_turn members table standing few limits names number row.turn row may numbered small in
    subst (Tells table number row.turn) (same_line (turn_line table (number, row.turn)) said.told told said.is_line is) said.tells

-- ---- what a line is that tells a turn

cause_is : (cause : Cause) (text : List ℕ) → IsCause (told_cause cause) text → text ≡ cause_words cause
cause_is Campaign text is = is
cause_is (Tick now) text is = is.parts ∙ rw (is.front_is, is.rest_is.is) refl
cause_is (Hear letter) text is = is.parts ∙ rw (is.front_is, decimal_of_count letter is.rest is.rest_is) refl
cause_is Answer text is = is

end_is : (kind : Kind) (text front back : List ℕ) → text ≡ front ++ 32 ∷ back → back ≡ kind_text kind → text ≡ front ++ end_word kind
end_is Launch text front back parts is = parts ∙ ap (λ (l : List ℕ). front ++ 32 ∷ l) is
end_is Void text front back parts is = parts ∙ ap (λ (l : List ℕ). front ++ 32 ∷ l) is

call_is : (table : Table) (answer : Option SchedRow) (fate text : List ℕ) → IsCallWith (told_row table answer) fate text → text ≡ fate ++ answer_words table answer
call_is table None fate text is = is ∙ sym (append-nil fate)
call_is table (Some row) fate text is =
    let ends = end_is row.kind is.rest is.rest_is.front is.rest_is.rest is.rest_is.parts is.rest_is.rest_is in
    let name : is.rest_is.front ≡ name_text table row.name = is.rest_is.front_is.is in
    is.parts ∙ ap (λ (l : List ℕ). l ++ 32 ∷ is.rest) is.front_is ∙ ap (λ (l : List ℕ). fate ++ 32 ∷ l) (ends ∙ ap (λ (l : List ℕ). l ++ end_word row.kind) name)

tick_is : (table : Table) (now : Minute) (made : CallRow) (text : List ℕ) → IsTurn (CallTurn now (told_made table made)) text
    → text ≡ cause_words (Tick now) ++ call_words table (Some made)
tick_is table now made text is =
    let call = call_is table made.answer (fate_word (told_fate made.fate)) is.rest_is.rest is.rest_is.rest_is in
    let word : is.rest_is.rest ≡ word_of_fate made.fate ++ answer_words table made.answer =
    call ∙ ap (λ (l : List ℕ). l ++ answer_words table made.answer) (sym (fate_same made.fate)) in
    is.parts ∙ ap (λ (l : List ℕ). l ++ 32 ∷ is.rest) is.front_is
    ∙ ap (λ (l : List ℕ). codes "tick" ++ 32 ∷ l)
    (is.rest_is.parts ∙ ap (λ (l : List ℕ). l ++ 32 ∷ is.rest_is.rest) is.rest_is.front_is.is ∙ ap (λ (l : List ℕ). stamp_text now.0 ++ 32 ∷ l) word)

step_is : (table : Table) (cause : Cause) (made : Option CallRow) (words : ToldTurn) (text : List ℕ) → TellsStep table cause made words → IsTurn words text
    → text ≡ cause_words cause ++ call_words table made
step_is table cause None words text tells is =
    let did : IsTurn (DidTurn (told_cause cause)) text = subst (λ (w : ToldTurn). IsTurn w text) tells is in
    cause_is cause text did ∙ sym (append-nil (cause_words cause))
step_is table (Tick now) (Some made) words text tells is = tick_is table now made text (subst (λ (w : ToldTurn). IsTurn w text) tells is)
step_is table Campaign (Some made) words text tells is = absurd tells
step_is table (Hear letter) (Some made) words text tells is = absurd tells
step_is table Answer (Some made) words text tells is = absurd tells

stop_is : (cause : Option Cause) (kept : Bool) (text : List ℕ) → IsTurn (told_stop cause kept) text → text ≡ stop_words cause kept
stop_is None kept text is = is
stop_is (Some cause) kept text is =
    is.parts ∙ ap (λ (l : List ℕ). l ++ 32 ∷ is.rest) is.front_is
    ∙ ap (λ (l : List ℕ). codes "stop" ++ 32 ∷ l) (is.rest_is.parts ∙ ap (λ (l : List ℕ). l ++ 32 ∷ is.rest_is.rest) is.rest_is.front_is
    ∙ ap (λ (l : List ℕ). kept_text kept ++ 32 ∷ l) (cause_is cause is.rest_is.rest is.rest_is.rest_is))
    ∙ kept_joined kept (cause_words cause)
  where
    kept_joined : (kept : Bool) (rest : List ℕ) → codes "stop" ++ 32 ∷ (kept_text kept ++ 32 ∷ rest) ≡ codes "stop" ++ (kept_word kept ++ rest)
    kept_joined true rest = refl
    kept_joined false rest = refl

replica_is : (number who : ℕ) (words : ToldTurn) (line text : List ℕ) → ((rest : List ℕ) → IsTurn words rest → rest ≡ text)
    → IsJournalLine (TurnLine (Number number) (Number who) words) line → line ≡ decimal number ++ 32 ∷ (decimal who ++ 32 ∷ text)
replica_is number who words line text only is =
    let rest = is.rest_is in
    is.parts ∙ ap (λ (l : List ℕ). l ++ 32 ∷ is.rest) (decimal_of_count number is.front is.front_is)
    ∙ ap (λ (l : List ℕ). decimal number ++ 32 ∷ l)
    (rest.parts ∙ ap (λ (l : List ℕ). l ++ 32 ∷ rest.rest) (decimal_of_count who rest.front rest.front_is)
    ∙ ap (λ (l : List ℕ). decimal who ++ 32 ∷ l) (only rest.rest rest.rest_is))

-- a line that tells the turn is its line
pub written : (table : Table) (number : ℕ) (turn : Turn) (told : ToldLine) (line : List ℕ) → Tells table number turn told → IsJournalLine told line
    → line ≡ turn_line table (number, turn)
written table number (Did who cause made) told line (words, tells, same) is =
    replica_is number who words line (cause_words cause ++ call_words table made) (λ rest step. step_is table cause made words rest tells step)
    (subst (λ (t : ToldLine). IsJournalLine t line) same is)
written table number (Stopped who cause kept) told line same is =
    replica_is number who (told_stop cause kept) line (stop_words cause kept) (stop_is cause kept) (subst (λ (t : ToldLine). IsJournalLine t line) same is)
written table number (Restarted who) told line same is =
    replica_is number who RestartTurn line (codes "restart") (λ rest word. word) (subst (λ (t : ToldLine). IsJournalLine t line) same is)
written table number (Arrived late) told line same is = arrived (subst (λ (t : ToldLine). IsJournalLine t line) same is)
  where
    arrived : IsJournalLine (ArrivalLine (Number number) (Number late)) line → line ≡ turn_line table (number, Arrived late)
    arrived has =
        let rest = has.rest_is in
        has.parts ∙ ap (λ (l : List ℕ). l ++ 32 ∷ has.rest) (decimal_of_count number has.front has.front_is)
        ∙ ap (λ (l : List ℕ). decimal number ++ 32 ∷ l)
        (rest.parts ∙ ap (λ (l : List ℕ). l ++ 32 ∷ rest.rest) rest.front_is ∙ ap (λ (l : List ℕ). codes "- arrive" ++ 32 ∷ l) (decimal_of_count late rest.rest rest.rest_is))

-- ---- the line before a part

head_by : (last : Bool) (number : ℕ) → number < 2 ^ 64
    → IsJournalLine (if last then WalkLine else CommandLine (Number number)) (codes "command " ++ (if last then codes "end" else decimal number))
head_by true number small = refl
head_by false number small = joined (codes "command") (decimal number) refl (count_of_decimal number small)

pub head_line : (parts place : ℕ) → suc place < 2 ^ 64 → IsJournalLine (told_head parts place) (part_head parts place)
head_line parts place small = head_by (suc place == parts) (suc place) small

head_only : (last : Bool) (number : ℕ) (line : List ℕ) → IsJournalLine (if last then WalkLine else CommandLine (Number number)) line
    → line ≡ codes "command " ++ (if last then codes "end" else decimal number)
head_only true number line is = is
head_only false number line is = is.parts ∙ rw (is.front_is, decimal_of_count number is.rest is.rest_is) refl

-- a line that tells a part is the line before it
pub written_head : (parts place : ℕ) (line : List ℕ) → IsJournalLine (told_head parts place) line → line ≡ part_head parts place
written_head parts place line is = head_only (suc place == parts) (suc place) line is
