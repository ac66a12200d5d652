-- What a line tells of a turn.
use Rattle.std.proofs.Common.{◌≡◌, ℕ, Bool, Option, None, Some, refl, sym, ap, ◌∙◌, subst}
use Rattle.cluster_sched.specs.declared.fate.Fate.{Fate}
use Rattle.cluster_sched.specs.declared.fate.Fate.TheVariants.{Done, LostBefore, LostAfter, Late}
use Rattle.due_set.specs.Table.{Table}
use Rattle.history.specs.declared.turn.CallRow.{CallRow}
use Rattle.history.specs.declared.turn.Cause.{Cause}
use Rattle.history.specs.declared.turn.Cause.TheVariants as cause
use Rattle.history.specs.declared.turn.Turn.{Turn}
use Rattle.history.specs.declared.turn.Turn.TheVariants.{Did, Stopped, Restarted, Arrived}
use Rattle.zone_minutes.specs.declared.minute.Minute.{Minute}
use Rattle.journal_line.specs.Told.{ToldCall, ToldLine, ToldTurn, ArrivalLine, CallTurn, DidTurn, RestartTurn, StopTurn, StopWithinTurn, TurnLine}
use Rattle.journal_line.specs.declared.line.CauseWords.{CauseWords}
use Rattle.journal_line.specs.declared.line.Count.{Count}
use Rattle.journal_line.specs.declared.line.Count.TheVariants.{Number}
use Rattle.journal_text.specs.Line.{Tells, TellsStep, told_cause, told_fate, told_made, told_stop}

-- ---- a cause and a fate are told by their words

pub cause_one : (one other : Cause) → told_cause one ≡ told_cause other → one ≡ other
cause_one cause.Campaign cause.Campaign same = refl
cause_one cause.Campaign (cause.Tick b) same = absurd cc
cause_one cause.Campaign (cause.Hear b) same = absurd cc
cause_one cause.Campaign cause.Answer same = absurd cc
cause_one (cause.Tick a) cause.Campaign same = absurd cc
cause_one (cause.Tick a) (cause.Tick b) same = cc
cause_one (cause.Tick a) (cause.Hear b) same = absurd cc
cause_one (cause.Tick a) cause.Answer same = absurd cc
cause_one (cause.Hear a) cause.Campaign same = absurd cc
cause_one (cause.Hear a) (cause.Tick b) same = absurd cc
cause_one (cause.Hear a) (cause.Hear b) same = cc
cause_one (cause.Hear a) cause.Answer same = absurd cc
cause_one cause.Answer cause.Campaign same = absurd cc
cause_one cause.Answer (cause.Tick b) same = absurd cc
cause_one cause.Answer (cause.Hear b) same = absurd cc
cause_one cause.Answer cause.Answer same = refl

pub fate_one : (one other : Fate) → told_fate one ≡ told_fate other → one ≡ other
fate_one Done Done same = refl
fate_one Done LostBefore same = absurd cc
fate_one Done LostAfter same = absurd cc
fate_one Done Late same = absurd cc
fate_one LostBefore Done same = absurd cc
fate_one LostBefore LostBefore same = refl
fate_one LostBefore LostAfter same = absurd cc
fate_one LostBefore Late same = absurd cc
fate_one LostAfter Done same = absurd cc
fate_one LostAfter LostBefore same = absurd cc
fate_one LostAfter LostAfter same = refl
fate_one LostAfter Late same = absurd cc
fate_one Late Done same = absurd cc
fate_one Late LostBefore same = absurd cc
fate_one Late LostAfter same = absurd cc
fate_one Late Late same = refl

-- ---- a line of a replica

-- whose turn a line tells, and its words
abbrev words_of : ToldLine → Option (ℕ × ToldTurn)
words_of (TurnLine number (Number who) words) = Some (who, words)
words_of line = None

same_words : (n m who other : ℕ) (words told : ToldTurn) → TurnLine (Number n) (Number who) words ≡ TurnLine (Number m) (Number other) told → (other ≡ who) × (words ≡ told)
same_words n m who other words told same =
    let both : (let one : Option (ℕ × ToldTurn) = Some (who, words) in one ≡ Some (other, told)) = ap words_of same in
    let mine : who ≡ other = cc in
    let told_so : words ≡ told = cc in
    (sym mine, told_so)

no_arrival : (n m who : ℕ) (words : ToldTurn) (late : Count) → TurnLine (Number n) (Number who) words ≡ ArrivalLine (Number m) late → ⊥
no_arrival n m who words late same = let both : (let one : Option (ℕ × ToldTurn) = Some (who, words) in one ≡ None) = ap words_of same in cc

-- the turn is that of the replica, and the words tell it
abbrev pub Says : Table → (who : ℕ) → Turn → ToldTurn → Type 0
Says table who (Did other why made) words = (other ≡ who) × TellsStep table why made words
Says table who (Stopped other why kept) words = (other ≡ who) × (words ≡ told_stop why kept)
Says table who (Restarted other) words = (other ≡ who) × (words ≡ RestartTurn)
Says table who (Arrived late) words = ⊥

pub says : (table : Table) (number n who : ℕ) (turn : Turn) (words : ToldTurn) → Tells table number turn (TurnLine (Number n) (Number who) words) → Says table who turn words
says table number n who (Did other why made) words told =
    let same = same_words n number who other words told.0 told.2 in
    (same.0, subst (λ words. TellsStep table why made words) (sym same.1) told.1)
says table number n who (Stopped other why kept) words told = same_words n number who other words (told_stop why kept) told
says table number n who (Restarted other) words told = same_words n number who other words RestartTurn told
says table number n who (Arrived late) words told = no_arrival n number who words (Number late) told

-- ---- a step without a call

did_says : (table : Table) (who : ℕ) (words : CauseWords) (turn : Turn) → Says table who turn (DidTurn words) → (why : Cause) × (told_cause why ≡ words) × (turn ≡ Did who why None)
did_says table who words (Did other why None) told =
    let both : DidTurn words ≡ DidTurn (told_cause why) = told.1 in
    let same : words ≡ told_cause why = cc in
    (why, sym same, ap (λ who. Did who why None) told.0)
did_says table who words (Did other (cause.Tick now) (Some made)) told = absurd (let both : DidTurn words ≡ CallTurn now (told_made table made) = told.1 in cc)
did_says table who words (Did other cause.Campaign (Some made)) told = absurd told.1
did_says table who words (Did other (cause.Hear letter) (Some made)) told = absurd told.1
did_says table who words (Did other cause.Answer (Some made)) told = absurd told.1
did_says table who words (Stopped other None kept) told = absurd (let both : DidTurn words ≡ StopTurn = told.1 in cc)
did_says table who words (Stopped other (Some why) kept) told = absurd (let both : DidTurn words ≡ StopWithinTurn kept (told_cause why) = told.1 in cc)
did_says table who words (Restarted other) told = absurd (let both : DidTurn words ≡ RestartTurn = told.1 in cc)
did_says table who words (Arrived late) told = absurd told

pub did_told : (table : Table) (number n who : ℕ) (why : Cause) (turn : Turn) → Tells table number turn (TurnLine (Number n) (Number who) (DidTurn (told_cause why))) → turn ≡ Did who why None
did_told table number n who why turn told =
    let found = did_says table who (told_cause why) turn (says table number n who turn (DidTurn (told_cause why)) told) in
    found.2 ∙ ap (λ why. Did who why None) (cause_one found.0 why found.1)

-- ---- a step with a call

call_says : (table : Table) (who : ℕ) (now : Minute) (call : ToldCall) (turn : Turn) → Says table who turn (CallTurn now call) → (made : CallRow) × (call ≡ told_made table made) × (turn ≡ Did who (cause.Tick now) (Some made))
call_says table who now call (Did other why None) told = absurd (let both : CallTurn now call ≡ DidTurn (told_cause why) = told.1 in cc)
call_says table who now call (Did other (cause.Tick minute) (Some made)) told =
    let both : CallTurn now call ≡ CallTurn minute (told_made table made) = told.1 in
    let read : now ≡ minute = cc in
    let same : call ≡ told_made table made = cc in
    (made, same, ap (λ who. Did who (cause.Tick minute) (Some made)) told.0 ∙ ap (λ now. Did who (cause.Tick now) (Some made)) (sym read))
call_says table who now call (Did other cause.Campaign (Some made)) told = absurd told.1
call_says table who now call (Did other (cause.Hear letter) (Some made)) told = absurd told.1
call_says table who now call (Did other cause.Answer (Some made)) told = absurd told.1
call_says table who now call (Stopped other None kept) told = absurd (let both : CallTurn now call ≡ StopTurn = told.1 in cc)
call_says table who now call (Stopped other (Some why) kept) told = absurd (let both : CallTurn now call ≡ StopWithinTurn kept (told_cause why) = told.1 in cc)
call_says table who now call (Restarted other) told = absurd (let both : CallTurn now call ≡ RestartTurn = told.1 in cc)
call_says table who now call (Arrived late) told = absurd told

pub call_told : (table : Table) (number n who : ℕ) (now : Minute) (call : ToldCall) (turn : Turn) → Tells table number turn (TurnLine (Number n) (Number who) (CallTurn now call))
    → (made : CallRow) × (call ≡ told_made table made) × (turn ≡ Did who (cause.Tick now) (Some made))
call_told table number n who now call turn told = call_says table who now call turn (says table number n who turn (CallTurn now call) told)

-- ---- a stop within a step

within_says : (table : Table) (who : ℕ) (kept : Bool) (words : CauseWords) (turn : Turn) → Says table who turn (StopWithinTurn kept words) → (why : Cause) × (told_cause why ≡ words) × (turn ≡ Stopped who (Some why) kept)
within_says table who kept words (Did other why None) told = absurd (let both : StopWithinTurn kept words ≡ DidTurn (told_cause why) = told.1 in cc)
within_says table who kept words (Did other (cause.Tick now) (Some made)) told = absurd (let both : StopWithinTurn kept words ≡ CallTurn now (told_made table made) = told.1 in cc)
within_says table who kept words (Did other cause.Campaign (Some made)) told = absurd told.1
within_says table who kept words (Did other (cause.Hear letter) (Some made)) told = absurd told.1
within_says table who kept words (Did other cause.Answer (Some made)) told = absurd told.1
within_says table who kept words (Stopped other None keeps) told = absurd (let both : StopWithinTurn kept words ≡ StopTurn = told.1 in cc)
within_says table who kept words (Stopped other (Some why) keeps) told =
    let both : StopWithinTurn kept words ≡ StopWithinTurn keeps (told_cause why) = told.1 in
    let same : words ≡ told_cause why = cc in
    let keeps_so : kept ≡ keeps = cc in
    (why, sym same, ap (λ who. Stopped who (Some why) keeps) told.0 ∙ ap (λ kept. Stopped who (Some why) kept) (sym keeps_so))
within_says table who kept words (Restarted other) told = absurd (let both : StopWithinTurn kept words ≡ RestartTurn = told.1 in cc)
within_says table who kept words (Arrived late) told = absurd told

pub within_told : (table : Table) (number n who : ℕ) (kept : Bool) (why : Cause) (turn : Turn) → Tells table number turn (TurnLine (Number n) (Number who) (StopWithinTurn kept (told_cause why)))
    → turn ≡ Stopped who (Some why) kept
within_told table number n who kept why turn told =
    let found = within_says table who kept (told_cause why) turn (says table number n who turn (StopWithinTurn kept (told_cause why)) told) in
    found.2 ∙ ap (λ why. Stopped who (Some why) kept) (cause_one found.0 why found.1)
