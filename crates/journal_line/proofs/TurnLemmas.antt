-- The words of a turn have no space, and a text that has none of its forms is none.
use Rattle.std.proofs.Common.{◌≡◌, ◌≢◌, ℕ, Bool, true, false, List, [], ◌∷◌, ◌++◌, Option, Some, None, sym, subst, rules, codes}
use Rattle.std.specs.List.{AllByRecursion}
use Rattle.paxos_base.specs.declared.entry.Kind.{Kind}
use Rattle.script_text.specs.Command.{fate_word}
use Rattle.script_text.specs.declared.command.FateWord.{FateWord}
use Rattle.script_text.specs.declared.command.FateWord.TheVariants.{Done, LostBefore, LostAfter, Late}
use Rattle.script_text.proofs.OperandLemmas.{stamp_no_space}
use Rattle.zone_minutes.specs.declared.minute.Minute.{Minute}
use Rattle.journal_line.specs.Line.{IsStamp, IsUnblank, IsNameText, kind_text, kept_text, IsCause, IsAnswerText, IsCallWith, IsCall, IsTurn}
use Rattle.journal_line.specs.Spaced.{IsWord, Spaced, LacksSpace, IsCutAtSpace}
use Rattle.journal_line.specs.Told.{ToldAnswer, ToldCall, ToldTurn, DidTurn, CallTurn, StopTurn, StopWithinTurn, RestartTurn}
use Rattle.journal_line.specs.declared.line.CauseWords.{CauseWords}
use Rattle.journal_line.specs.declared.line.CauseWords.TheVariants.{Campaign, Tick, Hear, Answer}
use Rattle.journal_line.specs.declared.line.Count.{Count}
use Rattle.journal_line.proofs.SpacedLemmas.{parts_of, no_parts, rest_behind}

-- ---- words without a space

pub word_no_space : (word : List ℕ) → LacksSpace word → (text : List ℕ) → IsWord word text → LacksSpace text
word_no_space word lacks text is = subst LacksSpace (sym is) lacks

fate_lacks : (fate : FateWord) → LacksSpace (fate_word fate)
fate_lacks Done = search rules
fate_lacks LostBefore = search rules
fate_lacks LostAfter = search rules
fate_lacks Late = search rules

pub fate_no_space : (fate : FateWord) (text : List ℕ) → IsWord (fate_word fate) text → LacksSpace text
fate_no_space fate = word_no_space (fate_word fate) (fate_lacks fate)

kept_lacks : (kept : Bool) → LacksSpace (kept_text kept)
kept_lacks true = search rules
kept_lacks false = search rules

pub kept_no_space : (kept : Bool) (text : List ℕ) → IsWord (kept_text kept) text → LacksSpace text
kept_no_space kept = word_no_space (kept_text kept) (kept_lacks kept)

pub instant_no_space : (at : Minute) (text : List ℕ) → IsStamp at text → LacksSpace text
instant_no_space at text is = subst LacksSpace (sym is.is) (stamp_no_space at.0)

unblank_lack : (text : List ℕ) → AllByRecursion IsUnblank text → LacksSpace text
unblank_lack [] unblank = tt
unblank_lack (c ∷ cs) unblank = (unblank.0.0, unblank_lack cs unblank.1)

pub name_no_space : (name text : List ℕ) → IsNameText name text → LacksSpace text
name_no_space name text is = unblank_lack text is.word.unblank

-- ---- answers and calls

pub answer_parts : (text name kind : List ℕ) → IsCutAtSpace text name kind → (answer : ToldAnswer) → IsAnswerText answer text → IsNameText answer.name name × IsWord (kind_text answer.kind) kind
answer_parts text name kind cut answer is = parts_of text name kind cut (name_no_space answer.name) is

pub no_answer : (text : List ℕ) → LacksSpace text → (answer : ToldAnswer) → IsAnswerText answer text → ⊥
no_answer text lacks answer is = no_parts text lacks is

pub no_kind : (text name kind : List ℕ) → IsCutAtSpace text name kind → ((k : Kind) → kind ≢ kind_text k) → (answer : ToldAnswer) → IsAnswerText answer text → ⊥
no_kind text name kind cut none answer is = none answer.kind (answer_parts text name kind cut answer is).1

-- a text that is no fate, and that has no fate and an answer
pub no_call : (text : List ℕ) → ((fate : FateWord) → text ≢ fate_word fate) → ((fate : FateWord) (answer : ToldAnswer) → Spaced (IsWord (fate_word fate)) (IsAnswerText answer) text → ⊥)
    → (call : ToldCall) → IsCall call text → ⊥
no_call text whole parts call is = by_answer call.answer call.fate is
  where
    by_answer : (answer : Option ToldAnswer) (fate : FateWord) → IsCallWith answer (fate_word fate) text → ⊥
    by_answer None fate says = whole fate says
    by_answer (Some answer) fate says = parts fate answer says

pub no_fate_part : (text first rest : List ℕ) → IsCutAtSpace text first rest → ((fate : FateWord) → first ≢ fate_word fate) → (fate : FateWord) (answer : ToldAnswer)
    → Spaced (IsWord (fate_word fate)) (IsAnswerText answer) text → ⊥
no_fate_part text first rest cut none fate answer is = none fate (parts_of text first rest cut (fate_no_space fate) is).0

pub no_answer_part : (text first rest : List ℕ) → IsCutAtSpace text first rest → ((answer : ToldAnswer) → IsAnswerText answer rest → ⊥) → (fate : FateWord) (answer : ToldAnswer)
    → Spaced (IsWord (fate_word fate)) (IsAnswerText answer) text → ⊥
no_answer_part text first rest cut none fate answer is = none answer (parts_of text first rest cut (fate_no_space fate) is).1

-- ---- stops and ticks, from what stands behind their first word

-- the rest of a stop or of a tick with a call
abbrev pub IsStopRest : Bool → CauseWords → List ℕ → Type 0
IsStopRest kept cause = Spaced (IsWord (kept_text kept)) (IsCause cause)

abbrev pub IsCallRest : Minute → ToldCall → List ℕ → Type 0
IsCallRest now call = Spaced (IsStamp now) (IsCall call)

pub stop_rest : (text rest : List ℕ) → text ≡ codes "stop" ++ 32 ∷ rest → (kept : Bool) (cause : CauseWords) → IsTurn (StopWithinTurn kept cause) text → IsStopRest kept cause rest
stop_rest text rest e kept cause is = rest_behind (codes "stop") text rest e is

pub stop_parts : (text rest a x : List ℕ) → text ≡ codes "stop" ++ 32 ∷ rest → IsCutAtSpace rest a x → (kept : Bool) (cause : CauseWords) → IsTurn (StopWithinTurn kept cause) text
    → IsWord (kept_text kept) a × IsCause cause x
stop_parts text rest a x e cut kept cause is = parts_of rest a x cut (kept_no_space kept) (stop_rest text rest e kept cause is)

pub call_rest : (text rest : List ℕ) → text ≡ codes "tick" ++ 32 ∷ rest → (now : Minute) (call : ToldCall) → IsTurn (CallTurn now call) text → IsCallRest now call rest
call_rest text rest e now call is = rest_behind (codes "tick") text rest e is

pub call_parts : (text rest a x : List ℕ) → text ≡ codes "tick" ++ 32 ∷ rest → IsCutAtSpace rest a x → (now : Minute) (call : ToldCall) → IsTurn (CallTurn now call) text → IsStamp now a × IsCall call x
call_parts text rest a x e cut now call is = parts_of rest a x cut (instant_no_space now) (call_rest text rest e now call is)

-- ---- all forms

pub no_cause : (text : List ℕ) → text ≢ codes "campaign" → text ≢ codes "answer" → ((now : Minute) → IsCause (Tick now) text → ⊥) → ((letter : Count) → IsCause (Hear letter) text → ⊥)
    → (cause : CauseWords) → IsCause cause text → ⊥
no_cause text campaign answer tick hear Campaign is = campaign is
no_cause text campaign answer tick hear (Tick now) is = tick now is
no_cause text campaign answer tick hear (Hear letter) is = hear letter is
no_cause text campaign answer tick hear Answer is = answer is

pub no_turn : (text : List ℕ) → text ≢ codes "restart" → text ≢ codes "stop" → ((cause : CauseWords) → IsCause cause text → ⊥)
    → ((kept : Bool) (cause : CauseWords) → IsTurn (StopWithinTurn kept cause) text → ⊥) → ((now : Minute) (call : ToldCall) → IsTurn (CallTurn now call) text → ⊥)
    → (turn : ToldTurn) → IsTurn turn text → ⊥
no_turn text restart stop cause within call (DidTurn for) is = cause for is
no_turn text restart stop cause within call (CallTurn now made) is = call now made is
no_turn text restart stop cause within call StopTurn is = stop is
no_turn text restart stop cause within call (StopWithinTurn kept for) is = within kept for is
no_turn text restart stop cause within call RestartTurn is = restart is
