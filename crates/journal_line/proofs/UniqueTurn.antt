-- The words of a turn have one reading.
use Rattle.std.proofs.Common.{◌≡◌, ◌≢◌, ℕ, ◌+◌, ◌==◌, if◌then◌else◌, Bool, true, false, List, ◌∷◌, ◌++◌, get_or, Option, Some, None, refl, ap, sym, subst, ◌∙◌, arith, rules, codes}
use Rattle.paxos_base.specs.declared.entry.Kind.{Kind}
use Rattle.paxos_base.specs.declared.entry.Kind.TheVariants.{Launch, Void}
use Rattle.script_text.specs.Command.{fate_word}
use Rattle.script_text.specs.declared.command.FateWord.{FateWord}
use Rattle.script_text.proofs.CutLemmas.{same_cut}
use Rattle.script_text.proofs.UniqueLemmas.{same_fate, same_minute}
use Rattle.zone_minutes.specs.declared.minute.Minute.{Minute}
use Rattle.zone_minutes.proofs.StampLemmas.{stamp_text-injective}
use Rattle.journal_line.specs.Line.{IsStamp, kind_text, kept_text, IsCause, IsAnswerText, IsCallWith, IsCall, IsTurn}
use Rattle.journal_line.specs.Spaced.{IsWord, Spaced, LacksSpace}
use Rattle.journal_line.specs.Told.{ToldAnswer, ToldCall, ToldTurn, DidTurn, CallTurn, StopTurn, StopWithinTurn, RestartTurn}
use Rattle.journal_line.specs.declared.line.CauseWords.{CauseWords}
use Rattle.journal_line.specs.declared.line.CauseWords.TheVariants.{Campaign, Tick, Hear, Answer}
use Rattle.journal_line.proofs.CountLemmas.{same_count}
use Rattle.journal_line.proofs.SpacedLemmas.{no_parts}
use Rattle.journal_line.proofs.TurnLemmas.{word_no_space, fate_no_space, kept_no_space, instant_no_space, name_no_space}

-- ---- two readings of one text

-- what two readings say of the parts of a text
pub record Meet (F G R S : List ℕ → Type 0) : Type 0 where
  pub front : List ℕ
  pub rest : List ℕ
  pub one_front : F front
  pub other_front : G front
  pub one_rest : R rest
  pub other_rest : S rest

pub meet : {F G R S : List ℕ → Type 0} (text : List ℕ) → ((t : List ℕ) → F t → LacksSpace t) → ((t : List ℕ) → G t → LacksSpace t) → Spaced F R text → Spaced G S text → Meet F G R S
meet {F} {G} {R} {S} text lacks has a b =
    let same = same_cut 32 a.front b.front a.rest b.rest (lacks a.front a.front_is) (has b.front b.front_is) (sym a.parts ∙ b.parts) in
    record { front = b.front; rest = b.rest; one_front = subst F same.0 a.front_is; other_front = b.front_is; one_rest = subst R same.1 a.rest_is; other_rest = b.rest_is }

-- the first byte of a text
abbrev pub first_byte : List ℕ → ℕ
first_byte text = get_or text 0 0

pub text_is : {R : List ℕ → Type 0} (word text : List ℕ) (is : Spaced (IsWord word) R text) → text ≡ word ++ 32 ∷ is.rest
text_is word text is = is.parts ∙ ap (λ front. front ++ 32 ∷ is.rest) is.front_is

-- ---- words

abbrev kind_of : List ℕ → Kind
kind_of word = if first_byte word == 108 then Launch else Void

kind_is : (kind : Kind) → kind_of (kind_text kind) ≡ kind
kind_is Launch = refl
kind_is Void = refl

same_kind : (a b : Kind) → kind_text a ≡ kind_text b → a ≡ b
same_kind a b is = sym (kind_is a) ∙ ap kind_of is ∙ kind_is b

abbrev kept_of : List ℕ → Bool
kept_of word = first_byte word == 107

kept_is : (kept : Bool) → kept_of (kept_text kept) ≡ kept
kept_is true = refl
kept_is false = refl

same_kept : (a b : Bool) → kept_text a ≡ kept_text b → a ≡ b
same_kept a b is = sym (kept_is a) ∙ ap kept_of is ∙ kept_is b

same_stamp : (a b : Minute) (text : List ℕ) → IsStamp a text → IsStamp b text → a ≡ b
same_stamp a b text p q =
    same_minute a b (stamp_text-injective a.0 b.0 p.calendar q.calendar (sym p.is ∙ q.is))

-- ---- causes

tick_no_space : (text : List ℕ) → IsWord (codes "tick") text → LacksSpace text
tick_no_space = word_no_space (codes "tick") (search rules)

hear_no_space : (text : List ℕ) → IsWord (codes "hear") text → LacksSpace text
hear_no_space = word_no_space (codes "hear") (search rules)

stop_no_space : (text : List ℕ) → IsWord (codes "stop") text → LacksSpace text
stop_no_space = word_no_space (codes "stop") (search rules)

-- the first byte of a cause's words
abbrev first_of : CauseWords → ℕ
first_of Campaign = 99
first_of (Tick now) = 116
first_of (Hear letter) = 104
first_of Answer = 97

begins : (cause : CauseWords) (text : List ℕ) → IsCause cause text → first_byte text ≡ first_of cause
begins Campaign text is = ap first_byte is
begins (Tick now) text is = ap first_byte (text_is (codes "tick") text is)
begins (Hear letter) text is = ap first_byte (text_is (codes "hear") text is)
begins Answer text is = ap first_byte is

other_cause : (a b : CauseWords) (text : List ℕ) → first_of a ≢ first_of b → IsCause a text → IsCause b text → a ≡ b
other_cause a b text other p q = absurd (other (sym (begins a text p) ∙ begins b text q))

same_cause : (a b : CauseWords) (text : List ℕ) → IsCause a text → IsCause b text → a ≡ b
same_cause Campaign Campaign text p q = refl
same_cause (Tick a) (Tick b) text p q =
    let both = meet text tick_no_space tick_no_space p q in
    ap Tick (same_stamp a b both.rest both.one_rest both.other_rest)
same_cause (Hear a) (Hear b) text p q =
    let both = meet text hear_no_space hear_no_space p q in
    ap Hear (same_count a b both.rest both.one_rest both.other_rest)
same_cause Answer Answer text p q = refl
same_cause Campaign (Tick b) text p q = other_cause Campaign (Tick b) text (λ e. omega (arith, e)) p q
same_cause Campaign (Hear b) text p q = other_cause Campaign (Hear b) text (λ e. omega (arith, e)) p q
same_cause Campaign Answer text p q = other_cause Campaign Answer text (λ e. omega (arith, e)) p q
same_cause (Tick a) Campaign text p q = other_cause (Tick a) Campaign text (λ e. omega (arith, e)) p q
same_cause (Tick a) (Hear b) text p q = other_cause (Tick a) (Hear b) text (λ e. omega (arith, e)) p q
same_cause (Tick a) Answer text p q = other_cause (Tick a) Answer text (λ e. omega (arith, e)) p q
same_cause (Hear a) Campaign text p q = other_cause (Hear a) Campaign text (λ e. omega (arith, e)) p q
same_cause (Hear a) (Tick b) text p q = other_cause (Hear a) (Tick b) text (λ e. omega (arith, e)) p q
same_cause (Hear a) Answer text p q = other_cause (Hear a) Answer text (λ e. omega (arith, e)) p q
same_cause Answer Campaign text p q = other_cause Answer Campaign text (λ e. omega (arith, e)) p q
same_cause Answer (Tick b) text p q = other_cause Answer (Tick b) text (λ e. omega (arith, e)) p q
same_cause Answer (Hear b) text p q = other_cause Answer (Hear b) text (λ e. omega (arith, e)) p q

-- ---- calls

same_answer : (a b : ToldAnswer) (text : List ℕ) → IsAnswerText a text → IsAnswerText b text → a ≡ b
same_answer a b text p q =
    let both = meet text (name_no_space a.name) (name_no_space b.name) p q in
    let names : a.name ≡ b.name = sym both.one_front.is ∙ both.other_front.is in
    let kinds = same_kind a.kind b.kind (sym both.one_rest ∙ both.other_rest) in
    let answer : List ℕ → Kind → ToldAnswer = λ name kind. record { name = name; kind = kind } in
    let same : answer a.name a.kind ≡ answer b.name b.kind = rw (names, kinds) refl in
    same

same_parts_of_call : (x y : Option ToldAnswer) (f g : FateWord) (text : List ℕ) → IsCallWith x (fate_word f) text → IsCallWith y (fate_word g) text → (x ≡ y) × (f ≡ g)
same_parts_of_call None None f g text p q = (refl, same_fate f g (sym p ∙ q))
same_parts_of_call None (Some b) f g text p q = absurd (no_parts text (fate_no_space f text p) q)
same_parts_of_call (Some a) None f g text p q = absurd (no_parts text (fate_no_space g text q) p)
same_parts_of_call (Some a) (Some b) f g text p q =
    let both = meet text (fate_no_space f) (fate_no_space g) p q in
    (ap Some (same_answer a b both.rest both.one_rest both.other_rest), same_fate f g (sym both.one_front ∙ both.other_front))

same_call : (a b : ToldCall) (text : List ℕ) → IsCall a text → IsCall b text → a ≡ b
same_call a b text p q =
    let parts = same_parts_of_call a.answer b.answer a.fate b.fate text p q in
    let call : FateWord → Option ToldAnswer → ToldCall = λ fate answer. record { fate = fate; answer = answer } in
    let same : call a.fate a.answer ≡ call b.fate b.answer = rw (parts.1, parts.0) refl in
    same

-- ---- turns

abbrev first_of_turn : ToldTurn → ℕ
first_of_turn (DidTurn cause) = first_of cause
first_of_turn (CallTurn now call) = 116
first_of_turn StopTurn = 115
first_of_turn (StopWithinTurn kept cause) = 115
first_of_turn RestartTurn = 114

turn_begins : (turn : ToldTurn) (text : List ℕ) → IsTurn turn text → first_byte text ≡ first_of_turn turn
turn_begins (DidTurn cause) text is = begins cause text is
turn_begins (CallTurn now call) text is = ap first_byte (text_is (codes "tick") text is)
turn_begins StopTurn text is = ap first_byte is
turn_begins (StopWithinTurn kept cause) text is = ap first_byte (text_is (codes "stop") text is)
turn_begins RestartTurn text is = ap first_byte is

apart : (a b : ToldTurn) (text : List ℕ) → first_of_turn a ≢ first_of_turn b → IsTurn a text → IsTurn b text → ⊥
apart a b text other p q = other (sym (turn_begins a text p) ∙ turn_begins b text q)

no_stop : (cause : CauseWords) → first_of cause ≢ 115
no_stop Campaign e = omega (arith, e)
no_stop (Tick now) e = omega (arith, e)
no_stop (Hear letter) e = omega (arith, e)
no_stop Answer e = omega (arith, e)

no_restart : (cause : CauseWords) → first_of cause ≢ 114
no_restart Campaign e = omega (arith, e)
no_restart (Tick now) e = omega (arith, e)
no_restart (Hear letter) e = omega (arith, e)
no_restart Answer e = omega (arith, e)

-- behind a stamp stands a call, or nothing
did_no_call : (cause : CauseWords) (now : Minute) (call : ToldCall) (text : List ℕ) → IsCause cause text → IsTurn (CallTurn now call) text → ⊥
did_no_call Campaign now call text p q = apart (DidTurn Campaign) (CallTurn now call) text (λ e. omega (arith, e)) p q
did_no_call (Tick at) now call text p q =
    let both = meet text tick_no_space tick_no_space p q in
    no_parts both.rest (instant_no_space at both.rest both.one_rest) both.other_rest
did_no_call (Hear letter) now call text p q = apart (DidTurn (Hear letter)) (CallTurn now call) text (λ e. omega (arith, e)) p q
did_no_call Answer now call text p q = apart (DidTurn Answer) (CallTurn now call) text (λ e. omega (arith, e)) p q

stop_no_within : (kept : Bool) (cause : CauseWords) (text : List ℕ) → IsTurn StopTurn text → IsTurn (StopWithinTurn kept cause) text → ⊥
stop_no_within kept cause text p q = no_parts text (stop_no_space text p) q

same_called : (a b : Minute) (x y : ToldCall) (text : List ℕ) → IsTurn (CallTurn a x) text → IsTurn (CallTurn b y) text → CallTurn a x ≡ CallTurn b y
same_called a b x y text p q =
    let both = meet text tick_no_space tick_no_space p q in
    let more = meet both.rest (instant_no_space a) (instant_no_space b) both.one_rest both.other_rest in
    let stamps = same_stamp a b more.front more.one_front more.other_front in
    let calls = same_call x y more.rest more.one_rest more.other_rest in
    rw (stamps, calls) refl

same_within : (a b : Bool) (x y : CauseWords) (text : List ℕ) → IsTurn (StopWithinTurn a x) text → IsTurn (StopWithinTurn b y) text → StopWithinTurn a x ≡ StopWithinTurn b y
same_within a b x y text p q =
    let both = meet text stop_no_space stop_no_space p q in
    let more = meet both.rest (kept_no_space a) (kept_no_space b) both.one_rest both.other_rest in
    let kepts = same_kept a b (sym more.one_front ∙ more.other_front) in
    let causes = same_cause x y more.rest more.one_rest more.other_rest in
    rw (kepts, causes) refl

pub same_turn : (a b : ToldTurn) (text : List ℕ) → IsTurn a text → IsTurn b text → a ≡ b
same_turn (DidTurn a) (DidTurn b) text p q = ap DidTurn (same_cause a b text p q)
same_turn (DidTurn a) (CallTurn now call) text p q = absurd (did_no_call a now call text p q)
same_turn (DidTurn a) StopTurn text p q = absurd (apart (DidTurn a) StopTurn text (no_stop a) p q)
same_turn (DidTurn a) (StopWithinTurn kept b) text p q = absurd (apart (DidTurn a) (StopWithinTurn kept b) text (no_stop a) p q)
same_turn (DidTurn a) RestartTurn text p q = absurd (apart (DidTurn a) RestartTurn text (no_restart a) p q)
same_turn (CallTurn now call) (DidTurn b) text p q = absurd (did_no_call b now call text q p)
same_turn (CallTurn a x) (CallTurn b y) text p q = same_called a b x y text p q
same_turn (CallTurn a x) StopTurn text p q = absurd (apart (CallTurn a x) StopTurn text (λ e. omega (arith, e)) p q)
same_turn (CallTurn a x) (StopWithinTurn kept b) text p q = absurd (apart (CallTurn a x) (StopWithinTurn kept b) text (λ e. omega (arith, e)) p q)
same_turn (CallTurn a x) RestartTurn text p q = absurd (apart (CallTurn a x) RestartTurn text (λ e. omega (arith, e)) p q)
same_turn StopTurn (DidTurn b) text p q = absurd (apart (DidTurn b) StopTurn text (no_stop b) q p)
same_turn StopTurn (CallTurn b y) text p q = absurd (apart (CallTurn b y) StopTurn text (λ e. omega (arith, e)) q p)
same_turn StopTurn StopTurn text p q = refl
same_turn StopTurn (StopWithinTurn kept b) text p q = absurd (stop_no_within kept b text p q)
same_turn StopTurn RestartTurn text p q = absurd (apart StopTurn RestartTurn text (λ e. omega (arith, e)) p q)
same_turn (StopWithinTurn kept a) (DidTurn b) text p q = absurd (apart (DidTurn b) (StopWithinTurn kept a) text (no_stop b) q p)
same_turn (StopWithinTurn kept a) (CallTurn b y) text p q = absurd (apart (CallTurn b y) (StopWithinTurn kept a) text (λ e. omega (arith, e)) q p)
same_turn (StopWithinTurn kept a) StopTurn text p q = absurd (stop_no_within kept a text q p)
same_turn (StopWithinTurn a x) (StopWithinTurn b y) text p q = same_within a b x y text p q
same_turn (StopWithinTurn kept a) RestartTurn text p q = absurd (apart (StopWithinTurn kept a) RestartTurn text (λ e. omega (arith, e)) p q)
same_turn RestartTurn (DidTurn b) text p q = absurd (apart (DidTurn b) RestartTurn text (no_restart b) q p)
same_turn RestartTurn (CallTurn b y) text p q = absurd (apart (CallTurn b y) RestartTurn text (λ e. omega (arith, e)) q p)
same_turn RestartTurn StopTurn text p q = absurd (apart StopTurn RestartTurn text (λ e. omega (arith, e)) q p)
same_turn RestartTurn (StopWithinTurn kept b) text p q = absurd (apart (StopWithinTurn kept b) RestartTurn text (λ e. omega (arith, e)) q p)
same_turn RestartTurn RestartTurn text p q = refl
