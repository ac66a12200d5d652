-- What the words of a turn say of it.
use Rattle.std.proofs.Common.{◌≡◌, ◌≢◌, ℕ, ◌<◌, ◌^◌, Bool, true, false, List, [], ◌∷◌, ◌++◌, get_or, Option, None, Some, refl, ap, sym, ◌∙◌, arith, codes, decimal}
use Rattle.std.specs.Prelude.{⊤, IfSome}
use Rattle.std.proofs.lemmas.List.{append_cancel_left}
use Rattle.std.proofs.lemmas.Fmt.{decimal_injective}
use Rattle.zone_minutes.specs.Stamp.{stamp_text}
use Rattle.zone_minutes.proofs.StampLemmas.{stamp_text-injective}
use Rattle.cluster_sched.specs.declared.fate.Fate.{Fate}
use Rattle.cluster_sched.specs.declared.fate.Fate.TheVariants.{Done, LostBefore, LostAfter, Late}
use Rattle.due_set.specs.Table.{Table}
use Rattle.history.specs.declared.turn.CallRow.{CallRow}
use Rattle.history.specs.declared.turn.Cause.{Cause}
use Rattle.history.specs.declared.turn.Cause.TheVariants.{Campaign, Tick, Hear, Answer}
use Rattle.script_text.proofs.CutLemmas.{Lacks}
use Rattle.script_text.proofs.OperandLemmas.{decimal_no_space, stamp_no_space}
use Rattle.journal_text.specs.Journal.{answer_words, call_words, cause_words, kept_word, stop_words, word_of_fate}
use Rattle.journal_text.specs.Told.{HasStamp, IsNumbered}
use Rattle.script_text.proofs.UniqueLemmas.{same_minute}

-- the byte at a place
abbrev byte_at : ℕ → List ℕ → ℕ
byte_at place text = get_or text place 0

-- texts with two bytes at one place are two
apart : (place a b : ℕ) (x y : List ℕ) → byte_at place x ≡ a → byte_at place y ≡ b → a ≢ b → x ≡ y → ⊥
apart place a b x y at_a at_b other e = other (sym at_a ∙ ap (byte_at place) e ∙ at_b)

-- nothing, or a blank and more
abbrev IsTail : List ℕ → Type 0
IsTail [] = ⊤
IsTail (c ∷ cs) = c ≡ 32

-- a word ends at the first blank, or at the end
word_cut : (a b x y : List ℕ) → Lacks 32 a → Lacks 32 b → IsTail x → IsTail y → a ++ x ≡ b ++ y → (a ≡ b) × (x ≡ y)
word_cut [] [] x y la lb tx ty e = (refl, e)
word_cut [] (b ∷ bs) [] y la lb tx ty e = absurd cc
word_cut [] (b ∷ bs) (c ∷ cs) y la lb tx ty e =
    let head : c ≡ b = cc in absurd (lb.0 (sym head ∙ tx))
word_cut (a ∷ as') [] x [] la lb tx ty e = absurd cc
word_cut (a ∷ as') [] x (c ∷ cs) la lb tx ty e =
    let head : a ≡ c = cc in absurd (la.0 (head ∙ ty))
word_cut (a ∷ as') (b ∷ bs) x y la lb tx ty e =
    let rest : as' ++ x ≡ bs ++ y = cc in
    let more = word_cut as' bs x y la.1 lb.1 tx ty rest in
    let head : a ≡ b = cc in
    let tail = more.0 in
    (cc, more.1)

same_number : (a b : ℕ) (x y : List ℕ) → a < 2 ^ 64 → b < 2 ^ 64 → IsTail x → IsTail y → decimal a ++ x ≡ decimal b ++ y → (a ≡ b) × (x ≡ y)
same_number a b x y small low tx ty e =
    let cut = word_cut (decimal a) (decimal b) x y (decimal_no_space a small) (decimal_no_space b low) tx ty e in
    (decimal_injective a b small low cut.0, cut.1)

-- ---- causes

-- the first byte of a cause's words
abbrev first_of : Cause → ℕ
first_of Campaign = 99
first_of (Tick now) = 116
first_of (Hear letter) = 104
first_of Answer = 97

begins : (cause : Cause) (x : List ℕ) → byte_at 0 (cause_words cause ++ x) ≡ first_of cause
begins Campaign x = refl
begins (Tick now) x = refl
begins (Hear letter) x = refl
begins Answer x = refl

-- no cause's words begin as those of a stop or of a new start do
no_stop : (cause : Cause) → first_of cause ≢ 115
no_stop Campaign e = omega (arith, e)
no_stop (Tick now) e = omega (arith, e)
no_stop (Hear letter) e = omega (arith, e)
no_stop Answer e = omega (arith, e)

no_restart : (cause : Cause) → first_of cause ≢ 114
no_restart Campaign e = omega (arith, e)
no_restart (Tick now) e = omega (arith, e)
no_restart (Hear letter) e = omega (arith, e)
no_restart Answer e = omega (arith, e)

-- the words of two causes that differ in kind begin with two bytes
pub apart_causes : (a b : Cause) (x y : List ℕ) → first_of a ≢ first_of b → cause_words a ++ x ≡ cause_words b ++ y → ⊥
apart_causes a b x y other e = apart 0 (first_of a) (first_of b) (cause_words a ++ x) (cause_words b ++ y) (begins a x) (begins b y) other e

-- words begin with those of one cause
pub same_cause : (a b : Cause) (x y : List ℕ) → HasStamp a → HasStamp b → IsNumbered a → IsNumbered b → IsTail x → IsTail y
    → cause_words a ++ x ≡ cause_words b ++ y → (a ≡ b) × (x ≡ y)
same_cause Campaign Campaign x y sa sb na nb tx ty e = (refl, append_cancel_left (codes "campaign") x y e)
same_cause (Tick a) (Tick b) x y sa sb na nb tx ty e =
    let cut = word_cut (stamp_text a.0) (stamp_text b.0) x y (stamp_no_space a.0) (stamp_no_space b.0) tx ty
    (append_cancel_left (codes "tick ") (stamp_text a.0 ++ x) (stamp_text b.0 ++ y) e) in
    (ap Tick (same_minute a b (stamp_text-injective a.0 b.0 sa sb cut.0)), cut.1)
same_cause (Hear a) (Hear b) x y sa sb na nb tx ty e =
    let cut = same_number a b x y na nb tx ty (append_cancel_left (codes "hear ") (decimal a ++ x) (decimal b ++ y) e) in
    (ap Hear cut.0, cut.1)
same_cause Answer Answer x y sa sb na nb tx ty e = (refl, append_cancel_left (codes "answer") x y e)
same_cause Campaign (Tick b) x y sa sb na nb tx ty e = absurd (apart_causes Campaign (Tick b) x y (λ is. omega (arith, is)) e)
same_cause Campaign (Hear b) x y sa sb na nb tx ty e = absurd (apart_causes Campaign (Hear b) x y (λ is. omega (arith, is)) e)
same_cause Campaign Answer x y sa sb na nb tx ty e = absurd (apart_causes Campaign Answer x y (λ is. omega (arith, is)) e)
same_cause (Tick a) Campaign x y sa sb na nb tx ty e = absurd (apart_causes (Tick a) Campaign x y (λ is. omega (arith, is)) e)
same_cause (Tick a) (Hear b) x y sa sb na nb tx ty e = absurd (apart_causes (Tick a) (Hear b) x y (λ is. omega (arith, is)) e)
same_cause (Tick a) Answer x y sa sb na nb tx ty e = absurd (apart_causes (Tick a) Answer x y (λ is. omega (arith, is)) e)
same_cause (Hear a) Campaign x y sa sb na nb tx ty e = absurd (apart_causes (Hear a) Campaign x y (λ is. omega (arith, is)) e)
same_cause (Hear a) (Tick b) x y sa sb na nb tx ty e = absurd (apart_causes (Hear a) (Tick b) x y (λ is. omega (arith, is)) e)
same_cause (Hear a) Answer x y sa sb na nb tx ty e = absurd (apart_causes (Hear a) Answer x y (λ is. omega (arith, is)) e)
same_cause Answer Campaign x y sa sb na nb tx ty e = absurd (apart_causes Answer Campaign x y (λ is. omega (arith, is)) e)
same_cause Answer (Tick b) x y sa sb na nb tx ty e = absurd (apart_causes Answer (Tick b) x y (λ is. omega (arith, is)) e)
same_cause Answer (Hear b) x y sa sb na nb tx ty e = absurd (apart_causes Answer (Hear b) x y (λ is. omega (arith, is)) e)

-- ---- calls

fate_apart : (place a b : ℕ) (one other : Fate) (x y : List ℕ) → byte_at place (word_of_fate one ++ x) ≡ a → byte_at place (word_of_fate other ++ y) ≡ b → a ≢ b
    → word_of_fate one ++ x ≡ word_of_fate other ++ y → ⊥
fate_apart place a b one other x y at_a at_b differ e = apart place a b (word_of_fate one ++ x) (word_of_fate other ++ y) at_a at_b differ e

same_fate : (a b : Fate) (x y : List ℕ) → word_of_fate a ++ x ≡ word_of_fate b ++ y → a ≡ b
same_fate Done Done x y e = refl
same_fate LostBefore LostBefore x y e = refl
same_fate LostAfter LostAfter x y e = refl
same_fate Late Late x y e = refl
same_fate Done LostBefore x y e = absurd (fate_apart 0 100 108 Done LostBefore x y refl refl (λ is. omega (arith, is)) e)
same_fate Done LostAfter x y e = absurd (fate_apart 0 100 108 Done LostAfter x y refl refl (λ is. omega (arith, is)) e)
same_fate Done Late x y e = absurd (fate_apart 0 100 108 Done Late x y refl refl (λ is. omega (arith, is)) e)
same_fate LostBefore Done x y e = absurd (fate_apart 0 108 100 LostBefore Done x y refl refl (λ is. omega (arith, is)) e)
same_fate LostBefore LostAfter x y e = absurd (fate_apart 5 98 97 LostBefore LostAfter x y refl refl (λ is. omega (arith, is)) e)
same_fate LostBefore Late x y e = absurd (fate_apart 1 111 97 LostBefore Late x y refl refl (λ is. omega (arith, is)) e)
same_fate LostAfter Done x y e = absurd (fate_apart 0 108 100 LostAfter Done x y refl refl (λ is. omega (arith, is)) e)
same_fate LostAfter LostBefore x y e = absurd (fate_apart 5 97 98 LostAfter LostBefore x y refl refl (λ is. omega (arith, is)) e)
same_fate LostAfter Late x y e = absurd (fate_apart 1 111 97 LostAfter Late x y refl refl (λ is. omega (arith, is)) e)
same_fate Late Done x y e = absurd (fate_apart 0 108 100 Late Done x y refl refl (λ is. omega (arith, is)) e)
same_fate Late LostBefore x y e = absurd (fate_apart 1 97 111 Late LostBefore x y refl refl (λ is. omega (arith, is)) e)
same_fate Late LostAfter x y e = absurd (fate_apart 1 97 111 Late LostAfter x y refl refl (λ is. omega (arith, is)) e)

-- the fate of a call, where one was made
abbrev pub fate_in : Option CallRow → Option Fate
fate_in None = None
fate_in (Some made) = Some made.fate

call_is_tail : (table : Table) (made : Option CallRow) → IsTail (call_words table made)
call_is_tail table None = tt
call_is_tail table (Some made) = refl

same_call : (table : Table) (a b : Option CallRow) → call_words table a ≡ call_words table b → fate_in a ≡ fate_in b
same_call table None None e = refl
same_call table None (Some b) e = absurd cc
same_call table (Some a) None e = absurd cc
same_call table (Some a) (Some b) e =
    let rest : word_of_fate a.fate ++ answer_words table a.answer ≡ word_of_fate b.fate ++ answer_words table b.answer = cc in
    ap Some (same_fate a.fate b.fate (answer_words table a.answer) (answer_words table b.answer) rest)

-- what a step's words say: its cause, and the fate of its call
pub same_step : (table : Table) (a b : Cause) (made other : Option CallRow) → HasStamp a → HasStamp b → IsNumbered a → IsNumbered b
    → cause_words a ++ call_words table made ≡ cause_words b ++ call_words table other → (a ≡ b) × (fate_in made ≡ fate_in other)
same_step table a b made other sa sb na nb e =
    let cut = same_cause a b (call_words table made) (call_words table other) sa sb na nb (call_is_tail table made) (call_is_tail table other) e in
    (cut.0, same_call table made other cut.1)

-- ---- stops

stop_begins : (cause : Option Cause) (kept : Bool) → byte_at 0 (stop_words cause kept) ≡ 115
stop_begins None kept = refl
stop_begins (Some cause) kept = refl

-- a step's words are no stop's, and none of a new start; nor are a stop's
pub step_no_stop : (table : Table) (a : Cause) (made : Option CallRow) (b : Option Cause) (kept : Bool)
    → cause_words a ++ call_words table made ≡ stop_words b kept → ⊥
step_no_stop table a made b kept e =
    apart 0 (first_of a) 115 (cause_words a ++ call_words table made) (stop_words b kept) (begins a (call_words table made)) (stop_begins b kept) (no_stop a) e

pub step_no_restart : (table : Table) (a : Cause) (made : Option CallRow) → cause_words a ++ call_words table made ≡ codes "restart" → ⊥
step_no_restart table a made e =
    apart 0 (first_of a) 114 (cause_words a ++ call_words table made) (codes "restart") (begins a (call_words table made)) refl (no_restart a) e

pub stop_no_restart : (a : Option Cause) (kept : Bool) → stop_words a kept ≡ codes "restart" → ⊥
stop_no_restart a kept e = apart 0 115 114 (stop_words a kept) (codes "restart") (stop_begins a kept) refl (λ is. omega (arith, is)) e

same_kept : (a b : Bool) (x y : List ℕ) → kept_word a ++ x ≡ kept_word b ++ y → (a ≡ b) × (x ≡ y)
same_kept true true x y e = (refl, append_cancel_left (codes " kept ") x y e)
same_kept false false x y e = (refl, append_cancel_left (codes " lost ") x y e)
same_kept true false x y e = absurd (apart 1 107 108 (kept_word true ++ x) (kept_word false ++ y) refl refl (λ is. omega (arith, is)) e)
same_kept false true x y e = absurd (apart 1 108 107 (kept_word false ++ x) (kept_word true ++ y) refl refl (λ is. omega (arith, is)) e)

whole_cause : (a b : Cause) → HasStamp a → HasStamp b → IsNumbered a → IsNumbered b → cause_words a ≡ cause_words b → a ≡ b
whole_cause a b sa sb na nb e =
    let longer : cause_words a ++ [] ≡ cause_words b ++ [] = ap (λ l. l ++ []) e in
    (same_cause a b [] [] sa sb na nb tt tt longer).0

kept_blank : (kept : Bool) (x : List ℕ) → byte_at 4 (codes "stop" ++ (kept_word kept ++ x)) ≡ 32
kept_blank true x = refl
kept_blank false x = refl

-- a stop's words say what it was for, and of one within a turn whether the change was kept
pub same_stop : (a b : Option Cause) (kept other : Bool) → IfSome a HasStamp → IfSome b HasStamp → IfSome a IsNumbered → IfSome b IsNumbered
    → stop_words a kept ≡ stop_words b other → (a ≡ b) × IfSome a (λ cause. kept ≡ other)
same_stop None None kept other sa sb na nb e = (refl, tt)
same_stop None (Some b) kept other sa sb na nb e =
    absurd (apart 4 0 32 (codes "stop") (codes "stop" ++ (kept_word other ++ cause_words b)) refl (kept_blank other (cause_words b)) (λ is. omega (arith, is)) e)
same_stop (Some a) None kept other sa sb na nb e =
    absurd (apart 4 32 0 (codes "stop" ++ (kept_word kept ++ cause_words a)) (codes "stop") (kept_blank kept (cause_words a)) refl (λ is. omega (arith, is)) e)
same_stop (Some a) (Some b) kept other sa sb na nb e =
    let rest = same_kept kept other (cause_words a) (cause_words b)
    (append_cancel_left (codes "stop") (kept_word kept ++ cause_words a) (kept_word other ++ cause_words b) e) in
    (ap Some (whole_cause a b sa sb na nb rest.1), rest.0)
