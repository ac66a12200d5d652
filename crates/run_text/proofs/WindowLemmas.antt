-- The line of a run file that holds the window.
use Rattle.std.proofs.Common.{◌≡◌, ◌≢◌, ℕ, List, ◌∷◌, ◌++◌, ℤ, refl, ap, ◌∙◌, sym, subst, arith, append_assoc, codes}
use Rattle.std.proofs.Common.{Bor, Some}
use Rattle.std.specs.Str.Pattern.{FindsTextPrefix, StripsPrefix}
use Rattle.std.proofs.lemmas.Int.{ints}
use Rattle.std.proofs.lemmas.Str.Pattern.{IsSplitOnceResult, split_parts}
use Rattle.std.proofs.lemmas.List.{append_cancel_left}
use Rattle.zone_minutes.specs.Civil.{IsCalendarMinute}
use Rattle.zone_minutes.specs.Stamp.{stamp_text}
use Rattle.zone_minutes.specs.Window.{IsWithinLimits, window_line}
use Rattle.zone_minutes.specs.declared.minute.Window.{Window}
use Rattle.zone_minutes.proofs.StampLemmas.{stamp_text-injective}
use Rattle.run_text.specs.Grammar.{IsWindowLine}
use Rattle.run_text.proofs.ListLemmas.{LacksAny, same_cut, lacks_none}
use Rattle.run_text.proofs.PhraseLemmas.{lacks_space}
use Rattle.script_text.proofs.CutLemmas.{strips}
use Rattle.script_text.proofs.OperandLemmas.{digit_no_space}

-- a stamp has no space
stamp_no_space : (at : ℤ) → LacksAny (λ c. c ≡ 32) (stamp_text at)
unfolding stamp_text
stamp_no_space at = (
  digit_no_space _,
  (
    digit_no_space _,
    (
      digit_no_space _,
      (
        digit_no_space _,
        (
          (λ e. omega arith),
          (
            digit_no_space _,
            (
              digit_no_space _,
              (
                (λ e. omega arith),
                (
                  digit_no_space _,
                  (
                    digit_no_space _,
                    (
                      (λ e. omega arith),
                      (digit_no_space _, (digit_no_space _, ((λ e. omega arith), (digit_no_space _, (digit_no_space _, ((λ e. omega arith), tt)))))),
                    ),
                  ),
                ),
              ),
            ),
          ),
        ),
      ),
    ),
  ),
)

window_is : (window : Window) → window_line window ≡ codes "window " ++ (stamp_text window.from.0 ++ 32 ∷ stamp_text window.until.0)
window_is window = append_assoc (codes "window ") (stamp_text window.from.0) (32 ∷ stamp_text window.until.0)

behind_window : (line rest : List ℕ) (window : Window) → line ≡ codes "window " ++ rest → IsWindowLine line window → rest ≡ stamp_text window.from.0 ++ 32 ∷ stamp_text window.until.0
behind_window line rest window stripped is =
    append_cancel_left (codes "window ") rest (stamp_text window.from.0 ++ 32 ∷ stamp_text window.until.0)
    (sym stripped ∙ (is.is ∙ window_is window))

-- the window's line has a space behind its first stamp
pub no_window_without_space : (line rest : List ℕ) → line ≡ codes "window " ++ rest → LacksAny (λ c. c ≡ 32) rest → (window : Window) → IsWindowLine line window → ⊥
no_window_without_space line rest stripped lacks window is =
    lacks_none (λ c. c ≡ 32) (stamp_text window.from.0) (32 ∷ stamp_text window.until.0) refl
    (subst (LacksAny (λ c. c ≡ 32)) (behind_window line rest window stripped is) lacks)

-- the parts of the window's line
pub record IsWindowCut (line front back : List ℕ) : Type 0 where
  pub rest : List ℕ
  pub stripped : line ≡ codes "window " ++ rest
  pub parts : rest ≡ front ++ 32 ∷ back
  pub lacks : LacksAny (λ c. c ≡ 32) front

pub window_cut : (line rest : List ℕ) (parts : Bor (List ℕ) × Bor (List ℕ)) → StripsPrefix (FindsTextPrefix (codes "window ")) line rest → IsSplitOnceResult 32 rest (Some parts) → IsWindowCut line parts.0.now parts.1.now
window_cut line rest parts stripped split =
    let (parts_are, lacks) = split_parts 32 rest (Some parts) split (omega arith) in
    record {
      rest = rest;
      stripped = strips (codes "window ") line rest stripped;
      parts = parts_are;
      lacks = lacks_space parts.0.now lacks;
    }

window_parts : (line front back : List ℕ) (window : Window) → IsWindowCut line front back → IsWindowLine line window → (front ≡ stamp_text window.from.0) × (back ≡ stamp_text window.until.0)
window_parts line front back window cut is =
    let same = same_cut (λ c. c ≡ 32) front (stamp_text window.from.0) (32 ∷ back) (32 ∷ stamp_text window.until.0)
    cut.lacks (stamp_no_space window.from.0) refl refl
    (sym cut.parts ∙ behind_window line cut.rest window cut.stripped is) in
    let tails = same.1 in
    (same.0, cc)

-- both ends of a window within the limits are in the calendar
calendar_from : (window : Window) → IsWithinLimits window → IsCalendarMinute window.from.0
calendar_from window limits =
    let since = limits.since in let until = limits.until in let ordered = limits.ordered in
    (omega (arith, ints), omega (arith, ints))

calendar_until : (window : Window) → IsWithinLimits window → IsCalendarMinute window.until.0
calendar_until window limits =
    let since = limits.since in let until = limits.until in let ordered = limits.ordered in
    (omega (arith, ints), omega (arith, ints))

pub no_window_without_from : (line front back : List ℕ) → IsWindowCut line front back → ((at : ℤ) → IsCalendarMinute at → front ≢ stamp_text at) → (window : Window) → IsWindowLine line window → ⊥
no_window_without_from line front back cut none window is =
    none window.from.0 (calendar_from window is.limits) (window_parts line front back window cut is).0

pub no_window_without_until : (line front back : List ℕ) → IsWindowCut line front back → ((at : ℤ) → IsCalendarMinute at → back ≢ stamp_text at) → (window : Window) → IsWindowLine line window → ⊥
no_window_without_until line front back cut none window is =
    none window.until.0 (calendar_until window is.limits) (window_parts line front back window cut is).1

abbrev window_with : ℤ → ℤ → Window
window_with from until = record { from = record { 0 = from }; until = record { 0 = until } }

same_window : (a b c d : ℤ) → a ≡ c → b ≡ d → window_with a b ≡ window_with c d
same_window a b c d p q = rw (p, q)

same_stamps : (a b : Window) → IsCalendarMinute a.from.0 → IsCalendarMinute a.until.0 → IsWithinLimits b → stamp_text a.from.0 ≡ stamp_text b.from.0 → stamp_text a.until.0 ≡ stamp_text b.until.0 → a ≡ b
same_stamps a b from until limits p q =
    same_window a.from.0 a.until.0 b.from.0 b.until.0
    (stamp_text-injective a.from.0 b.from.0 from (calendar_from b limits) p)
    (stamp_text-injective a.until.0 b.until.0 until (calendar_until b limits) q)

pub no_window_past_limits : (line front back : List ℕ) (found : Window) → IsWindowCut line front back → IsCalendarMinute found.from.0 → IsCalendarMinute found.until.0 → front ≡ stamp_text found.from.0 → back ≡ stamp_text found.until.0 → (IsWithinLimits found → ⊥) → (window : Window) → IsWindowLine line window → ⊥
no_window_past_limits line front back found cut from until first second none window is =
    let parts = window_parts line front back window cut is in
    none (subst IsWithinLimits (sym (same_stamps found window from until is.limits (sym first ∙ parts.0) (sym second ∙ parts.1))) is.limits)

pub window_from_parts : (line front back : List ℕ) (found : Window) → IsWindowCut line front back → front ≡ stamp_text found.from.0 → back ≡ stamp_text found.until.0 → IsWithinLimits found → IsWindowLine line found
window_from_parts line front back found cut first second limits = record {
  is = cut.stripped ∙ (ap (λ t. codes "window " ++ t) (cut.parts ∙ (ap (λ t. t ++ 32 ∷ back) first ∙ ap (λ t. stamp_text found.from.0 ++ 32 ∷ t) second)) ∙ sym (window_is found));
  limits = limits;
}

-- two window lines differ
pub window_line-injective : (a b : Window) → IsWithinLimits a → IsWithinLimits b → window_line a ≡ window_line b → a ≡ b
window_line-injective a b first second same =
    let cut : IsWindowCut (window_line a) (stamp_text a.from.0) (stamp_text a.until.0) = record {
      rest = stamp_text a.from.0 ++ 32 ∷ stamp_text a.until.0;
      stripped = window_is a;
      parts = refl;
      lacks = stamp_no_space a.from.0;
    } in
    let parts = window_parts (window_line a) (stamp_text a.from.0) (stamp_text a.until.0) b cut (record { is = same; limits = second }) in
    same_stamps a b (calendar_from a first) (calendar_until a first) second parts.0 parts.1

pub one_window_line : (line : List ℕ) (a b : Window) → IsWindowLine line a → IsWindowLine line b → a ≡ b
one_window_line line a b first second = window_line-injective a b first.limits second.limits (sym first.is ∙ second.is)
