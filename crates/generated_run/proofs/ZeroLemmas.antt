-- No byte of a made text is 0.
use Rattle.std.proofs.Common.{◌≡◌, ◌≢◌, ℕ, zero, suc, ◌+◌, ◌*◌, ◌/◌, ◌<◌, ◌^◌, Bool, true, false, List, [], ◌∷◌, ◌++◌, map, refl, subst, arith, codes, decimal, ℤ}
use Rattle.std.specs.List.{AllByRecursion, flat_map, range_with_len}
use Rattle.std.specs.Str.Parse.{AllDigits}
use Rattle.std.specs.Char.{digit_value}
use Rattle.std.proofs.Math.Nat.{mod-lt}
use Rattle.std.proofs.lemmas.Fmt.{decimal_is_IsNumeral}
use Rattle.crontab_text.specs.Lines.{Lacks}
use Rattle.script_text.specs.Command.{command_line}
use Rattle.script_text.specs.declared.command.Command.{Command}
use Rattle.zone_minutes.specs.Civil.{civil_at}
use Rattle.zone_minutes.specs.Stamp.{stamp_text, extended_text}
use Rattle.zone_minutes.specs.Window.{window_line}
use Rattle.zone_minutes.specs.declared.civil.Civil.{Civil}
use Rattle.generated_run.specs.Draws.{draw, state_at}
use Rattle.generated_run.specs.Made.{daily_line, daily_lines, first_parts, head_lines, hourly_line, hourly_lines, made_instant, made_lines, made_script, made_text, made_window, part_commands, table_lines}
use Rattle.cron_io.specs.Lines.{text_of_lines}
use Rattle.generated_run.proofs.TextLemmas.{all_both, all_values}

abbrev lacks_zero : List ℕ → Bool
lacks_zero [] = true
lacks_zero (zero ∷ text) = false
lacks_zero (suc byte ∷ text) = lacks_zero text

constant : (text : List ℕ) → lacks_zero text ≡ true → Lacks 0 text
constant [] is = tt
constant (zero ∷ text) is = absurd (cc)
constant (suc byte ∷ text) is = ((λ e. omega (arith, e)), constant text is)

both : (a b : List ℕ) → Lacks 0 a → Lacks 0 b → Lacks 0 (a ++ b)
both a b = all_both (λ c. c ≢ 0) a b

digits_lack : (text : List ℕ) → AllDigits 10 text → Lacks 0 text
digits_lack [] digits = tt
digits_lack (c ∷ cs) digits =
    ((λ e. let small : digit_value 0 < 10 = subst (λ d. digit_value d < 10) e digits.0 in absurd (omega arith)), digits_lack cs digits.1)

number : (n : ℕ) → n < 2 ^ 64 → Lacks 0 (decimal n)
number n small = digits_lack (decimal n) (decimal_is_IsNumeral n small).0.1

stamp : (instant : ℤ) → Lacks 0 (stamp_text instant)
unfolding stamp_text
stamp instant = of_civil (civil_at instant)
  where
    of_civil : (civil : Civil) → Lacks 0 (extended_text civil)
    of_civil civil = ((λ e. omega arith), ((λ e. omega arith), ((λ e. omega arith), ((λ e. omega arith), ((λ e. omega arith), ((λ e. omega arith), ((λ e. omega arith), ((λ e. omega arith), ((λ e. omega arith), ((λ e. omega arith), ((λ e. omega arith), ((λ e. omega arith), ((λ e. omega arith), ((λ e. omega arith), ((λ e. omega arith), ((λ e. omega arith), ((λ e. omega arith), tt)))))))))))))))))

-- a draw is a small number
drawn : (seed draws limit : ℕ) → 0 < limit → limit < 2 ^ 64 → Lacks 0 (decimal (draw seed draws limit))
drawn seed draws limit some small =
    let below : draw seed draws limit < limit = mod-lt (state_at seed (suc draws) / 2 ^ 33) some in
    number (draw seed draws limit) (omega (arith, below, small))

hour_lacks : (seed k : ℕ) → k < 40 → Lacks 0 (hourly_line seed k)
unfolding hourly_line
hour_lacks seed k small =
    both (decimal (draw seed k 60)) (codes " * * * * hourly " ++ decimal (k + 1)) (drawn seed k 60 (omega arith) (omega arith))
    (both (codes " * * * * hourly ") (decimal (k + 1)) (constant (codes " * * * * hourly ") refl) (number (k + 1) (omega arith)))

day_lacks : (seed k : ℕ) → k < 160 → Lacks 0 (daily_line seed k)
unfolding daily_line
day_lacks seed k small =
    both (decimal (draw seed (40 + 2 * k) 60)) (32 ∷ (decimal (draw seed (41 + 2 * k) 24) ++ (codes " * * * daily " ++ decimal (k + 41)))) (drawn seed (40 + 2 * k) 60 (omega arith) (omega arith)) (
      (λ e. omega (arith, e)),
      both (decimal (draw seed (41 + 2 * k) 24)) (codes " * * * daily " ++ decimal (k + 41)) (drawn seed (41 + 2 * k) 24 (omega arith) (omega arith))
          (both (codes " * * * daily ") (decimal (k + 41)) (constant (codes " * * * daily ") refl) (number (k + 41) (omega arith))),
    )

table_lacks : (seed : ℕ) → AllByRecursion (Lacks 0) (table_lines seed)
unfolding hourly_lines daily_lines
table_lacks seed = all_both (Lacks 0) (hourly_lines seed 40) (daily_lines seed 160)
    (all_values (Lacks 0) (hourly_line seed) 0 40 (λ k below. hour_lacks seed k below))
    (all_values (Lacks 0) (daily_line seed) 0 160 (λ k below. day_lacks seed k below))

round_lacks : (number_of : ℕ) → Lacks 0 (codes "round " ++ (stamp_text (made_instant number_of).0 ++ 32 ∷ decimal 40))
round_lacks number_of =
    both (codes "round ") (stamp_text (made_instant number_of).0 ++ 32 ∷ decimal 40) (constant (codes "round ") refl)
    (both (stamp_text (made_instant number_of).0) (32 ∷ decimal 40) (stamp (made_instant number_of).0) ((λ e. omega (arith, e)), number 40 (omega arith)))

word_lacks : (word : List ℕ) (n : ℕ) → lacks_zero word ≡ true → n < 2 ^ 64 → Lacks 0 (word ++ decimal n)
word_lacks word n is small = both word (decimal n) (constant word is) (number n small)

-- the line of a command of the script
abbrev LineLacks : List Command → Type 0
LineLacks commands = AllByRecursion (λ line. Lacks 0 line) (map command_line commands)

part_lacks : (seed k : ℕ) → LineLacks (part_commands seed k)
unfolding part_commands
part_lacks seed k =
    (round_lacks (720 * k), (both (codes "stop ") _ (constant (codes "stop ") refl) (drawn seed (360 + 2 * k) 3 (omega arith) (omega arith)), (both (codes "campaign ") _ (constant (codes "campaign ") refl) (drawn seed (361 + 2 * k) 3 (omega arith) (omega arith)), (round_lacks (720 * k), (word_lacks (codes "restart ") 0 refl (omega arith), (word_lacks (codes "restart ") 1 refl (omega arith), (word_lacks (codes "restart ") 2 refl (omega arith), tt)))))))

lines_both : (a b : List Command) → LineLacks a → LineLacks b → LineLacks (a ++ b)
lines_both [] b front back = back
lines_both (command ∷ a) b front back = (front.0, lines_both a b front.1 back)

parts_lack : (seed from count : ℕ) → LineLacks (flat_map (part_commands seed) (range_with_len from count))
parts_lack seed from zero = tt
parts_lack seed from (suc count) = lines_both (part_commands seed from) _ (part_lacks seed from) (parts_lack seed (from + 1) count)

script_lacks : (seed : ℕ) → LineLacks (made_script seed)
unfolding first_parts
script_lacks seed = (word_lacks (codes "campaign ") 0 refl (omega arith), parts_lack seed 0 20)

window_lacks : Lacks 0 (window_line made_window)
window_lacks =
    let from = stamp_text made_window.from.0 in
    let until = stamp_text made_window.until.0 in
    both (codes "window ") (from ++ 32 ∷ until) (constant (codes "window ") refl) (both from (32 ∷ until) (stamp made_window.from.0) ((λ e. omega (arith, e)), stamp made_window.until.0))

head_lacks : AllByRecursion (Lacks 0) head_lines
head_lacks =
    (constant (codes "cronrun 1") refl, (word_lacks (codes "replicas ") 3 refl (omega arith), (window_lacks, (word_lacks (codes "grace ") 14_400 refl (omega arith), (word_lacks (codes "crontab make UTC ") 200 refl (omega arith), tt)))))

lines_lack : (seed : ℕ) → AllByRecursion (Lacks 0) (made_lines seed)
lines_lack seed =
    all_both (Lacks 0) head_lines _ head_lacks
    (all_both (Lacks 0) (table_lines seed) _ (table_lacks seed) (
      constant (codes "script") refl,
      all_both (Lacks 0) (map command_line (made_script seed)) (codes "end" ∷ []) (script_lacks seed) (constant (codes "end") refl, tt),
    ))

text_lacks : (lines : List (List ℕ)) → AllByRecursion (Lacks 0) lines → Lacks 0 (text_of_lines lines)
text_lacks [] each = tt
text_lacks (line ∷ lines) each = both (line ++ 10 ∷ []) (text_of_lines lines) (both line (10 ∷ []) each.0 ((λ e. omega (arith, e)), tt)) (text_lacks lines each.1)

pub text_lacks_zero : (seed : ℕ) → Lacks 0 (made_text seed)
unfolding made_text
text_lacks_zero seed = text_lacks (made_lines seed) (lines_lack seed)
