-- The text of a made run, part by part.
use Rattle.std.proofs.Common.{◌≡◌, ℕ, suc, ◌+◌, ◌*◌, ◌/◌, ◌%◌, ◌^◌, List, [], ◌∷◌, ◌++◌, map, sym, ap, subst, ◌∙◌, arith, codes, decimal, append-nil, append_assoc}
use Rattle.std.specs.Prelude.{flat_map}
use Rattle.std.specs.List.{range_with_len}
use Rattle.std.proofs.lemmas.Grind.{flat_map-append}
use Rattle.std.proofs.lemmas.List.{map-append}
use Rattle.std.proofs.lemmas.List.FromFn.{map-range_with_len_more}
use Rattle.script_text.specs.Command.{command_line}
use Rattle.script_text.specs.declared.command.Command.{Command}
use Rattle.generated_run.specs.Draws.{next_state, state_at, draw}
use Rattle.generated_run.specs.Made.{hour_text, day_text, hourly_line, daily_line, hourly_lines, daily_lines, part_commands, first_parts}
use Rattle.cron_io.specs.Lines.{text_of_lines}
use Rattle.cron_io.proofs.ListLemmas.{range_more}

-- more lines behind some lines
pub text_more : (first now next : List ℕ) (lines more all : List (List ℕ)) → now ≡ first ++ text_of_lines lines → next ≡ now ++ text_of_lines more → all ≡ lines ++ more → next ≡ first ++ text_of_lines all
text_more first now next lines more all now_is next_is all_is =
    next_is ∙ ap (λ (t : List ℕ). t ++ text_of_lines more) now_is ∙ append_assoc first (text_of_lines lines) (text_of_lines more)
    ∙ ap (λ (t : List ℕ). first ++ t) (sym (flat_map-append (λ (line : List ℕ). line ++ 10 ∷ []) lines more))
    ∙ ap (λ (ls : List (List ℕ)). first ++ text_of_lines ls) (sym all_is)

-- no line yet
pub hours_none : (seed : ℕ) (bytes : List ℕ) → bytes ≡ bytes ++ text_of_lines (hourly_lines seed 0)
unfolding hourly_lines
hours_none seed bytes = sym (append-nil bytes)

pub days_none : (seed : ℕ) (bytes : List ℕ) → bytes ≡ bytes ++ text_of_lines (daily_lines seed 0)
unfolding daily_lines
days_none seed bytes = sym (append-nil bytes)

pub parts_none : (seed : ℕ) (bytes : List ℕ) → bytes ≡ bytes ++ text_of_lines (map command_line (first_parts seed 0))
unfolding first_parts
parts_none seed bytes = sym (append-nil bytes)

-- one line more, or one part
pub hours_more : (seed number : ℕ) → hourly_lines seed (number + 1) ≡ hourly_lines seed number ++ hourly_line seed number ∷ []
unfolding hourly_lines
hours_more seed number = map-range_with_len_more (hourly_line seed) 0 number number (omega arith)

pub days_more : (seed number : ℕ) → daily_lines seed (number + 1) ≡ daily_lines seed number ++ daily_line seed number ∷ []
unfolding daily_lines
days_more seed number = map-range_with_len_more (daily_line seed) 0 number number (omega arith)

pub parts_more : (seed number : ℕ) → map command_line (first_parts seed (number + 1)) ≡ map command_line (first_parts seed number) ++ map command_line (part_commands seed number)
unfolding first_parts
parts_more seed number =
    ap (map command_line) (ap (flat_map (part_commands seed)) (range_more 0 number number (omega arith))
    ∙ flat_map-append (part_commands seed) (range_with_len 0 number) (number ∷ [])
    ∙ ap (λ (cs : List Command). flat_map (part_commands seed) (range_with_len 0 number) ++ cs) (append-nil (part_commands seed number)))
    ∙ map-append command_line (flat_map (part_commands seed) (range_with_len 0 number)) (part_commands seed number)

-- the state of a seed at first
pub state_first : (seed now : ℕ) → now ≡ seed → now ≡ state_at seed 0
unfolding state_at
state_first seed now is = is

-- the value of one draw more
pub draw_is : (seed draws now next limit value : ℕ) → now ≡ state_at seed draws → next ≡ next_state now → value ≡ next / 2 ^ 33 % limit → value ≡ draw seed draws limit
unfolding state_at
draw_is seed draws now next limit value is next_is value_is = value_is ∙ ap (λ (t : ℕ). t / 2 ^ 33 % limit) (next_is ∙ ap next_state is)

-- the state behind one draw more
pub state_next : (seed draws now next : ℕ) → now ≡ state_at seed draws → next ≡ next_state now → next ≡ state_at seed (draws + 1)
unfolding state_at
state_next seed draws now next is next_is = subst (λ n. next ≡ state_at seed n) (one_more draws) (next_is ∙ ap next_state is)
  where
    one_more : (n : ℕ) → suc n ≡ n + 1
    one_more n = omega arith

-- the lines of a job of each hour, and of one of each day, with their ends
pub hour_ends : (minute number : ℕ) → decimal minute ++ (codes " * * * * hourly " ++ (decimal number ++ 10 ∷ [])) ≡ hour_text minute number ++ 10 ∷ []
hour_ends minute number = sym (append_assoc (decimal minute) (codes " * * * * hourly " ++ decimal number) (10 ∷ []))

pub day_ends : (minute hour number : ℕ) → decimal minute ++ 32 ∷ (decimal hour ++ (codes " * * * daily " ++ (decimal number ++ 10 ∷ []))) ≡ day_text minute hour number ++ 10 ∷ []
day_ends minute hour number =
    ap (λ (t : List ℕ). decimal minute ++ 32 ∷ t) (sym (append_assoc (decimal hour) (codes " * * * daily " ++ decimal number) (10 ∷ [])))
    ∙ sym (append_assoc (decimal minute) (32 ∷ (decimal hour ++ (codes " * * * daily " ++ decimal number))) (10 ∷ []))

-- what is put of them
ended : (bytes next line : List ℕ) → next ≡ bytes ++ (line ++ 10 ∷ []) → next ≡ bytes ++ text_of_lines (line ∷ [])
ended bytes next line is = is ∙ ap (λ (t : List ℕ). bytes ++ t) (sym (append-nil (line ++ 10 ∷ [])))

pub hour_put : (seed number minute : ℕ) (bytes next : List ℕ) → minute ≡ draw seed number 60 → next ≡ bytes ++ (hour_text minute (number + 1) ++ 10 ∷ []) → next ≡ bytes ++ text_of_lines (hourly_line seed number ∷ [])
unfolding hourly_line
hour_put seed number minute bytes next is next_is =
    ended bytes next (hour_text (draw seed number 60) (number + 1)) (next_is ∙ ap (λ (m : ℕ). bytes ++ (hour_text m (number + 1) ++ 10 ∷ [])) is)

pub day_put : (seed number minute hour : ℕ) (bytes next : List ℕ) → minute ≡ draw seed (40 + 2 * number) 60 → hour ≡ draw seed (41 + 2 * number) 24
    → next ≡ bytes ++ (day_text minute hour (number + 41) ++ 10 ∷ []) → next ≡ bytes ++ text_of_lines (daily_line seed number ∷ [])
unfolding daily_line
day_put seed number minute hour bytes next is also next_is =
    ended bytes next (day_text (draw seed (40 + 2 * number) 60) (draw seed (41 + 2 * number) 24) (number + 41))
    (next_is ∙ ap (λ (m : ℕ). bytes ++ (day_text m hour (number + 41) ++ 10 ∷ [])) is ∙ ap (λ (h : ℕ). bytes ++ (day_text (draw seed (40 + 2 * number) 60) h (number + 41) ++ 10 ∷ [])) also)
