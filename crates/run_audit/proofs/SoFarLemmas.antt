-- The lines of a journal as far as it has come: with a part more, and with a turn more.
use Rattle.std.proofs.Common.{◌≡◌, ◌⊎◌, ℕ, zero, suc, ◌+◌, ◌-◌, ◌<◌, ◌≤◌, List, [], ◌∷◌, ◌++◌, append-nil, append_assoc, drop, get_or, inl, inr, length, map, take, refl, ap, sym, ◌∙◌, arith, codes}
use Rattle.std.specs.List.{enumerate_from, flat_map, range_with_len}
use Rattle.std.proofs.lemmas.List.{drop-append-le, get_or_append_left, get_or_at, get_or_default, length-append, length-drop, map-append, take-append-le, take_rest}
use Rattle.std.proofs.lemmas.Grind.{flat_map-append}
use Rattle.cron_io.proofs.ListLemmas.{range_more}
use Rattle.due_set.specs.Table.{Table}
use Rattle.history.specs.declared.turn.Turn.{Turn}
use Rattle.journal_text.specs.Journal.{numbered_turns, part_head, turn_line}
use Rattle.run_audit.specs.Sound.{lines_of_part, lines_so_far}

-- ---- lists

-- a list is empty, or ends in an item
pub by_last : {A : Type 0} (l : List A) → (l ≡ []) ⊎ ((front : List A) × (last : A) × (l ≡ front ++ last ∷ []))
by_last [] = inl refl
by_last (x ∷ xs) = elim (by_last xs) [
  | inl none ↦ inr ([], x, ap (λ l. x ∷ l) none)
  | inr some ↦ inr (x ∷ some.0, some.1, ap (λ l. x ∷ l) some.2)
]

same_over : {A : Type 0} (f g : ℕ → List A) (first count : ℕ) → ((place : ℕ) → first ≤ place → place < first + count → f place ≡ g place)
    → flat_map f (range_with_len first count) ≡ flat_map g (range_with_len first count)
same_over f g first zero same = refl
same_over f g first (suc count) same =
    ap (λ l. l ++ flat_map f (range_with_len (first + 1) count)) (same first (omega arith) (omega arith))
    ∙ ap (λ l. g first ++ l) (same_over f g (first + 1) count (λ place from below. same place (omega arith) (omega arith)))

-- over one place more
over_more : {A : Type 0} (f : ℕ → List A) (count : ℕ) → flat_map f (range_with_len 0 (suc count)) ≡ flat_map f (range_with_len 0 count) ++ f count
over_more {A} f count =
    let longer : range_with_len 0 (count + 1) ≡ range_with_len 0 count ++ count ∷ [] = range_more 0 count count (omega arith) in
    let one : suc count ≡ count + 1 = omega arith in
    ap (λ n. flat_map f (range_with_len 0 n)) one ∙ ap (flat_map f) longer ∙ flat_map-append f (range_with_len 0 count) (count ∷ [])
    ∙ ap (λ (l : List A). flat_map f (range_with_len 0 count) ++ l) (append-nil (f count))

pub enumerate-append : {X : Type 0} (n : ℕ) (xs ys : List X) → enumerate_from n (xs ++ ys) ≡ enumerate_from n xs ++ enumerate_from (n + length xs) ys
enumerate-append n [] ys = ap (λ k. enumerate_from k ys) (omega arith)
enumerate-append {X} n (x ∷ xs) ys =
    ap (λ (l : List (ℕ × X)). (n, x) ∷ l) (enumerate-append (n + 1) xs ys ∙ ap (λ k. enumerate_from (n + 1) xs ++ enumerate_from k ys) (omega arith))

-- the number behind the last of some is what is there where there is none
end_same : (starts : List ℕ) (n place : ℕ) → place < length starts → get_or (starts ++ n ∷ []) (suc place) n ≡ get_or starts (suc place) n
end_same [] n place lt = absurd (omega (arith, lt))
end_same (x ∷ []) n zero lt = refl
end_same (x ∷ y ∷ starts) n zero lt = refl
end_same (x ∷ starts) n (suc place) lt = end_same starts n place (omega (arith, lt))

past_end : (starts : List ℕ) (place d : ℕ) → length starts ≤ place → get_or starts place d ≡ d
past_end [] place d past = refl
past_end (x ∷ starts) zero d past = absurd (omega (arith, past))
past_end (x ∷ starts) (suc place) d past = past_end starts place d (omega (arith, past))

-- ---- a part more

module _ (table : Table) (parts : ℕ) where
  abbrev lines_at : List Turn → List ℕ → ℕ → List (List ℕ)
  lines_at turns starts place = lines_of_part table parts turns starts place

  -- no turn is from the last one on
  none_numbered : (turns : List Turn) → numbered_turns turns (length turns) (length turns) ≡ []
  none_numbered turns =
      let none : length turns - length turns ≡ 0 = omega arith in
      ap (λ n. enumerate_from (length turns) (take n (drop (length turns) turns))) none

  same_part : (turns : List Turn) (starts : List ℕ) (place : ℕ) → place < length starts
      → lines_at turns (starts ++ length turns ∷ []) place ≡ lines_at turns starts place
  same_part turns starts place lt =
      let n = length turns in
      let first : get_or (starts ++ n ∷ []) place 0 ≡ get_or starts place 0 = get_or_append_left starts (n ∷ []) 0 place lt in
      let last : get_or (starts ++ n ∷ []) (suc place) n ≡ get_or starts (suc place) n = end_same starts n place lt in
      ap (λ from. part_head parts place ∷ map (turn_line table) (numbered_turns turns from (get_or (starts ++ n ∷ []) (suc place) n))) first
      ∙ ap (λ until. part_head parts place ∷ map (turn_line table) (numbered_turns turns (get_or starts place 0) until)) last

  begun_part : (turns : List Turn) (starts : List ℕ) → lines_at turns (starts ++ length turns ∷ []) (length starts) ≡ part_head parts (length starts) ∷ []
  begun_part turns starts =
      let n = length turns in
      let p = length starts in
      let size = length-append starts (n ∷ []) in
      let first : get_or (starts ++ n ∷ []) p 0 ≡ n = get_or_at starts n [] 0 p refl in
      let last : get_or (starts ++ n ∷ []) (suc p) n ≡ n = past_end (starts ++ n ∷ []) (suc p) n (omega arith) in
      ap (λ from. part_head parts p ∷ map (turn_line table) (numbered_turns turns from (get_or (starts ++ n ∷ []) (suc p) n))) first
      ∙ ap (λ until. part_head parts p ∷ map (turn_line table) (numbered_turns turns n until)) last
      ∙ ap (λ (l : List (ℕ × Turn)). part_head parts p ∷ map (turn_line table) l) (none_numbered turns)

  -- **Where a part begins behind the last turn, its first line is one more.**
  pub part_more : (turns : List Turn) (starts : List ℕ)
      → lines_so_far table parts turns (starts ++ length turns ∷ []) ≡ lines_so_far table parts turns starts ++ part_head parts (length starts) ∷ []
  part_more turns starts =
      let s = starts ++ length turns ∷ [] in
      let p = length starts in
      let size : length s ≡ suc p = length-append starts (length turns ∷ []) ∙ (let one : p + 1 ≡ suc p = omega arith in one) in
      ap (λ (l : List (List ℕ)). codes "cron journal 1" ∷ l)
      (ap (λ n. flat_map (lines_at turns s) (range_with_len 0 n)) size
      ∙ over_more (lines_at turns s) p
      ∙ ap (λ (l : List (List ℕ)). l ++ lines_at turns s p) (same_over (lines_at turns s) (lines_at turns starts) 0 p (λ place from below. same_part turns starts place (omega arith)))
      ∙ ap (λ (l : List (List ℕ)). flat_map (lines_at turns starts) (range_with_len 0 p) ++ l) (begun_part turns starts))

  -- ---- a turn more

  -- the starts are no later than the last turn
  abbrev pub AreWithin : List ℕ → ℕ → Type 0
  AreWithin starts turns = (place : ℕ) → place < length starts → get_or starts place 0 ≤ turns

  earlier_part : (turns : List Turn) (turn : Turn) (starts : List ℕ) (place : ℕ) → suc place < length starts → AreWithin starts (length turns)
      → lines_at (turns ++ turn ∷ []) starts place ≡ lines_at turns starts place
  earlier_part turns turn starts place lt within =
      let n = length turns in
      let longer = length (turns ++ turn ∷ []) in
      let from = get_or starts place 0 in
      let until = get_or starts (suc place) n in
      let same_end : get_or starts (suc place) longer ≡ until = get_or_default starts (suc place) longer n lt in
      let zero_end : until ≡ get_or starts (suc place) 0 = get_or_default starts (suc place) n 0 lt in
      let low : from ≤ n = within place (omega arith) in
      let high : until ≤ n = (let is = within (suc place) lt in omega arith) in
      let rest = length-drop from turns in
      let turns_same : take (until - from) (drop from (turns ++ turn ∷ [])) ≡ take (until - from) (drop from turns) =
      ap (take (until - from)) (drop-append-le from turns (turn ∷ []) low) ∙ take-append-le (until - from) (drop from turns) (turn ∷ []) (omega arith) in
      ap (λ end. part_head parts place ∷ map (turn_line table) (numbered_turns (turns ++ turn ∷ []) from end)) same_end
      ∙ ap (λ (l : List Turn). part_head parts place ∷ map (turn_line table) (enumerate_from from l)) turns_same

  last_part : (turns : List Turn) (turn : Turn) (starts : List ℕ) (p : ℕ) → length starts ≡ suc p → AreWithin starts (length turns)
      → lines_at (turns ++ turn ∷ []) starts p ≡ lines_at turns starts p ++ turn_line table (length turns, turn) ∷ []
  last_part turns turn starts p size within =
      let n = length turns in
      let longer = length (turns ++ turn ∷ []) in
      let from = get_or starts p 0 in
      let low : from ≤ n = within p (omega arith) in
      let end_longer : get_or starts (suc p) longer ≡ longer = past_end starts (suc p) longer (omega arith) in
      let end_is : get_or starts (suc p) n ≡ n = past_end starts (suc p) n (omega arith) in
      let whole : take (longer - from) (drop from (turns ++ turn ∷ [])) ≡ drop from (turns ++ turn ∷ []) = take_rest (turns ++ turn ∷ []) from in
      let rest : take (n - from) (drop from turns) ≡ drop from turns = take_rest turns from in
      let long = length-drop from turns in
      let number : from + length (drop from turns) ≡ n = omega arith in
      let numbered : enumerate_from from (drop from (turns ++ turn ∷ [])) ≡ enumerate_from from (drop from turns) ++ (n, turn) ∷ [] =
      ap (enumerate_from from) (drop-append-le from turns (turn ∷ []) low) ∙ enumerate-append from (drop from turns) (turn ∷ [])
      ∙ ap (λ k. enumerate_from from (drop from turns) ++ (k, turn) ∷ []) number in
      ap (λ end. part_head parts p ∷ map (turn_line table) (numbered_turns (turns ++ turn ∷ []) from end)) end_longer
      ∙ ap (λ (l : List Turn). part_head parts p ∷ map (turn_line table) (enumerate_from from l)) whole
      ∙ ap (λ (l : List (ℕ × Turn)). part_head parts p ∷ map (turn_line table) l) numbered
      ∙ ap (λ (l : List (List ℕ)). part_head parts p ∷ l) (map-append (turn_line table) (enumerate_from from (drop from turns)) ((n, turn) ∷ []))
      ∙ ap (λ (l : List Turn). (part_head parts p ∷ map (turn_line table) (enumerate_from from l)) ++ turn_line table (n, turn) ∷ []) (sym rest)
      ∙ ap (λ end. (part_head parts p ∷ map (turn_line table) (numbered_turns turns from end)) ++ turn_line table (n, turn) ∷ []) (sym end_is)

  -- **Behind a turn more its line is one more**, where a part has begun.
  pub turn_more : (turns : List Turn) (turn : Turn) (starts : List ℕ) (p : ℕ) → length starts ≡ suc p → AreWithin starts (length turns)
      → lines_so_far table parts (turns ++ turn ∷ []) starts ≡ lines_so_far table parts turns starts ++ turn_line table (length turns, turn) ∷ []
  turn_more turns turn starts p size within =
      let longer = turns ++ turn ∷ [] in
      let line = turn_line table (length turns, turn) in
      let front = flat_map (lines_at turns starts) (range_with_len 0 p) in
      let all : flat_map (lines_at longer starts) (range_with_len 0 (length starts)) ≡ flat_map (lines_at turns starts) (range_with_len 0 (length starts)) ++ line ∷ [] =
      ap (λ n. flat_map (lines_at longer starts) (range_with_len 0 n)) size
      ∙ over_more (lines_at longer starts) p
      ∙ ap (λ (l : List (List ℕ)). l ++ lines_at longer starts p)
      (same_over (lines_at longer starts) (lines_at turns starts) 0 p (λ place from below. earlier_part turns turn starts place (omega arith) within))
      ∙ ap (λ (l : List (List ℕ)). front ++ l) (last_part turns turn starts p size within)
      ∙ sym (append_assoc front (lines_at turns starts p) (line ∷ []))
      ∙ ap (λ (l : List (List ℕ)). l ++ line ∷ []) (sym (over_more (lines_at turns starts) p))
      ∙ ap (λ n. flat_map (lines_at turns starts) (range_with_len 0 n) ++ line ∷ []) (sym size) in
      ap (λ (l : List (List ℕ)). codes "cron journal 1" ∷ l) all
