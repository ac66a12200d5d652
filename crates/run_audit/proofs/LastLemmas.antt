-- The lines of a journal, as far as it has come, settle its turns and where its parts begin.
use Rattle.std.proofs.Common.{◌≡◌, ℕ, zero, suc, ◌+◌, ◌<◌, ◌≤◌, ◌^◌, List, [], ◌∷◌, ◌++◌, inl, inr, length, get_or, refl, ap, sym, subst, ◌∙◌, arith, codes, decimal}
use Rattle.std.proofs.lemmas.List.{append_cancel_left, length-append, length-map, map-append}
use Rattle.std.proofs.lemmas.Fmt.{decimal_nonempty, digits_decimal}
use Rattle.std.proofs.lemmas.Str.Parse.{not_in_digits}
use Rattle.cron_io.proofs.NumberLemmas.{own}
use Rattle.zone_minutes.specs.Window.{IsWithinLimits}
use Rattle.due_set.specs.Table.{Table}
use Rattle.launch_machine.specs.Clerk.{first_rows}
use Rattle.script_text.specs.declared.command.Command.{Command}
use Rattle.history.specs.Book.{Row, Standing, standing_after}
use Rattle.history.specs.Legal.{IsLegal, MayFollow}
use Rattle.history.specs.declared.turn.Turn.{Turn}
use Rattle.history.proofs.FrontLemmas.{follows_there}
use Rattle.world_law.proofs.Settled.{turns_settle}
use Rattle.journal_text.proofs.TurnLemmas.{same_turn}
use Rattle.journal_text.specs.Journal.{part_head, turn_line}
use Rattle.run_audit.specs.Sound.{ObeysSoFar, turns_of}
use Rattle.run_audit.proofs.ComingLemmas.{words_one}
use Rattle.run_audit.proofs.JournalLemmas.{HasLast, has_last, lines_with, same_front}
use Rattle.run_audit.proofs.NumberLemmas.{next_numbers}

-- ---- last lines

pub same_back : {A : Type 0} (xs ys : List A) (x y : A) → xs ++ x ∷ [] ≡ ys ++ y ∷ [] → x ≡ y
same_back {A} xs ys x y same =
    let fronts = same_front xs ys x y same in
    let backs : x ∷ [] ≡ y ∷ [] = append_cancel_left xs (x ∷ []) (y ∷ []) (same ∙ ap (λ (l : List A). l ++ y ∷ []) (sym fronts)) in
    cc

-- a line of a turn begins with a digit
pub no_letter : (number byte : ℕ) (text rest : List ℕ) → number < 2 ^ 64 → 58 ≤ byte → decimal number ++ 32 ∷ text ≡ byte ∷ rest → ⊥
no_letter number byte text rest small high same = by (decimal number) refl
  where
    by : (digits : List ℕ) → decimal number ≡ digits → ⊥
    by [] none = let some = decimal_nonempty number small in let empty : length (decimal number) ≡ 0 = ap length none in omega (arith, some, empty)
    by (digit ∷ digits) is =
        let all : digit ∷ (digits ++ 32 ∷ text) ≡ byte ∷ rest = ap (λ (l : List ℕ). l ++ 32 ∷ text) (sym is) ∙ same in
        let first : digit ≡ byte = cc in
        not_in_digits own (decimal number) byte (digits_decimal own number small) (λ range. omega (arith, high, range.1)) 0 (decimal_nonempty number small) (ap (λ l. get_or l 0 0) is ∙ first)

pub head_no_turn : (table : Table) (parts place number : ℕ) (turn : Turn) → number < 2 ^ 64 → part_head parts place ≡ turn_line table (number, turn) → ⊥
head_no_turn table parts place number turn small same = no_letter number 99 _ _ small (omega arith) (sym same)

pub end_no_turn : (table : Table) (number : ℕ) (turn : Turn) → number < 2 ^ 64 → codes "end" ≡ turn_line table (number, turn) → ⊥
end_no_turn table number turn small same = no_letter number 101 _ _ small (omega arith) (sym same)

pub end_no_head : (parts place : ℕ) → codes "end" ≡ part_head parts place → ⊥
end_no_head parts place same = cc

-- the first line stands alone
pub first_alone : (first line : List ℕ) (more : List (List ℕ)) → first ∷ [] ≡ (first ∷ more) ++ line ∷ [] → ⊥
first_alone first line [] same = cc
first_alone first line (other ∷ more) same = cc

-- ---- turns

module _ (members : ℕ) (table : Table) (script : List Command) (few : members ≤ 7) (limits : IsWithinLimits table.window) where
  abbrev pub stands : List Row → Standing
  stands rows = standing_after members (first_rows table) rows

  abbrev with : List Row → List ℕ → List (List ℕ)
  with = lines_with members table script

  -- the turns are the same, and begin the same parts
  pub record AreSameTurns (rows others : List Row) (a b : List ℕ) : Type 0 where
    pub turns : turns_of rows ≡ turns_of others
    pub starts : a ≡ b

  pub as_long : (rows others : List Row) → turns_of rows ≡ turns_of others → length rows ≡ length others
  as_long rows others turns = sym (length-map rows (λ (row : Row). row.turn)) ∙ ap length turns ∙ length-map others (λ (row : Row). row.turn)

  turns_with : (rows front : List Row) (row : Row) → rows ≡ front ++ row ∷ [] → turns_of rows ≡ turns_of front ++ row.turn ∷ []
  turns_with rows front row is = ap turns_of is ∙ map-append (λ (row : Row). row.turn) front (row ∷ [])

  pub last_may : (rows front : List Row) (row : Row) → rows ≡ front ++ row ∷ [] → IsLegal members table rows → MayFollow members table (stands front) row.turn row
  last_may rows front row is legal = follows_there members table front [] row (subst (IsLegal members table) is legal)

  -- of two turns that may come next behind the same turns there is one, where they have the same line
  pub next_same : (front before : List Row) (row other : Row) → IsLegal members table front → IsLegal members table before → turns_of front ≡ turns_of before → length front < 2 ^ 32
      → MayFollow members table (stands front) row.turn row → MayFollow members table (stands before) other.turn other
      → turn_line table (length front, row.turn) ≡ turn_line table (length before, other.turn) → row.turn ≡ other.turn
  next_same front before row other legal lawful turns short may beside line =
      let settled : stands front ≡ stands before = (turns_settle members table front before legal lawful turns).stands in
      let here : MayFollow members table (stands front) other.turn other = subst (λ (s : Standing). MayFollow members table s other.turn other) (sym settled) beside in
      let words = words_one table (length front) row.turn other.turn (line ∙ ap (λ n. turn_line table (n, other.turn)) (sym (as_long front before turns))) in
      same_turn members table (stands front) row other few limits may here (next_numbers members table few front row legal short may) (next_numbers members table few front other legal short here) words

  -- what is settled of fewer lines
  abbrev Settles : ℕ → Type 0
  Settles bound =
      (rows others : List Row) (a b : List ℕ) → length rows + length a < bound → IsLegal members table rows → IsLegal members table others → ObeysSoFar members table script rows a
      → ObeysSoFar members table script others b → length rows < 2 ^ 32 → with rows a ≡ with others b → AreSameTurns rows others a b

  more_settles : (bound : ℕ) → Settles bound → Settles (suc bound)
  more_settles bound fewer rows others a b below legal lawful one two short same = by (has_last members table script rows a legal one) (has_last members table script others b lawful two)
    where
      by : HasLast members table script rows a → HasLast members table script others b → AreSameTurns rows others a b
      by (inl x) (inl y) = record { turns = ap turns_of (x.no_rows ∙ sym y.no_rows); starts = x.no_starts ∙ sym y.no_starts }
      by (inl x) (inr (inl y)) = absurd (first_alone _ _ _ (sym x.are ∙ same ∙ y.are))
      by (inl x) (inr (inr y)) = absurd (first_alone _ _ _ (sym x.are ∙ same ∙ y.are))
      by (inr (inl x)) (inl y) = absurd (first_alone _ _ _ (sym y.are ∙ sym same ∙ x.are))
      by (inr (inr x)) (inl y) = absurd (first_alone _ _ _ (sym y.are ∙ sym same ∙ x.are))
      by (inr (inl x)) (inr (inl y)) =
          let size : length a ≡ length x.before + 1 = ap length x.is ∙ length-append x.before (length rows ∷ []) in
          let front = same_front (with rows x.before) (with others y.before) _ _ (sym x.are ∙ same ∙ y.are) in
          let less = fewer rows others x.before y.before (omega (arith, below, size)) legal lawful x.obeys y.obeys short front in
          record {
            turns = less.turns;
            starts = x.is ∙ ap (λ (l : List ℕ). l ++ length rows ∷ []) less.starts ∙ ap (λ n. y.before ++ n ∷ []) (as_long rows others less.turns) ∙ sym y.is;
          }
      by (inr (inl x)) (inr (inr y)) =
          let size : length a ≡ length x.before + 1 = ap length x.is ∙ length-append x.before (length rows ∷ []) in
          let front = same_front (with rows x.before) (with y.front b) _ _ (sym x.are ∙ same ∙ y.are) in
          let less = fewer rows y.front x.before b (omega (arith, below, size)) legal y.legal x.obeys y.obeys short front in
          let long = as_long rows y.front less.turns in
          absurd (head_no_turn table (suc (length script)) (length x.before) (length y.front) y.row.turn (omega (arith, short, long)) (same_back (with rows x.before) (with y.front b) _ _ (sym x.are ∙ same ∙ y.are)))
      by (inr (inr x)) (inr (inl y)) =
          let size : length rows ≡ length x.front + 1 = ap length x.is ∙ length-append x.front (x.row ∷ []) in
          absurd (head_no_turn table (suc (length script)) (length y.before) (length x.front) x.row.turn (omega (arith, short, size)) (same_back (with others y.before) (with x.front a) _ _ (sym y.are ∙ sym same ∙ x.are)))
      by (inr (inr x)) (inr (inr y)) =
          let size : length rows ≡ length x.front + 1 = ap length x.is ∙ length-append x.front (x.row ∷ []) in
          let front = same_front (with x.front a) (with y.front b) _ _ (sym x.are ∙ same ∙ y.are) in
          let less = fewer x.front y.front a b (omega (arith, below, size)) x.legal y.legal x.obeys y.obeys (omega (arith, short, size)) front in
          let line = same_back (with x.front a) (with y.front b) _ _ (sym x.are ∙ same ∙ y.are) in
          let turn = next_same x.front y.front x.row y.row x.legal y.legal less.turns (omega (arith, short, size)) (last_may rows x.front x.row x.is legal) (last_may others y.front y.row y.is lawful) line in
          record {
            turns = turns_with rows x.front x.row x.is ∙ ap (λ (l : List Turn). l ++ x.row.turn ∷ []) less.turns ∙ ap (λ (t : Turn). turns_of y.front ++ t ∷ []) turn
                ∙ sym (turns_with others y.front y.row y.is);
            starts = less.starts;
          }

  settles_below : (bound : ℕ) → Settles bound
  settles_below zero = λ rows others a b below legal lawful one two short same. absurd (omega (arith, below))
  settles_below (suc bound) = more_settles bound (settles_below bound)

  -- **The lines of a journal, as far as it has come, are those of just these turns**, which begin just these parts.
  pub lines_settle : (rows others : List Row) (a b : List ℕ) → IsLegal members table rows → IsLegal members table others → ObeysSoFar members table script rows a
      → ObeysSoFar members table script others b → length rows < 2 ^ 32 → with rows a ≡ with others b → AreSameTurns rows others a b
  lines_settle rows others a b legal lawful one two short same = settles_below (length rows + length a + 1) rows others a b (omega arith) legal lawful one two short same
