-- A line has one reading.
use Rattle.std.proofs.Common.{◌≡◌, ℕ, List, [], ◌∷◌, ◌++◌, get_or, refl, ap, sym, subst, ◌∙◌, arith, rules, codes}
use Rattle.journal_line.specs.Count.{IsCountText, IsDigit}
use Rattle.journal_line.specs.Line.{IsJournalLine}
use Rattle.journal_line.specs.Spaced.{Spaced}
use Rattle.journal_line.specs.Told.{ToldTurn, ToldLine, HeadLine, CommandLine, WalkLine, TurnLine, ArrivalLine, EndLine}
use Rattle.journal_line.specs.declared.line.Count.{Count}
use Rattle.journal_line.proofs.CountLemmas.{same_count, count_no_space}
use Rattle.journal_line.proofs.SpacedLemmas.{rest_behind}
use Rattle.journal_line.proofs.TurnLemmas.{word_no_space}
use Rattle.journal_line.proofs.UniqueTurn.{first_byte, text_is, meet, same_turn}

-- a number begins with a digit
begins_with_digit : (count : Count) (text rest : List ℕ) → IsCountText count text → IsDigit (first_byte (text ++ rest))
begins_with_digit count [] rest is = absurd (omega (arith, is.decimal.some))
begins_with_digit count (c ∷ cs) rest is = is.decimal.digits.0

digit_first : {R : List ℕ → Type 0} (count : Count) (text : List ℕ) → Spaced (IsCountText count) R text → IsDigit (first_byte text)
digit_first count text is = subst (λ t. IsDigit (first_byte t)) (sym is.parts) (begins_with_digit count is.front (32 ∷ is.rest) is.front_is)

-- the first byte of a line
abbrev IsFirst : ToldLine → ℕ → Type 0
IsFirst HeadLine byte = byte ≡ 99
IsFirst (CommandLine number) byte = byte ≡ 99
IsFirst WalkLine byte = byte ≡ 99
IsFirst (TurnLine number replica turn) byte = IsDigit byte
IsFirst (ArrivalLine number late) byte = IsDigit byte
IsFirst EndLine byte = byte ≡ 101

begins : (told : ToldLine) (line : List ℕ) → IsJournalLine told line → IsFirst told (first_byte line)
begins HeadLine line is = ap first_byte is
begins (CommandLine number) line is = ap first_byte (text_is (codes "command") line is)
begins WalkLine line is = ap first_byte is
begins (TurnLine number replica turn) line is = digit_first number line is
begins (ArrivalLine number late) line is = digit_first number line is
begins EndLine line is = ap first_byte is

abbrev second_byte : List ℕ → ℕ
second_byte text = get_or text 1 0

head_no_command : (number : Count) (line : List ℕ) → IsJournalLine HeadLine line → IsJournalLine (CommandLine number) line → ⊥
head_no_command number line p q = omega (arith, ap second_byte (sym p ∙ text_is (codes "command") line q))

head_no_walk : (line : List ℕ) → IsJournalLine HeadLine line → IsJournalLine WalkLine line → ⊥
head_no_walk line p q = omega (arith, ap second_byte (sym p ∙ q))

-- `end` is no number
command_no_walk : (number : Count) (line : List ℕ) → IsJournalLine (CommandLine number) line → IsJournalLine WalkLine line → ⊥
command_no_walk number line p q =
    let is : IsCountText number (codes "end") = rest_behind (codes "command") line (codes "end") q p in
    omega (arith, is.decimal.digits.0)

-- `-` is no number
turn_no_arrival : (number replica other late : Count) (turn : ToldTurn) (line : List ℕ) → IsJournalLine (TurnLine number replica turn) line → IsJournalLine (ArrivalLine other late) line → ⊥
turn_no_arrival number replica other late turn line p q =
    let both = meet line (count_no_space number) (count_no_space other) p q in
    let digit = digit_first replica both.rest both.one_rest in
    omega (arith, digit, ap first_byte (text_is (codes "- arrive") both.rest both.other_rest))

same_command : (a b : Count) (line : List ℕ) → IsJournalLine (CommandLine a) line → IsJournalLine (CommandLine b) line → CommandLine a ≡ CommandLine b
same_command a b line p q =
    let both = meet line (word_no_space (codes "command") (search rules)) (word_no_space (codes "command") (search rules)) p q in
    ap CommandLine (same_count a b both.rest both.one_rest both.other_rest)

same_turn_line : (a b r s : Count) (x y : ToldTurn) (line : List ℕ) → IsJournalLine (TurnLine a r x) line → IsJournalLine (TurnLine b s y) line → TurnLine a r x ≡ TurnLine b s y
same_turn_line a b r s x y line p q =
    let both = meet line (count_no_space a) (count_no_space b) p q in
    let more = meet both.rest (count_no_space r) (count_no_space s) both.one_rest both.other_rest in
    let numbers = same_count a b both.front both.one_front both.other_front in
    let replicas = same_count r s more.front more.one_front more.other_front in
    let turns = same_turn x y more.rest more.one_rest more.other_rest in
    rw (numbers, replicas, turns) refl

same_arrival : (a b r s : Count) (line : List ℕ) → IsJournalLine (ArrivalLine a r) line → IsJournalLine (ArrivalLine b s) line → ArrivalLine a r ≡ ArrivalLine b s
same_arrival a b r s line p q =
    let both = meet line (count_no_space a) (count_no_space b) p q in
    let numbers = same_count a b both.front both.one_front both.other_front in
    let other = rest_behind (codes "- arrive") both.rest both.one_rest.rest (text_is (codes "- arrive") both.rest both.one_rest) both.other_rest in
    let lates = same_count r s both.one_rest.rest both.one_rest.rest_is other in
    rw (numbers, lates) refl

-- lines whose first bytes differ are two
first_differs : (a b : ToldLine) (line : List ℕ) → ((byte : ℕ) → IsFirst a byte → IsFirst b byte → ⊥) → IsJournalLine a line → IsJournalLine b line → a ≡ b
first_differs a b line other p q = absurd (other (first_byte line) (begins a line p) (begins b line q))

pub same_line : (line : List ℕ) (a b : ToldLine) → IsJournalLine a line → IsJournalLine b line → a ≡ b
same_line line HeadLine HeadLine p q = refl
same_line line HeadLine (CommandLine n) p q = absurd (head_no_command n line p q)
same_line line HeadLine WalkLine p q = absurd (head_no_walk line p q)
same_line line HeadLine (TurnLine n r t) p q = first_differs HeadLine (TurnLine n r t) line (λ byte one two. omega (arith, one, two)) p q
same_line line HeadLine (ArrivalLine n l) p q = first_differs HeadLine (ArrivalLine n l) line (λ byte one two. omega (arith, one, two)) p q
same_line line HeadLine EndLine p q = first_differs HeadLine EndLine line (λ byte one two. omega (arith, one, two)) p q
same_line line (CommandLine m) HeadLine p q = absurd (head_no_command m line q p)
same_line line (CommandLine m) (CommandLine n) p q = same_command m n line p q
same_line line (CommandLine m) WalkLine p q = absurd (command_no_walk m line p q)
same_line line (CommandLine m) (TurnLine n r t) p q = first_differs (CommandLine m) (TurnLine n r t) line (λ byte one two. omega (arith, one, two)) p q
same_line line (CommandLine m) (ArrivalLine n l) p q = first_differs (CommandLine m) (ArrivalLine n l) line (λ byte one two. omega (arith, one, two)) p q
same_line line (CommandLine m) EndLine p q = first_differs (CommandLine m) EndLine line (λ byte one two. omega (arith, one, two)) p q
same_line line WalkLine HeadLine p q = absurd (head_no_walk line q p)
same_line line WalkLine (CommandLine n) p q = absurd (command_no_walk n line q p)
same_line line WalkLine WalkLine p q = refl
same_line line WalkLine (TurnLine n r t) p q = first_differs WalkLine (TurnLine n r t) line (λ byte one two. omega (arith, one, two)) p q
same_line line WalkLine (ArrivalLine n l) p q = first_differs WalkLine (ArrivalLine n l) line (λ byte one two. omega (arith, one, two)) p q
same_line line WalkLine EndLine p q = first_differs WalkLine EndLine line (λ byte one two. omega (arith, one, two)) p q
same_line line (TurnLine m r t) HeadLine p q = first_differs (TurnLine m r t) HeadLine line (λ byte one two. omega (arith, one, two)) p q
same_line line (TurnLine m r t) (CommandLine n) p q = first_differs (TurnLine m r t) (CommandLine n) line (λ byte one two. omega (arith, one, two)) p q
same_line line (TurnLine m r t) WalkLine p q = first_differs (TurnLine m r t) WalkLine line (λ byte one two. omega (arith, one, two)) p q
same_line line (TurnLine m r t) (TurnLine n s u) p q = same_turn_line m n r s t u line p q
same_line line (TurnLine m r t) (ArrivalLine n l) p q = absurd (turn_no_arrival m r n l t line p q)
same_line line (TurnLine m r t) EndLine p q = first_differs (TurnLine m r t) EndLine line (λ byte one two. omega (arith, one, two)) p q
same_line line (ArrivalLine m l) HeadLine p q = first_differs (ArrivalLine m l) HeadLine line (λ byte one two. omega (arith, one, two)) p q
same_line line (ArrivalLine m l) (CommandLine n) p q = first_differs (ArrivalLine m l) (CommandLine n) line (λ byte one two. omega (arith, one, two)) p q
same_line line (ArrivalLine m l) WalkLine p q = first_differs (ArrivalLine m l) WalkLine line (λ byte one two. omega (arith, one, two)) p q
same_line line (ArrivalLine m l) (TurnLine n s u) p q = absurd (turn_no_arrival n s m l u line q p)
same_line line (ArrivalLine m l) (ArrivalLine n k) p q = same_arrival m n l k line p q
same_line line (ArrivalLine m l) EndLine p q = first_differs (ArrivalLine m l) EndLine line (λ byte one two. omega (arith, one, two)) p q
same_line line EndLine HeadLine p q = first_differs EndLine HeadLine line (λ byte one two. omega (arith, one, two)) p q
same_line line EndLine (CommandLine n) p q = first_differs EndLine (CommandLine n) line (λ byte one two. omega (arith, one, two)) p q
same_line line EndLine WalkLine p q = first_differs EndLine WalkLine line (λ byte one two. omega (arith, one, two)) p q
same_line line EndLine (TurnLine n s u) p q = first_differs EndLine (TurnLine n s u) line (λ byte one two. omega (arith, one, two)) p q
same_line line EndLine (ArrivalLine n l) p q = first_differs EndLine (ArrivalLine n l) line (λ byte one two. omega (arith, one, two)) p q
same_line line EndLine EndLine p q = refl
