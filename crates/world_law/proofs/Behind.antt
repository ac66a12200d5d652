-- A book that a turn is added to has the rows of that turn behind it as well.
use Rattle.std.proofs.Common.{◌≡◌, ℕ, ◌+◌, List, [], ◌∷◌, ◌++◌, length, map, Option, Some, None, refl, sym, ap, ◌∙◌, arith, subst}
use Rattle.std.specs.List.{enumerate_from, flat_map}
use Rattle.std.proofs.lemmas.List.{length-map, map-append}
use Rattle.std.proofs.lemmas.List.Concat.{flat_map-append}
use Rattle.std.proofs.Common.{append-nil as append_nil}
use Rattle.cluster_sched.specs.Fates.{Holdings}
use Rattle.cluster_sched.specs.declared.row.SchedRow.{SchedRow}
use Rattle.due_set.specs.Table.{Table}
use Rattle.launch_machine.specs.Clerk.{first_rows}
use Rattle.step_spec.specs.declared.out.OutLetter.{OutLetter}
use Rattle.step_spec.specs.Step.{Event}
use Rattle.history.specs.Book.{PostedLetter, Row, Standing, after_row, held_after, late_after, post, standing_after, turn_of}
use Rattle.history.specs.Legal.{IsLegal, MayFollow}
use Rattle.history.specs.declared.turn.Turn.{Turn}
use Rattle.history.specs.declared.turn.Turn.TheVariants.{Did, Stopped, Restarted, Arrived}
use Rattle.history.proofs.Turns.{legal_push}
use Rattle.history.proofs.Keeping.{stands_next}
use Rattle.replica_core.specs.declared.out.StepOut.{StepOut}
use Rattle.world_law.specs.Book.{BookState, Commits, IsRowOf, StandsBehind, arrivals_of, call_of, held_then, letter_rows, posted_as, posting_turns, standing_behind}
use Rattle.world_law.specs.declared.letter.LetterRow.{LetterRow}

-- ---- letters

-- the letters that a replica posts, and none where there is none
abbrev post_by : Option ℕ → List OutLetter → List PostedLetter
post_by None letters = []
post_by (Some from) letters = post from letters

posted_rows : (from : Option ℕ) (turn : ℕ) (letters : List OutLetter) → map posted_as (letter_rows from turn letters) ≡ post_by from letters
posted_rows None turn letters = refl
posted_rows (Some from) turn [] = refl
posted_rows (Some from) turn (letter ∷ letters) =
    ap (λ (more : List PostedLetter). record { from = from; to = letter.to; bytes = letter.bytes } ∷ more) (posted_rows (Some from) turn letters)

turns_of_rows : (from turn : ℕ) (letters : List OutLetter) → map (λ (letter : LetterRow). letter.turn) (letter_rows (Some from) turn letters) ≡ map (λ (letter : OutLetter). turn) letters
turns_of_rows from turn [] = refl
turns_of_rows from turn (letter ∷ letters) = ap (λ (more : List ℕ). turn ∷ more) (turns_of_rows from turn letters)

-- each letter of a row has the number of its turn, and an arrival has no letter
turns_of_row : (n : ℕ) (table : Table) (s : Standing) (turn : Turn) (number : ℕ) (row : Row) → MayFollow n table s turn row
    → map (λ (letter : LetterRow). letter.turn) (letter_rows (turn_of turn) number row.letters) ≡ map (λ (letter : OutLetter). number) row.letters
turns_of_row n table s (Did who cause made) number row may = turns_of_rows who number row.letters
turns_of_row n table s (Stopped who cause kept) number row may = turns_of_rows who number row.letters
turns_of_row n table s (Restarted who) number row may = turns_of_rows who number row.letters
turns_of_row n table s (Arrived late) number row may = rw may.1.letters refl

enumerated : {X : Type 0} (n : ℕ) (xs : List X) (x : X) → enumerate_from n (xs ++ x ∷ []) ≡ enumerate_from n xs ++ (n + length xs, x) ∷ []
enumerated {X} n [] x = let same : n ≡ n + 0 = omega arith in ap {B = List (ℕ × X)} (λ k. (k, x) ∷ []) same
enumerated {X} n (y ∷ ys) x =
    let same : (n + 1) + length ys ≡ n + length (y ∷ ys) = omega arith in
    ap {B = List (ℕ × X)} (λ more. (n, y) ∷ more) (enumerated (n + 1) ys x ∙ ap {B = List (ℕ × X)} (λ k. enumerate_from (n + 1) ys ++ (k, x) ∷ []) same)

last_numbered : {X : Type 0} (xs : List X) (x : X) → enumerate_from 0 (xs ++ x ∷ []) ≡ enumerate_from 0 xs ++ (length xs, x) ∷ []
last_numbered {X} xs x =
    let same : 0 + length xs ≡ length xs = omega arith in
    enumerated 0 xs x ∙ ap {B = List (ℕ × X)} (λ k. enumerate_from 0 xs ++ (k, x) ∷ []) same

pub posting_next : (rows : List Row) (row : Row) → posting_turns (rows ++ row ∷ []) ≡ posting_turns rows ++ map (λ (letter : OutLetter). length rows) row.letters
posting_next rows row =
    ap (flat_map numbers) (last_numbered rows row) ∙ flat_map-append numbers (enumerate_from 0 rows) ((length rows, row) ∷ [])
    ∙ ap (λ more. posting_turns rows ++ more) (append_nil (map (λ (letter : OutLetter). length rows) row.letters))
  where
    numbers : ℕ × Row → List ℕ
    numbers numbered = map (λ (letter : OutLetter). numbered.0) numbered.1.letters

-- ---- what stands after a turn

posts : (n : ℕ) (table : Table) (s : Standing) (turn : Turn) (row : Row) → MayFollow n table s turn row
    → (after_row n s turn row.event row.letters).posted ≡ s.posted ++ post_by (turn_of turn) row.letters
unfolding after_row
posts n table s (Did who cause made) row may = refl
posts n table s (Stopped who None kept) row may = rw may.3.letters (sym (append_nil s.posted))
posts n table s (Stopped who (Some cause) kept) row may = rw may.1.letters (sym (append_nil s.posted))
posts n table s (Restarted who) row may = rw may.2.letters (sym (append_nil s.posted))
posts n table s (Arrived number) row may = sym (append_nil s.posted)

holds : (n : ℕ) (s : Standing) (turn : Turn) (event : Event) (letters : List OutLetter) (ledger : Holdings) → ledger.held ≡ held_after (call_of turn) s.held
    → ledger.late ≡ late_after (call_of turn) s.held s.late → held_then turn ledger ≡ (after_row n s turn event letters).held
unfolding after_row
holds n s (Did who cause made) event letters ledger held late = held
holds n s (Stopped who cause kept) event letters ledger held late = held
holds n s (Restarted who) event letters ledger held late = held
holds n s (Arrived number) event letters ledger held late = rw (held, late) refl

is_late : (n : ℕ) (s : Standing) (turn : Turn) (event : Event) (letters : List OutLetter) (late : List SchedRow)
    → late ≡ late_after (call_of turn) s.held s.late → late ≡ (after_row n s turn event letters).late
unfolding after_row
is_late n s (Did who cause made) event letters late is = is
is_late n s (Stopped who cause kept) event letters late is = is
is_late n s (Restarted who) event letters late is = is
is_late n s (Arrived number) event letters late is = is

arrives : (n : ℕ) (s : Standing) (turn : Turn) (event : Event) (letters : List OutLetter) → s.arrived ++ arrivals_of turn ≡ (after_row n s turn event letters).arrived
unfolding after_row
arrives n s (Did who cause made) event letters = append_nil s.arrived
arrives n s (Stopped who cause kept) event letters = append_nil s.arrived
arrives n s (Restarted who) event letters = append_nil s.arrived
arrives n s (Arrived number) event letters = refl

-- ---- the book

row_is_added : (table : Table) (rows : List Row) (row : Row) (old new : BookState) → StandsBehind table rows old
    → MayFollow old.members table (standing_behind table rows old) row.turn row → old.pending ≡ call_of row.turn → Commits row.turn row.letters old new
    → StandsBehind table (rows ++ row ∷ []) new
row_is_added table rows row old new behind may call commits = record {
  legal = subst (λ n. IsLegal n table (rows ++ row ∷ [])) (sym commits.members) (legal_push old.members table rows row behind.legal may);
  turns = commits.turns ∙ ap (λ turns. turns ++ row.turn ∷ []) behind.turns ∙ sym (map-append (λ (r : Row). r.turn) rows (row ∷ []));
  letters =
      ap (map posted_as) commits.posted ∙ map-append posted_as old.letters (letter_rows (turn_of row.turn) (length old.turns) row.letters)
      ∙ ap (λ more. map posted_as old.letters ++ more) (posted_rows (turn_of row.turn) (length old.turns) row.letters)
      ∙ ap (λ before. before ++ post_by (turn_of row.turn) row.letters) behind.letters
      ∙ sym (posts old.members table before row.turn row may) ∙ ap (λ (s : Standing). s.posted) after;
  posting =
      ap (map turn_in) commits.posted ∙ map-append turn_in old.letters (letter_rows (turn_of row.turn) (length old.turns) row.letters)
      ∙ ap (λ more. map turn_in old.letters ++ more) (turns_of_row old.members table before row.turn (length old.turns) row may)
      ∙ ap (λ before. before ++ map (λ (letter : OutLetter). length old.turns) row.letters) behind.posting
      ∙ ap (λ n. posting_turns rows ++ map (λ (letter : OutLetter). n) row.letters) (ap length behind.turns ∙ length-map rows (λ (r : Row). r.turn))
      ∙ sym (posting_next rows row);
  held = rw commits.pending (commits.held ∙ holds old.members before row.turn row.event row.letters old.ledger held late ∙ ap (λ (s : Standing). s.held) after);
  late = rw commits.pending (commits.late ∙ is_late old.members before row.turn row.event row.letters old.ledger.late late ∙ ap (λ (s : Standing). s.late) after);
  arrived =
      commits.arrived ∙ ap (λ arrived. arrived ++ arrivals_of row.turn) behind.arrived ∙ arrives old.members before row.turn row.event row.letters
      ∙ ap (λ (s : Standing). s.arrived) after;
}
  where
    turn_in : LetterRow → ℕ
    turn_in letter = letter.turn

    before : Standing
    before = standing_behind table rows old

    after : after_row old.members (standing_behind table rows old) row.turn row.event row.letters ≡ standing_behind table (rows ++ row ∷ []) new
    after = sym (stands_next old.members (first_rows table) rows row) ∙ ap (λ n. standing_after n (first_rows table) (rows ++ row ∷ [])) (sym commits.members)

    held : old.ledger.held ≡ held_after (call_of row.turn) (standing_behind table rows old).held
    held = behind.held ∙ ap (λ call. held_after call (standing_behind table rows old).held) call

    late : old.ledger.late ≡ late_after (call_of row.turn) (standing_behind table rows old).held (standing_behind table rows old).late
    late = behind.late ∙ ap (λ call. late_after call (standing_behind table rows old).held (standing_behind table rows old).late) call

-- the row of a turn stands behind the book that the turn is added to
pub turn_is_added : (table : Table) (turn : Turn) (out : StepOut) (old new : BookState) → old.pending ≡ call_of turn → Commits turn out.letters old new
    → (rows : List Row) (row : Row) → StandsBehind table rows old → IsRowOf turn out row → MayFollow old.members table (standing_behind table rows old) row.turn row
    → StandsBehind table (rows ++ row ∷ []) new
turn_is_added table turn out old new call commits rows row behind is may =
    row_is_added table rows row old new behind may (call ∙ ap call_of (sym is.turn_is))
    (subst (λ turn. Commits turn row.letters old new) (sym is.turn_is) (subst (λ letters. Commits turn letters old new) (sym is.letters) commits))
