-- The log of a front of a book, and the launch table of a replica behind it.
use Rattle.std.proofs.Common.{◌≡◌, ℕ, ◌<◌, ◌≤◌, zero, suc, List, [], ◌∷◌, ◌++◌, length, take, ℤ, sym, ap, ◌∙◌, arith, subst}
use Rattle.std.specs.List.{Contains}
use Rattle.std.proofs.lemmas.List.Concat.{flat_map-append}
use Rattle.std.proofs.lemmas.List.Elements.{All-cons, All-head, All-nil, All-tail, Contains-append_left}
use Rattle.std.proofs.lemmas.List.Sums.{fold-append}
use Rattle.paxos_base.specs.declared.entry.Entry.{Entry}
use Rattle.paxos_base.specs.declared.rows.JobRow.{JobRow}
use Rattle.due_set.specs.Table.{Table}
use Rattle.cluster_sched.specs.declared.row.SchedRow.{SchedRow}
use Rattle.launch_machine.specs.Clerk.{IsClerkOf, first_rows}
use Rattle.step_spec.specs.State.{State, prefix_of}
use Rattle.step_spec.specs.Step.{IsLaunchTable}
use Rattle.agreement.specs.Log.{IsLog}
use Rattle.agreement.specs.World.{CastVote}
use Rattle.agreement.proofs.Tables.{follows, short_of}
use Rattle.history.specs.Book.{Row, Standing, after_row, first_standing, standing_after, votes_in}
use Rattle.history.specs.Legal.{IsLegal}
use Rattle.history.proofs.Agreement.{book_log}
use Rattle.launch_safety.specs.Fitting.{held_in}
use Rattle.launch_safety.proofs.LogLemmas.{log_goes_on}
use Rattle.launch_safety.proofs.Whole.{front_adopts, table_left}
use Rattle.launch_safety.specs.Readings.{AreTurnsBy, IsTurnBy}
use Rattle.launch_safety.proofs.ReadLemmas.{stays_held}
use Rattle.history.proofs.BookLemmas.{stands}
use Rattle.history.proofs.FrontLemmas.{front_legal}
use Rattle.run_outcome.specs.Whole.{AdoptsNone}

-- the log of a book goes on from that of a front
pub record FrontLog (n : ℕ) (book : List Row) (log : List Entry) : Type 0 where
  pub whole : List Entry
  pub is_whole : IsLog n (votes_in book) whole
  pub more : List Entry
  pub goes : whole ≡ log ++ more

front_votes : (book front back : List Row) → book ≡ front ++ back → (cast : CastVote) → Contains (votes_in front) cast → Contains (votes_in book) cast
front_votes book front back parts cast has =
    subst (λ rows. Contains (votes_in rows) cast) (sym parts)
    (subst (λ votes. Contains votes cast) (sym (flat_map-append _ front back)) (Contains-append_left (votes_in front) (votes_in back) cast has))

-- a log of the front is a front of each log of the book
pub log_on : (n : ℕ) (table : Table) (book : List Row) → n ≤ 7 → IsLegal n table book → (front back : List Row) (log whole : List Entry) → book ≡ front ++ back → IsLog n (votes_in front) log → IsLog n (votes_in book) whole
    → (more : List Entry) × (whole ≡ log ++ more)
log_on n table book few legal front back log whole parts is_log is_whole =
    log_goes_on n table book (votes_in front) log whole few legal (front_votes book front back parts) is_log is_whole

pub front_log : (n : ℕ) (table : Table) (book : List Row) → n ≤ 7 → IsLegal n table book → (front back : List Row) (log : List Entry) → book ≡ front ++ back → IsLog n (votes_in front) log → FrontLog n book log
front_log n table book few legal front back log parts is_log =
    let (whole, is_whole) = book_log n table book few legal in
    let on = log_on n table book few legal front back log whole parts is_log is_whole in
    record { whole = whole; is_whole = is_whole; more = on.0; goes = on.1 }

-- a front of a book that adopts no version adopts none
pub front_none : (n : ℕ) (table : Table) (book : List Row) → n ≤ 7 → IsLegal n table book → AdoptsNone n table book → (front back : List Row) → book ≡ front ++ back → AdoptsNone n table front
front_none n table book few legal none front back parts log is_log =
    let there = front_log n table book few legal front back log parts is_log in
    let left = table_left n table front log few (front_legal n table front back (subst (λ rows. IsLegal n table rows) parts legal)) is_log in
    front_adopts n table book few legal there.whole there.is_whole (none there.whole there.is_whole) log there.more left.0 there.goes left.1

-- what is held after a front is held after the book
pub held_on : (n : ℕ) (table : Table) (book front back : List Row) (row : SchedRow) → book ≡ front ++ back → Contains (held_in n table front) row → Contains (held_in n table book) row
held_on n table book front back row parts has =
    subst (λ rows. Contains (held_in n table rows) row) (sym parts)
    (subst (λ (st : Standing). Contains st.held row)
    (sym (fold-append (λ (st : Standing) (r : Row). after_row n st r.turn r.event r.letters) (first_standing n (first_rows table)) front back))
    (stays_held n (standing_after n (first_rows table) front) back row has))

-- a launch table of a replica is that of a front of the log
pub table_at : (n : ℕ) (table : Table) (book : List Row) (log : List Entry) (who : ℕ) (rows : List JobRow) → n ≤ 7 → IsLegal n table book → IsLog n (votes_in book) log
    → IsLaunchTable table ((standing_after n (first_rows table) book).replicas who) rows
    → IsClerkOf table (take (prefix_of ((standing_after n (first_rows table) book).replicas who)) log) rows
table_at n table book log who rows few legal is_log is_table =
    let there = stands n table book few legal in
    let same : there.w.replicas who ≡ (standing_after n (first_rows table) book).replicas who = there.matches.replicas who in
    let is_there : IsLaunchTable table (there.w.replicas who) rows = subst (λ s. IsLaunchTable table s rows) (sym same) is_table in
    subst (λ (s : State). IsClerkOf table (take (prefix_of s) log) rows) same
    (follows n table (first_rows table) there.w log who rows there.followed.whole there.followed.tables (subst (λ cast. IsLog n cast log) (sym there.matches.cast) is_log) is_there).1

-- no replica has learned more than the log
pub short_at : (n : ℕ) (table : Table) (book : List Row) (log : List Entry) (who : ℕ) → n ≤ 7 → IsLegal n table book → IsLog n (votes_in book) log
    → prefix_of ((standing_after n (first_rows table) book).replicas who) ≤ length log
short_at n table book log who few legal is_log =
    let there = stands n table book few legal in
    subst (λ (s : State). prefix_of s ≤ length log) (there.matches.replicas who)
    (short_of n table (first_rows table) there.w log who there.followed.whole there.followed.tables (subst (λ cast. IsLog n cast log) (sym there.matches.cast) is_log))

-- the front of turns by an instant
pub by_front : (at : ℤ) (front back : List Row) → AreTurnsBy at (front ++ back) → AreTurnsBy at front
by_front at [] back by = All-nil (λ (r : Row). IsTurnBy at r.turn)
by_front at (row ∷ front) back by =
    All-cons (λ (r : Row). IsTurnBy at r.turn) row front (All-head (λ (r : Row). IsTurnBy at r.turn) row (front ++ back) by)
    (by_front at front back (All-tail (λ (r : Row). IsTurnBy at r.turn) row (front ++ back) by))

-- an entry of a longer log that stands below a cut of the shorter one stands in the cut
pub cut_at : (xs ys front back : List Entry) (x : Entry) (k : ℕ) → xs ++ ys ≡ front ++ x ∷ back → length front < k → k ≤ length xs → (rest : List Entry) × (take k xs ≡ front ++ x ∷ rest)
cut_at xs ys front back x zero is below within = absurd (omega (arith, below))
cut_at [] ys front back x (suc k) is below within = absurd (omega (arith, within))
cut_at (z ∷ xs) ys [] back x (suc k) is below within = (take k xs, let same : z ≡ x = cc in ap (λ first. first ∷ take k xs) same)
cut_at (z ∷ xs) ys (f ∷ front) back x (suc k) is below within =
    let same : z ≡ f = cc in
    let rest : xs ++ ys ≡ front ++ x ∷ back = cc in
    let found = cut_at xs ys front back x k rest (omega (arith, below)) (omega (arith, within)) in
    (found.0, ap (λ first. first ∷ take k xs) same ∙ ap (λ others. f ∷ others) found.1)
