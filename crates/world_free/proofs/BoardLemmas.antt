-- Launch tables of a log that goes on, and the highest prefix of a replica.
use Rattle.std.proofs.Common.{◌≡◌, ℕ, zero, suc, ◌≤◌, max, true, List, [], ◌∷◌, ◌++◌, length, take, fold, refl, sym, ap, ◌∙◌, subst, inl, inr, arith}
use Rattle.std.specs.List.{Contains}
use Rattle.std.proofs.lemmas.Bool.{cases_Bool}
use Rattle.std.proofs.lemmas.List.Concat.{flat_map-append}
use Rattle.std.proofs.lemmas.List.Elements.{Contains-append_left}
use Rattle.std.proofs.lemmas.List.Sums.{fold-append}
use Rattle.paxos_base.specs.declared.entry.Entry.{Entry}
use Rattle.paxos_base.specs.declared.rows.JobRow.{JobRow}
use Rattle.due_set.specs.Table.{Table}
use Rattle.launch_machine.specs.Clerk.{AppliesAll, IsClerkOf, first_rows}
use Rattle.step_spec.specs.State.{State, prefix_of}
use Rattle.step_spec.specs.Step.{IsLaunchTable}
use Rattle.agreement.specs.Log.{IsLog}
use Rattle.agreement.specs.World.{CastVote}
use Rattle.agreement.proofs.Tables.{follows}
use Rattle.history.specs.Book.{Row, standing_after, votes_in}
use Rattle.history.specs.Legal.{IsLegal}
use Rattle.history.proofs.Agreement.{book_log}
use Rattle.history.proofs.FrontLemmas.{front_legal}
use Rattle.launch_safety.proofs.LogLemmas.{log_goes_on}
use Rattle.script_semantics.specs.Free.{after_all_posted, after_posted, is_turn_of}
use Rattle.script_semantics.specs.Others.{AreOthers}
use Rattle.script_semantics.specs.Situation.{Situation}
use Rattle.world_free.specs.Board.{IsOfBook, Reach, highest_after, reach_after_row}
use Rattle.history.proofs.BookLemmas.{stands}

-- ---- a launch table of a front of a book

take_front : {X : Type 0} (count : ℕ) (front back : List X) → count ≤ length front → take count (front ++ back) ≡ take count front
take_front zero front back short = refl
take_front (suc count) [] back short = absurd (omega (arith, short))
take_front (suc count) (x ∷ front) back short = ap (λ l. x ∷ l) (take_front count front back (omega (arith, short)))

votes_stay : (front back : List Row) (cast : CastVote) → Contains (votes_in front) cast → Contains (votes_in (front ++ back)) cast
votes_stay front back cast has =
    subst (λ votes. Contains votes cast) (sym (flat_map-append _ front back)) (Contains-append_left (votes_in front) (votes_in back) cast has)

-- rows of the log of a front are those of the log of the book: the log has but gone on
pub still_of_book : (members : ℕ) (table : Table) (front back : List Row) (prefix : ℕ) (rows : List JobRow) → members ≤ 7 → IsLegal members table (front ++ back)
    → IsOfBook members table front prefix rows → IsOfBook members table (front ++ back) prefix rows
still_of_book members table front back prefix rows few legal of_front log is_log =
    let before = book_log members table front few (front_legal members table front back legal) in
    let on = log_goes_on members table (front ++ back) (votes_in front) before.0 log few legal (votes_stay front back) before.1 is_log in
    let here = of_front before.0 before.1 in
    let short : prefix ≤ length before.0 = here.short in
    record {
      short = subst (λ (l : List Entry). prefix ≤ length l) (sym on.1) (omega (arith, short, length_front before.0 on.0));
      clerk = subst (λ (l : List Entry). IsClerkOf table l rows) (sym (take_front prefix before.0 on.0 short) ∙ ap (take prefix) (sym on.1)) here.clerk;
    }
  where
    length_front : (xs ys : List Entry) → length xs ≤ length (xs ++ ys)
    length_front [] ys = omega arith
    length_front (x ∷ xs) ys = let rest = length_front xs ys in omega (arith, rest)

-- the launch table of a replica, whether it runs or not, is that of the first entries of the log
pub table_of_book : (members : ℕ) (table : Table) (book : List Row) (who : ℕ) (rows : List JobRow) → members ≤ 7 → IsLegal members table book
    → IsLaunchTable table ((standing_after members (first_rows table) book).replicas who) rows
    → IsOfBook members table book (prefix_of ((standing_after members (first_rows table) book).replicas who)) rows
table_of_book members table book who rows few legal is_table log is_log =
    let there = stands members table book few legal in
    let same = there.matches.replicas who in
    let found =
    follows members table (first_rows table) there.w log who rows there.followed.whole there.followed.tables
    (subst (λ (cast : List CastVote). IsLog members cast log) (sym there.matches.cast) is_log)
    (subst (λ (s : State). IsLaunchTable table s rows) (sym same) is_table) in
    record {
      short = subst (λ (s : State). prefix_of s ≤ length log) same found.0;
      clerk = subst (λ (s : State). AppliesAll table (first_rows table) (take (prefix_of s) log) rows) same found.1;
    }

-- ---- the highest prefix

module _ (members who : ℕ) where
  reach_others : (reach : Reach) (rows : List Row) → AreOthers who rows → (fold (reach_after_row members who) reach rows).highest ≡ reach.highest
  reach_others reach [] none = refl
  reach_others reach (row ∷ rows) none =
      let next : (reach_after_row members who reach row).highest ≡ reach.highest = rw none.0 refl in
      reach_others (reach_after_row members who reach row) rows none.1 ∙ next

  here_next : (reach : Reach) (row : Row) → (reach_after_row members who reach row).here ≡ after_posted members reach.here row
  here_next reach row = elim (cases_Bool (is_turn_of who row.turn)) [
    | inl own ↦ rw own refl
    | inr other ↦ rw other refl
  ]

  here_after : (reach : Reach) (rows : List Row) → (fold (reach_after_row members who) reach rows).here ≡ after_all_posted members reach.here rows
  here_after reach [] = refl
  here_after reach (row ∷ rows) = here_after (reach_after_row members who reach row) rows ∙ ap (λ s. after_all_posted members s rows) (here_next reach row)

  -- turns of others leave it
  pub highest_with_others : (first : ℕ) (situation : Situation) (rows more : List Row) → AreOthers who more
      → highest_after members who first situation (rows ++ more) ≡ highest_after members who first situation rows
  highest_with_others first situation rows more none =
      let begun : Reach = record { here = situation; highest = first } in
      ap (λ (r : Reach). r.highest) (fold-append (reach_after_row members who) begun rows more)
      ∙ reach_others (fold (reach_after_row members who) begun rows) more none

  -- behind a turn of its own it is the greater of what it was and of the prefix
  pub highest_next : (first : ℕ) (situation : Situation) (rows : List Row) (row : Row) → is_turn_of who row.turn ≡ true
      → highest_after members who first situation (rows ++ row ∷ [])
      ≡ max (highest_after members who first situation rows) (prefix_of ((after_all_posted members situation (rows ++ row ∷ [])).standing.replicas who))
  highest_next first situation rows row own =
      let begun : Reach = record { here = situation; highest = first } in
      let reach : Reach = fold (reach_after_row members who) begun rows in
      let last : (reach_after_row members who reach row).highest ≡ max reach.highest (prefix_of ((after_posted members reach.here row).standing.replicas who)) = rw own refl in
      let there : after_posted members reach.here row ≡ after_all_posted members situation (rows ++ row ∷ []) =
      ap (λ (s : Situation). after_posted members s row) (here_after begun rows) ∙ sym (fold-append (after_posted members) situation rows (row ∷ [])) in
      ap (λ (r : Reach). r.highest) (fold-append (reach_after_row members who) begun rows (row ∷ []))
      ∙ last ∙ ap (λ (s : Situation). max reach.highest (prefix_of (s.standing.replicas who))) there
