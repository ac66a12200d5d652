-- The turns of a book settle what else there is of its rows.
use Rattle.std.proofs.Common.{◌≡◌, ℕ, List, [], ◌∷◌, ◌++◌, Some, None, refl, sym, ap, ◌∙◌, subst, length, take, map, append_assoc, arith}
use Rattle.std.proofs.Common.{append-nil as append_nil}
use Rattle.std.specs.List.{AllZip, slice_get}
use Rattle.std.proofs.lemmas.List.{length-append}
use Rattle.std.proofs.lemmas.List.Concat.{flat_map-append}
use Rattle.paxos_base.specs.declared.durable.Delta.{Delta}
use Rattle.paxos_base.specs.declared.entry.Vote.{Vote}
use Rattle.due_set.specs.Table.{Table}
use Rattle.step_spec.specs.Folds.{Addressed, deltas_of, letters_of}
use Rattle.step_spec.specs.Letters.{IsSpelled}
use Rattle.step_spec.specs.declared.out.LearntRow.{LearntRow}
use Rattle.step_spec.specs.declared.out.OutLetter.{OutLetter}
use Rattle.launch_machine.specs.Clerk.{first_rows}
use Rattle.agreement.specs.World.{CastVote, Learning}
use Rattle.agreement.specs.Transition.{identity_of}
use Rattle.history.specs.Book.{Row, Standing, acts_at, after_row, cast_votes, held_after, late_after, learned_entries, learned_in, standing_after, turn_of, votes_in}
use Rattle.history.specs.Legal.{IsLegal, MayFollow, kept_votes}
use Rattle.history.specs.declared.turn.Turn.{Turn}
use Rattle.history.specs.declared.turn.Turn.TheVariants.{Did, Stopped, Restarted, Arrived}
use Rattle.history.proofs.Keeping.{one_event, stands_next}
use Rattle.world_law.specs.Book.{BookState, StandsBehind, posting_turns, standing_behind}
use Rattle.world_law.proofs.Behind.{posting_next}
use Rattle.history.proofs.FrontLemmas.{follows_there as may_next}

abbrev out_letter : ℕ → List ℕ → OutLetter
out_letter to bytes = record { to = to; bytes = bytes }

-- letters that are spelled for the same messages are the same
same_letters : (n from : ℕ) (said : List Addressed) (one other : List OutLetter) → AllZip (IsSpelled n from) said one → AllZip (IsSpelled n from) said other → one ≡ other
same_letters n from [] [] [] a b = refl
same_letters n from [] (letter ∷ one) other a b = absurd a
same_letters n from [] [] (letter ∷ other) a b = absurd b
same_letters n from (message ∷ said) [] other a b = absurd a
same_letters n from (message ∷ said) (letter ∷ one) [] a b = absurd b
same_letters n from (message ∷ said) (letter ∷ one) (second ∷ other) a b =
    let to : letter.to ≡ second.to = a.0.to ∙ sym b.0.to in
    let bytes : letter.bytes ≡ second.bytes = a.0.spells.spelled ∙ sym b.0.spells.spelled in
    let first : letter ≡ second = ap (λ to. out_letter to letter.bytes) to ∙ ap (out_letter second.to) bytes in
    ap (λ l. l ∷ one) first ∙ ap (λ more. second ∷ more) (same_letters n from said one other a.1 b.1)

-- what a turn brought, and what stands after it
pub record AreAlike (n : ℕ) (s : Standing) (turn : Turn) (one other : Row) : Type 0 where
  pub letters : one.letters ≡ other.letters
  pub votes : one.votes ≡ other.votes
  pub learnt : one.learnt ≡ other.learnt
  pub stands : after_row n s turn one.event one.letters ≡ after_row n s turn other.event other.letters

same_delta : (one other : Delta) (deltas : List Delta) → deltas ≡ one ∷ [] → deltas ≡ other ∷ [] → one ≡ other
same_delta one other deltas a b = let same : one ∷ [] ≡ other ∷ [] = sym a ∙ b in cc

pub alike_after : (n : ℕ) (table : Table) (s : Standing) (turn : Turn) (one other : Row) → MayFollow n table s turn one → MayFollow n table s turn other
    → AreAlike n s turn one other
unfolding after_row
alike_after n table s (Did who cause made) one other a b =
    let event : one.event ≡ other.event = one_event n table s who cause one.event other.event a.0 b.0 in
    let letters : one.letters ≡ other.letters =
    same_letters n who (letters_of (identity_of n who) (acts_at n s who other.event)) one.letters other.letters
    (subst (λ event. AllZip (IsSpelled n who) (letters_of (identity_of n who) (acts_at n s who event)) one.letters) event a.1.letters) b.1.letters in
    record {
      letters = letters;
      votes = a.1.votes ∙ rw event (sym b.1.votes);
      learnt = a.1.learnt ∙ rw event (sym b.1.learnt);
      stands = rw (event, letters) refl;
    }
alike_after n table s (Stopped who None kept) one other a b = record {
  letters = a.3.letters ∙ sym b.3.letters;
  votes = a.3.votes ∙ sym b.3.votes;
  learnt = a.3.learnt ∙ sym b.3.learnt;
  stands = rw a.2 refl;
}
alike_after n table s (Stopped who (Some cause) kept) one other a b =
    let event : one.event ≡ other.event = one_event n table s who cause one.event other.event a.0 b.0 in
    let delta : a.1.delta ≡ b.1.delta =
    same_delta a.1.delta b.1.delta (deltas_of (acts_at n s who other.event)) (subst (λ event. deltas_of (acts_at n s who event) ≡ a.1.delta ∷ []) event a.1.changes) b.1.changes in
    record {
      letters = a.1.letters ∙ sym b.1.letters;
      votes = a.1.votes ∙ ap (kept_votes kept) delta ∙ sym b.1.votes;
      learnt = a.1.learnt ∙ sym b.1.learnt;
      stands = rw event refl;
    }
alike_after n table s (Restarted who) one other a b = record {
  letters = a.2.letters ∙ sym b.2.letters;
  votes = a.2.votes ∙ sym b.2.votes;
  learnt = a.2.learnt ∙ sym b.2.learnt;
  stands = refl;
}
alike_after n table s (Arrived number) one other a b = record {
  letters = a.1.letters ∙ sym b.1.letters;
  votes = a.1.votes ∙ sym b.1.votes;
  learnt = a.1.learnt ∙ sym b.1.learnt;
  stands = refl;
}

-- ---- books

-- two lists of rows come to the same
pub record ComeToOne (n : ℕ) (table : Table) (one other : List Row) : Type 0 where
  pub stands : standing_after n (first_rows table) one ≡ standing_after n (first_rows table) other
  pub votes : votes_in one ≡ votes_in other
  pub learned : learned_in one ≡ learned_in other
  pub posting : posting_turns one ≡ posting_turns other
  pub count : length one ≡ length other

there_next : (front back : List Row) (row : Row) → slice_get (front ++ row ∷ back) (length front) ≡ Some row
there_next [] back row = refl
there_next (first ∷ front) back row = there_next front back row

cut_next : (front back : List Row) → take (length front) (front ++ back) ≡ front
cut_next [] [] = refl
cut_next [] (row ∷ back) = refl
cut_next (first ∷ front) back = ap (λ rows. first ∷ rows) (cut_next front back)

votes_next : (front : List Row) (row : Row) → votes_in (front ++ row ∷ []) ≡ votes_in front ++ votes_in (row ∷ [])
votes_next front row = flat_map-append _ front (row ∷ [])

learned_next : (front : List Row) (row : Row) → learned_in (front ++ row ∷ []) ≡ learned_in front ++ learned_in (row ∷ [])
learned_next front row = flat_map-append _ front (row ∷ [])

abbrev votes_by : Turn → List Vote → List CastVote
votes_by turn votes = cast_votes (turn_of turn) votes ++ []

abbrev learned_by : Turn → List LearntRow → List Learning
learned_by turn learnt = learned_entries (turn_of turn) learnt ++ []

come_on : (n : ℕ) (table : Table) (one other : List Row) (row second : Row) → ComeToOne n table one other → row.turn ≡ second.turn
    → AreAlike n (standing_after n (first_rows table) one) row.turn row second → ComeToOne n table (one ++ row ∷ []) (other ++ second ∷ [])
come_on n table one other row second come turn alike = record {
  stands =
      stands_next n (first_rows table) one row ∙ alike.stands
      ∙ ap (λ turn. after_row n (standing_after n (first_rows table) one) turn second.event second.letters) turn
      ∙ ap (λ s. after_row n s second.turn second.event second.letters) come.stands ∙ sym (stands_next n (first_rows table) other second);
  votes =
      votes_next one row ∙ ap (λ before. before ++ votes_by row.turn row.votes) come.votes
      ∙ ap (λ votes. votes_in other ++ votes_by row.turn votes) alike.votes ∙ ap (λ turn. votes_in other ++ votes_by turn second.votes) turn
      ∙ sym (votes_next other second);
  learned =
      learned_next one row ∙ ap (λ before. before ++ learned_by row.turn row.learnt) come.learned
      ∙ ap (λ learnt. learned_in other ++ learned_by row.turn learnt) alike.learnt ∙ ap (λ turn. learned_in other ++ learned_by turn second.learnt) turn
      ∙ sym (learned_next other second);
  posting =
      posting_next one row ∙ ap (λ before. before ++ map (λ (letter : OutLetter). length one) row.letters) come.posting
      ∙ ap (λ letters. posting_turns other ++ map (λ (letter : OutLetter). length one) letters) alike.letters
      ∙ ap (λ n. posting_turns other ++ map (λ (letter : OutLetter). n) second.letters) come.count ∙ sym (posting_next other second);
  count = omega (arith, length-append one (row ∷ []), length-append other (second ∷ []), come.count);
}

walk : (n : ℕ) (table : Table) (one other back behind : List Row) → IsLegal n table (one ++ back) → IsLegal n table (other ++ behind)
    → map (λ (row : Row). row.turn) back ≡ map (λ (row : Row). row.turn) behind → ComeToOne n table one other → ComeToOne n table (one ++ back) (other ++ behind)
walk n table one other [] [] legal lawful turns come = rw (append_nil one, append_nil other) come
walk n table one other [] (second ∷ behind) legal lawful turns come = absurd cc
walk n table one other (row ∷ back) [] legal lawful turns come = absurd cc
walk n table one other (row ∷ back) (second ∷ behind) legal lawful turns come =
    let turn : row.turn ≡ second.turn = cc in
    let rest : map (λ (row : Row). row.turn) back ≡ map (λ (row : Row). row.turn) behind = cc in
    let a = may_next n table one back row legal in
    let b = may_next n table other behind second lawful in
    let beside : MayFollow n table (standing_after n (first_rows table) one) row.turn second =
    subst (λ turn. MayFollow n table (standing_after n (first_rows table) one) turn second) (sym turn)
    (subst (λ s. MayFollow n table s second.turn second) (sym come.stands) b) in
    let alike = alike_after n table (standing_after n (first_rows table) one) row.turn row second a beside in
    let next = walk n table (one ++ row ∷ []) (other ++ second ∷ []) back behind
    (subst (λ rows. IsLegal n table rows) (sym (append_assoc one (row ∷ []) back)) legal)
    (subst (λ rows. IsLegal n table rows) (sym (append_assoc other (second ∷ []) behind)) lawful) rest (come_on n table one other row second come turn alike) in
    subst (λ rows. ComeToOne n table rows (other ++ second ∷ behind)) (append_assoc one (row ∷ []) back)
    (subst (λ rows. ComeToOne n table ((one ++ row ∷ []) ++ back) rows) (append_assoc other (second ∷ []) behind) next)

-- legal rows with the same turns come to the same
pub turns_settle : (n : ℕ) (table : Table) (one other : List Row) → IsLegal n table one → IsLegal n table other
    → map (λ (row : Row). row.turn) one ≡ map (λ (row : Row). row.turn) other → ComeToOne n table one other
turns_settle n table one other legal lawful turns = walk n table [] [] one other legal lawful turns (record { stands = refl; votes = refl; learned = refl; posting = refl; count = refl })

-- ---- behind a book

-- whichever rows stand behind a book, they come to the same
pub come_here : (table : Table) (rows other : List Row) (book : BookState) → StandsBehind table rows book → StandsBehind table other book → ComeToOne book.members table rows other
come_here table rows other book behind beside = turns_settle book.members table rows other behind.legal beside.legal (sym behind.turns ∙ beside.turns)

-- legal rows that have the turns of a book stand behind it, as any others do
pub stand_instead : (table : Table) (rows other : List Row) (book : BookState) → StandsBehind table rows book → IsLegal book.members table other
    → book.turns ≡ map (λ (row : Row). row.turn) other → StandsBehind table other book
stand_instead table rows other book behind legal turns =
    let come = turns_settle book.members table rows other behind.legal legal (sym behind.turns ∙ turns) in
    let stands : standing_behind table rows book ≡ standing_behind table other book = come.stands in
    record {
      legal = legal;
      turns = turns;
      letters = behind.letters ∙ ap (λ (s : Standing). s.posted) stands;
      posting = behind.posting ∙ come.posting;
      held = behind.held ∙ ap (λ (s : Standing). held_after book.pending s.held) stands;
      late = behind.late ∙ ap (λ (s : Standing). late_after book.pending s.held s.late) stands;
      arrived = behind.arrived ∙ ap (λ (s : Standing). s.arrived) stands;
    }
