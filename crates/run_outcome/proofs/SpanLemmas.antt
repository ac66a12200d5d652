-- A legal book within the limits, of which a front has come to one situation, and the whole to another.
use Rattle.std.proofs.Common.{◌≡◌, ℕ, ◌≤◌, List, ◌++◌, append_assoc, ℤ, sym, ap, ◌∙◌, subst}
use Rattle.std.proofs.lemmas.List.Sums.{fold-append}
use Rattle.zone_minutes.specs.Window.{IsInWindow}
use Rattle.due_set.specs.Table.{IsSound, Table}
use Rattle.launch_machine.specs.Clerk.{first_rows}
use Rattle.history.specs.Book.{Row, Standing, after_row, first_standing, standing_after}
use Rattle.history.specs.Legal.{IsLegal}
use Rattle.history.proofs.Turns.{after_rows}
use Rattle.script_semantics.specs.Situation.{Performs, Situation, Task}
use Rattle.script_semantics.specs.Settling.{IsDrainRound, campaign_tasks}
use Rattle.script_semantics.specs.Round.{round_tasks}
use Rattle.settling.specs.Rounds.{GoesOnWithin, IsFaultless, IsWithinBounds}
use Rattle.history.proofs.FrontLemmas.{front_legal}
use Rattle.settling.proofs.BookLemmas.{stand_after}
use Rattle.settling.proofs.RoundsLemmas.{front_bounds}
use Rattle.run_outcome.proofs.PartLemmas.{Comes}

-- the situation is that after the book
abbrev pub IsAfter : (members : ℕ) (table : Table) (book : List Row) → Situation → Type 0
IsAfter members table book situation = situation.standing ≡ standing_after members (first_rows table) book

pub record Spans (members : ℕ) (table : Table) (book rows : List Row) (situation after : Situation) : Type 0 where
  pub few : members ≤ 7
  pub sound : IsSound table
  pub legal : IsLegal members table (book ++ rows)
  pub begins : IsAfter members table book situation
  pub ends : IsAfter members table (book ++ rows) after
  pub limits : IsWithinBounds (book ++ rows) after.standing.posted

-- ---- what stands after a part

pub performed : (members : ℕ) (table : Table) (book rows : List Row) (tasks : List Task) (situation after : Situation) → IsAfter members table book situation → Performs members tasks situation rows after → IsAfter members table (book ++ rows) after
performed members table book rows tasks situation after is performs =
    ap (λ (s : Situation). s.standing) performs.is ∙ stand_after members table book rows situation is

pub came : (members : ℕ) (table : Table) (book rows : List Row) (situation after : Situation) → IsAfter members table book situation → Comes members situation rows after → IsAfter members table (book ++ rows) after
came members table book rows situation after is comes =
    comes.standing ∙ ap (λ st. after_rows members st rows) is
    ∙ sym (fold-append (λ (st : Standing) (row : Row). after_row members st row.turn row.event row.letters) (first_standing members (first_rows table)) book rows)

-- the rows of a book and of two parts, in the other order of brackets
grouped : (book front back rows : List Row) → rows ≡ front ++ back → book ++ rows ≡ (book ++ front) ++ back
grouped book front back rows parts = ap (λ list. book ++ list) parts ∙ sym (append_assoc book front back)

pub round_stands : (members : ℕ) (table : Table) (who : ℕ) (at : ℤ) (book rows : List Row) (situation after : Situation) → IsAfter members table book situation → IsDrainRound members table who at situation rows after → IsAfter members table (book ++ rows) after
round_stands members table who at book rows situation after is round =
    let stood = performed members table book round.front (campaign_tasks who (situation.standing.replicas who).term) situation round.middle is round.one in
    subst (λ list. IsAfter members table list after) (sym (grouped book round.front round.back rows round.parts))
    (performed members table (book ++ round.front) round.back (round_tasks members table.window at round.middle) round.middle after stood round.two)

-- ---- its two parts

pub front_of : (members : ℕ) (table : Table) (book front back rows : List Row) (situation middle after : Situation) → rows ≡ front ++ back → IsAfter members table (book ++ front) middle
    → Spans members table book rows situation after → Spans members table book front situation middle
front_of members table book front back rows situation middle after parts is spans =
    let whole = grouped book front back rows parts in
    let bounds = subst (λ list. IsWithinBounds list (standing_after members (first_rows table) list).posted) whole
    (subst (λ (s : Standing). IsWithinBounds (book ++ rows) s.posted) spans.ends spans.limits) in
    record {
      few = spans.few;
      sound = spans.sound;
      legal = front_legal members table (book ++ front) back (subst (λ list. IsLegal members table list) whole spans.legal);
      begins = spans.begins;
      ends = is;
      limits = subst (λ (s : Standing). IsWithinBounds (book ++ front) s.posted) (sym is) (front_bounds members table (book ++ front) back bounds);
    }

pub back_of : (members : ℕ) (table : Table) (book front back rows : List Row) (situation middle after : Situation) → rows ≡ front ++ back → IsAfter members table (book ++ front) middle
    → Spans members table book rows situation after → Spans members table (book ++ front) back middle after
back_of members table book front back rows situation middle after parts is spans =
    let whole = grouped book front back rows parts in
    record {
      few = spans.few;
      sound = spans.sound;
      legal = subst (λ list. IsLegal members table list) whole spans.legal;
      begins = is;
      ends = subst (λ list. IsAfter members table list after) whole spans.ends;
      limits = subst (λ list. IsWithinBounds list after.standing.posted) whole spans.limits;
    }

-- where no fault is left, it goes on by the part that its rows are
pub goes_by : (part : Situation → List Row → Situation → Type 0) (members : ℕ) (table : Table) (at : ℤ) (book rows : List Row) (situation after : Situation) → IsInWindow table.window at → IsFaultless members situation
    → Spans members table book rows situation after → part situation rows after → GoesOnWithin part members table at book rows situation after
goes_by part members table at book rows situation after within faultless spans goes = record {
  few = spans.few;
  sound = spans.sound;
  within = within;
  legal = spans.legal;
  standing = spans.begins;
  faultless = faultless;
  round = goes;
  limits = spans.limits;
}
