-- Threads may share a legal book: behind it are rows as threads add them, of which each may come next after those before it.
use Rattle.std.proofs.Common.{◌≡◌, ℕ, zero, suc, ◌≤◌, true, false, List, [], ◌∷◌, ◌++◌, length, take, Option, Some, None, inl, inr, refl, sym, ap, ◌∙◌, subst, append_assoc, arith}
use Rattle.std.proofs.Common.{append-nil as append_nil}
use Rattle.std.specs.List.{AllZip, count_by, flat_map, slice_get}
use Rattle.std.specs.Option.{option_to_list}
use Rattle.std.proofs.lemmas.Bool.{cases_Bool}
use Rattle.paxos_base.specs.declared.rows.TableSize.{TableSize}
use Rattle.paxos_base.specs.declared.durable.Delta.{Delta}
use Rattle.due_set.specs.Table.{Table}
use Rattle.launch_machine.specs.Clerk.{first_rows, table_size}
use Rattle.step_spec.specs.Folds.{deltas_of}
use Rattle.step_spec.specs.Letters.{heard_in, is_small_letter}
use Rattle.step_spec.specs.Step.{AsksOnce, Event, asks_change}
use Rattle.step_spec.proofs.DeltaLemmas.{step_changes}
use Rattle.agreement.specs.Transition.{identity_of}
use Rattle.history.specs.Book.{Row, Standing, acts_at, standing_after, vote_of_delta}
use Rattle.history.specs.Legal.{IsEventOfCause, IsHeard, IsLegal, MayFollow}
use Rattle.history.specs.declared.turn.Cause.{Cause}
use Rattle.history.specs.declared.turn.Cause.TheVariants.{Campaign, Tick, Hear, Answer}
use Rattle.history.specs.declared.turn.Turn.{Turn}
use Rattle.history.specs.declared.turn.Turn.TheVariants.{Did, Stopped, Restarted, Arrived}
use Rattle.history.proofs.Agreement.{cut_is_legal}
use Rattle.history.proofs.Keeping.{votes_changed}
use Rattle.replica_core.proofs.OnceLemmas.{read-once}
use Rattle.replica_core.specs.declared.out.StepOut.{StepOut}
use Rattle.turn_book.specs.Rows.{HasLawful, IsLawful}
use Rattle.world_law.specs.Book.{BookState, IsRowOf, StandsBehind}
use Rattle.world_law.specs.Rows.{HasRows, HasTurnOf, MayComeNext}
use Rattle.world_law.specs.declared.row.BookRow.{BookRow}
use Rattle.history.proofs.FrontLemmas.{follows_there as may_next}

-- ---- what came of a turn

heard_once : (n : ℕ) (size : TableSize) (s : Standing) (who number : ℕ) (event : Event) → IsHeard n size s who number event → AsksOnce event
heard_once n size s who number event heard =
    let few : count_by asks_change (heard_in size heard.heard.packets) ≤ 1 = elim (cases_Bool (is_small_letter size heard.heard.packets)) [
      | inl small ↦ rw small (read-once n heard.letter.from heard.heard.packets heard.letter.bytes heard.heard.spells)
      | inr large ↦ rw large (omega arith)
    ] in
    subst AsksOnce (sym heard.is) (subst (λ messages. count_by asks_change messages ≤ 1) (sym heard.heard.heard) few)

asks_once : (n : ℕ) (table : Table) (s : Standing) (who : ℕ) (cause : Cause) (event : Event) → IsEventOfCause n table s who cause event → AsksOnce event
asks_once n table s who Campaign event is = subst AsksOnce (sym is) tt
asks_once n table s who (Tick now) event is = subst AsksOnce (sym is.2) tt
asks_once n table s who (Hear number) event is = heard_once n (table_size table) s who number event is
asks_once n table s who Answer event is = subst AsksOnce (sym is.is) tt

one_at_most : (deltas : List Delta) → length deltas ≤ 1 → (delta : Option Delta) × (option_to_list delta ≡ deltas)
one_at_most [] few = (None, refl)
one_at_most (delta ∷ []) few = (Some delta, refl)
one_at_most (delta ∷ other ∷ deltas) few = absurd (omega (arith, few))

-- the row is that of something that came of its turn
abbrev Brought : Row → Type 0
Brought row = (out : StepOut) × IsRowOf row.turn out row

with_change : (row : Row) (change : Option Delta) → row.votes ≡ flat_map vote_of_delta (option_to_list change) → Brought row
with_change row change votes = (record { delta = change; letters = row.letters; learnt = row.learnt; call = None }, record { turn_is = refl; letters = refl; votes = votes; learnt = refl })

brought : (n : ℕ) (table : Table) (s : Standing) (turn : Turn) (row : Row) → MayFollow n table s turn row → Brought row
brought n table s (Did who cause made) row may =
    let acts = acts_at n s who row.event in
    let once = asks_once n table s who cause row.event may.0.event_of in
    let change = one_at_most (deltas_of acts) (step_changes (identity_of n who) row.event (s.replicas who) once) in
    with_change row change.0 (may.1.votes ∙ votes_changed acts ∙ ap (flat_map vote_of_delta) (sym change.1))
brought n table s (Stopped who None kept) row may = with_change row None may.3.votes
brought n table s (Stopped who (Some cause) true) row may = with_change row (Some may.1.delta) (may.1.votes ∙ sym (append_nil (vote_of_delta may.1.delta)))
brought n table s (Stopped who (Some cause) false) row may = with_change row None may.1.votes
brought n table s (Restarted who) row may = with_change row None may.2.votes
brought n table s (Arrived number) row may = with_change row None may.1.votes

-- ---- lists

zip_take : {A B : Type 0} (R : A → B → Type 0) (xs : List A) (ys : List B) (k : ℕ) → AllZip R xs ys → AllZip R (take k xs) (take k ys)
zip_take R [] [] zero each = tt
zip_take R [] [] (suc k) each = tt
zip_take R [] (y ∷ ys) k each = absurd each
zip_take R (x ∷ xs) [] k each = absurd each
zip_take R (x ∷ xs) (y ∷ ys) zero each = tt
zip_take R (x ∷ xs) (y ∷ ys) (suc k) each = (each.0, zip_take R xs ys k each.1)

zip_at : {A B : Type 0} (R : A → B → Type 0) (xs : List A) (ys : List B) (k : ℕ) (x : A) → AllZip R xs ys → slice_get xs k ≡ Some x → (y : B) × (slice_get ys k ≡ Some y) × R x y
zip_at R [] ys k x each there = absurd cc
zip_at R (a ∷ xs) [] k x each there = absurd each
zip_at R (a ∷ xs) (b ∷ ys) zero x each there = (b, refl, subst (λ z. R z b) (let same : a ≡ x = cc in same) each.0)
zip_at R (a ∷ xs) (b ∷ ys) (suc k) x each there = zip_at R xs ys k x each.1 there

-- ---- a legal book

-- of each row of a legal book something came
listed : (n : ℕ) (table : Table) (front back : List Row) → IsLegal n table (front ++ back) → (rows : List BookRow) × AllZip HasTurnOf rows back
listed n table front [] legal = ([], tt)
listed n table front (row ∷ back) legal =
    let one = brought n table (standing_after n (first_rows table) front) row.turn row (may_next n table front back row legal) in
    let rest = listed n table (front ++ row ∷ []) back (subst (λ rows. IsLegal n table rows) (sym (append_assoc front (row ∷ []) back)) legal) in
    (record { turn = row.turn; out = one.0 } ∷ rest.0, (one.1, rest.1))

-- rows behind which legal rows are may come one after another
may_come : (n : ℕ) (table : Table) (rows : List BookRow) (behind : List Row) → IsLegal n table behind → AllZip HasTurnOf rows behind → IsLawful (λ before row. MayComeNext n table before row) rows
may_come n table rows behind legal each place row is =
    let found = zip_at HasTurnOf rows behind place row each is in
    record {
      behind = take place behind;
      legal = cut_is_legal n table behind place legal;
      each = zip_take HasTurnOf rows behind place each;
      next = found.0;
      is = found.2;
      may = legal place found.0 found.1;
    }

pub has_lawful : (table : Table) (rows : List Row) (book : BookState) → StandsBehind table rows book
    → HasLawful (λ before. HasRows table before book) (λ before row. MayComeNext book.members table before row)
has_lawful table rows book behind =
    let list = listed book.members table [] rows behind.legal in
    record {
      first = list.0;
      are = record { behind = rows; stands = behind; each = list.1 };
      lawful = may_come book.members table list.0 rows behind.legal list.1;
    }
