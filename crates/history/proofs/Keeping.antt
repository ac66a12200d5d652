-- What a program that keeps a book looks up, and by what a book goes on.
use Rattle.std.proofs.Common.{◌≡◌, ◌≢◌, ℕ, Bool, true, false, eqb, Option, Some, List, [], ◌∷◌, ◌++◌, Result, refl, sym, ap, ◌∙◌, inl, inr, arith, subst, ℤ}
use Rattle.std.specs.List.{flat_map}
use Rattle.std.specs.Ordering.{int_eq}
use Rattle.std.proofs.lemmas.Bool.Decides.{Decides-int_eq}
use Rattle.std.proofs.lemmas.Bool.{and_parts, cases_Bool, eq-eqb, eqb-true}
use Rattle.std.proofs.lemmas.List.Concat.{flat_map-append}
use Rattle.std.proofs.lemmas.List.Sums.{fold_push}
use Rattle.launch_machine.specs.Clerk.{table_size}
use Rattle.paxos_base.specs.declared.rows.TableSize.{TableSize}
use Rattle.paxos_base.specs.declared.rows.JobRow.{JobRow}
use Rattle.paxos_letter.proofs.LetterLemmas.{letter_again}
use Rattle.paxos_letter.proofs.PacketBack.{same_packets}
use Rattle.cluster_sched.specs.Fates.{Arrives, CallsByName, Holdings, call}
use Rattle.cluster_sched.specs.declared.fault.CallFault.{CallFault}
use Rattle.cluster_sched.specs.Held.{IsLookedUp}
use Rattle.cluster_sched.specs.declared.row.Name.{Name}
use Rattle.cluster_sched.specs.declared.row.SchedRow.{SchedRow}
use Rattle.cluster_sched.proofs.HeldLemmas.{IsLookedUp-same}
use Rattle.due_set.specs.Table.{Table}
use Rattle.launch_machine.specs.Answers.{IsIntent}
use Rattle.launch_machine.proofs.ClerkLemmas.{AppliesAll-same}
use Rattle.step_spec.specs.Act.{Act, Stand, Pledge, Cast, Propose, Rebase}
use Rattle.step_spec.specs.Folds.{deltas_by, deltas_of}
use Rattle.step_spec.specs.Letters.{IsHeardAs, heard_in}
use Rattle.step_spec.specs.Message.{Message}
use Rattle.step_spec.specs.State.{State}
use Rattle.step_spec.specs.Step.{Event, IsPlanned, Plan}
use Rattle.step_spec.specs.Step as told
use Rattle.history.specs.Book.{Row, Standing, after_row, arriving, first_standing, held_after, is_name, late_after, standing_after, under, vote_of_delta, votes_by, votes_of}
use Rattle.history.specs.Legal.{IsAnswered, IsHeard, IsLegal, TakesTurn, answered}
use Rattle.history.specs.declared.turn.CallRow.{CallRow}
use Rattle.history.specs.declared.turn.Cause.{Cause}
use Rattle.history.specs.declared.turn.Cause.TheVariants.{Campaign, Tick, Hear, Answer}
use Rattle.launch_machine.proofs.IntentLemmas.{one_intent, same_some}
use Rattle.cluster_sched.proofs.LedgerLemmas.{IsLookedUp-later}

-- ---- votes and changes

vote_changed : (act : Act) → votes_by act ≡ flat_map vote_of_delta (deltas_by act)
unfolding deltas_by
vote_changed (Stand me ballot) = refl
vote_changed (Pledge ballot) = refl
vote_changed (Cast vote) = refl
vote_changed (Propose me vote) = refl
vote_changed (Rebase slot rows) = refl
vote_changed act = refl

pub votes_changed : (acts : List Act) → votes_of acts ≡ flat_map vote_of_delta (deltas_of acts)
votes_changed [] = refl
votes_changed (act ∷ acts) =
    ap (λ votes. votes ++ votes_of acts) (vote_changed act) ∙ ap (λ votes. flat_map vote_of_delta (deltas_by act) ++ votes) (votes_changed acts)
    ∙ sym (flat_map-append vote_of_delta (deltas_by act) (deltas_of acts))

-- ---- what is held under a name

abbrev name_of : ℕ → ℤ → Name
name_of job at = record { job = job; at = at }

pub name_is : (one other : Name) → is_name one other ≡ true → one ≡ other
name_is one other is =
    let parts = and_parts (eqb one.job other.job) (int_eq one.at other.at) is in
    let jobs : one.job ≡ other.job = eqb-true one.job other.job parts.0 in
    let ats : one.at ≡ other.at = (Decides-int_eq one.at other.at).0 parts.1 in
    ap (λ job. name_of job one.at) jobs ∙ ap (name_of other.job) ats

not_named : (one other : Name) → is_name one other ≡ false → one ≢ other
not_named one other is same =
    let named : is_name one other ≡ true = rw (eq-eqb one.job other.job (ap (λ (n : Name). n.job) same), (Decides-int_eq one.at other.at).1 (ap (λ (n : Name). n.at) same)) refl in
    let wrong : true ≡ false = sym named ∙ is in cc

pub under_looked_up : (name : Name) (held : List SchedRow) → IsLookedUp held name (under name held)
under_looked_up name [] = λ k d within. absurd (omega (arith, within))
under_looked_up name (first ∷ held) = elim (cases_Bool (is_name first.name name)) [
  | inl here ↦ rw here (record { before = []; after = held; parts = refl; named = name_is first.name name here; first = λ k d within. absurd (omega (arith, within)) })
  | inr other ↦ rw other (IsLookedUp-later first held name (under name held) (not_named first.name name other) (under_looked_up name held))
]

pub looked_up_under : (name : Name) (held : List SchedRow) (found : Option SchedRow) → IsLookedUp held name found → under name held ≡ found
looked_up_under name held found is = IsLookedUp-same held name (under name held) found (under_looked_up name held) is

-- the rows that a call of a ledger adds are those that it adds in a turn, and so is its answer
pub call_holds : (old new : Holdings) (row : SchedRow) (result : Result SchedRow CallFault) (made : CallRow) → CallsByName old row result new → made.row ≡ row → made.fate ≡ old.fate → new.held ≡ held_after (Some made) old.held
call_holds old new row result made calls same fate =
    rw (same, fate, looked_up_under row.name old.held calls.found calls.is_found) calls.comes.held

pub call_is_late : (old new : Holdings) (row : SchedRow) (result : Result SchedRow CallFault) (made : CallRow) → CallsByName old row result new → made.row ≡ row → made.fate ≡ old.fate → new.late ≡ late_after (Some made) old.held old.late
call_is_late old new row result made calls same fate =
    rw (same, fate, looked_up_under row.name old.held calls.found calls.is_found) calls.comes.late

pub call_answers : (old new : Holdings) (row : SchedRow) (result : Result SchedRow CallFault) → CallsByName old row result new → answered result ≡ answered (call old.fate row (under row.name old.held)).answer
call_answers old new row result calls = rw (looked_up_under row.name old.held calls.found calls.is_found) (ap answered calls.comes.answer)

pub arrival_holds : (old new : Holdings) (row : SchedRow) (stands : Bool) → Arrives old row stands new → new.held ≡ arriving (Some row) old.held
arrival_holds old new row stands arrives = rw (looked_up_under row.name old.held arrives.found arrives.holds.is_found) arrives.holds.held

-- ---- the event of a cause

heard_same : (n : ℕ) (size : TableSize) (bytes : List ℕ) (from : ℕ) (one other : List Message) → IsHeardAs n size bytes from one → IsHeardAs n size bytes from other → one ≡ other
heard_same n size bytes from one other a b =
    let first = letter_again n from a.packets bytes a.spells in
    let second = letter_again n from b.packets bytes b.spells in
    let same : a.packets ≡ b.packets = same_packets from from a.packets b.packets (sym first.fields ∙ second.fields) in
    a.heard ∙ ap (heard_in size) same ∙ sym b.heard

plan_same : (table : Table) (state : State) (now : ℤ) (one other : Plan) → IsPlanned table state (told.Tick now one) → IsPlanned table state (told.Tick now other) → told.Tick now one ≡ told.Tick now other
plan_same table state now one other a b =
    let rows : one.rows ≡ other.rows = AppliesAll-same table state.kept.rows state.learned one.rows other.rows a.0 b.0 in
    let intents = one_intent table other.rows now one.intent other.intent (subst (λ rows. IsIntent table rows now one.intent) rows a.1) b.1 in
    rw (rows, intents) refl

answer_same : (table : Table) (standing : Standing) (who : ℕ) (state : State) (one other : Event) → IsAnswered standing who one → IsAnswered standing who other → IsPlanned table state one → IsPlanned table state other → one ≡ other
answer_same table standing who state one other a b planned beside =
    let row : a.row ≡ b.row = same_some a.row b.row (sym a.waits ∙ b.waits) in
    let rows : a.plan.rows ≡ b.plan.rows = AppliesAll-same table state.kept.rows state.learned a.plan.rows b.plan.rows
    (subst (λ event. IsPlanned table state event) a.is planned) (subst (λ event. IsPlanned table state event) b.is beside) in
    a.is ∙ rw (row, rows) refl ∙ sym b.is

pub one_event : (n : ℕ) (table : Table) (standing : Standing) (who : ℕ) (cause : Cause) (one other : Event) → TakesTurn n table standing who cause one → TakesTurn n table standing who cause other → one ≡ other
one_event n table standing who Campaign one other a b = a.event_of ∙ sym b.event_of
one_event n table standing who (Tick now) one other a b =
    let mine = a.event_of in
    let theirs = b.event_of in
    mine.2 ∙ plan_same table (standing.replicas who) now.0 mine.1 theirs.1 (subst (λ event. IsPlanned table (standing.replicas who) event) mine.2 a.planned)
    (subst (λ event. IsPlanned table (standing.replicas who) event) theirs.2 b.planned) ∙ sym theirs.2
one_event n table standing who (Hear number) one other a b = go a.event_of b.event_of
  where
    go : IsHeard n (table_size table) standing who number one → IsHeard n (table_size table) standing who number other → one ≡ other
    go mine theirs =
        let letter = same_some mine.letter theirs.letter (sym mine.there ∙ theirs.there) in
        let messages = heard_same n (table_size table) theirs.letter.bytes theirs.letter.from mine.messages theirs.messages
        (subst (λ l. IsHeardAs n (table_size table) l.bytes l.from mine.messages) letter mine.heard) theirs.heard in
        mine.is ∙ rw (letter, messages) refl ∙ sym theirs.is
one_event n table standing who Answer one other a b = answer_same table standing who (standing.replicas who) one other a.event_of b.event_of a.planned b.planned

-- ---- books

pub empty_is_legal : (n : ℕ) (table : Table) → IsLegal n table []
empty_is_legal n table number row is = absurd cc

pub stands_next : (n : ℕ) (rows : List JobRow) (book : List Row) (row : Row) → standing_after n rows (book ++ row ∷ []) ≡ after_row n (standing_after n rows book) row.turn row.event row.letters
stands_next n rows book row = fold_push _ (first_standing n rows) book row
