-- What a step leaves of what a replica keeps, and which bytes are a letter.
use Rattle.std.proofs.Common.{◌≡◌, ◌↔◌, ℕ, Bool, IsTrue, List, [], ◌∷◌, Option, None, Some, refl, sym, ap, ◌∙◌, subst}
use Rattle.std.specs.List.{Contains, slice_get}
use Rattle.due_set.proofs.Rising.{Contains-map}
use Rattle.std.specs.Option.{option_to_list}
use Rattle.history.proofs.Posted.{posted_breaks_none}
use Rattle.step_spec.proofs.Lists.{found_in}
use Rattle.history.specs.declared.turn.Cause.{Cause}
use Rattle.history.specs.declared.turn.Cause.TheVariants as cause
use Rattle.world_law.specs.Book.{BookState, StandsBehind, posted_as, standing_behind}
use Rattle.world_law.specs.Replicas.{IsInputOf, IsLetterInput}
use Rattle.world_law.specs.declared.letter.LetterRow.{LetterRow}
use Rattle.cluster_sched.proofs.NameLemmas.{name_text-injective}
use Rattle.cluster_sched.specs.Names.{IsNameIn, name_text}
use Rattle.cluster_sched.specs.declared.row.Name.{Name}
use Rattle.cluster_sched.specs.declared.row.SchedRow.{SchedRow}
use Rattle.due_set.specs.Table.{IsSound, Table}
use Rattle.journal_line.specs.Told.{ToldAnswer, told_answers}
use Rattle.journal_line.specs.declared.line.AnswerWords.{AnswerWords}
use Rattle.journal_text.specs.Line.{told_row}
use Rattle.history.specs.Book.{PostedLetter, Row, durable_after}
use Rattle.paxos_base.specs.Durable.{after_delta}
use Rattle.paxos_base.specs.declared.durable.Delta.{Delta}
use Rattle.paxos_base.specs.declared.durable.Durable.{Durable}
use Rattle.paxos_letter.specs.Letters.{letter_fault_of}
use Rattle.step_spec.specs.Act.{Act, Observe, Stand, Gather, TakeLead, Pledge, Cast, Propose, Count, Wait, Learn, Rebase, Call, Send, Restart, after_act}
use Rattle.step_spec.specs.Folds.{after_acts, deltas_by, deltas_of}
use Rattle.step_spec.specs.State.{State}
use Rattle.step_spec.specs.Step.{step}
use Rattle.replica_core.specs.Commit.{kept_after}
use Rattle.replica_core.specs.Replica.{ReplicaState}
use Rattle.replica_core.specs.Step.{Steps, fault_in}
use Rattle.replica_core.specs.declared.input.Input.{Input}
use Rattle.replica_core.specs.declared.input.Input.TheVariants.{Campaign, Tick, Hear, Answer}
use Rattle.replica_core.specs.declared.out.StepOut.{StepOut}

-- ---- what is kept

-- what acts leave is what their changes do, one after another
kept_by_acts : (acts : List Act) (state : State) → (after_acts acts state).kept ≡ durable_after (deltas_of acts) state.kept
unfolding after_act deltas_by
kept_by_acts [] state = refl
kept_by_acts (Observe ballot ∷ acts) state = kept_by_acts acts (after_act (Observe ballot) state)
kept_by_acts (Stand me ballot ∷ acts) state = kept_by_acts acts (after_act (Stand me ballot) state)
kept_by_acts (Gather from votes ∷ acts) state = kept_by_acts acts (after_act (Gather from votes) state)
kept_by_acts (TakeLead ∷ acts) state = kept_by_acts acts (after_act TakeLead state)
kept_by_acts (Pledge ballot ∷ acts) state = kept_by_acts acts (after_act (Pledge ballot) state)
kept_by_acts (Cast vote ∷ acts) state = kept_by_acts acts (after_act (Cast vote) state)
kept_by_acts (Propose me vote ∷ acts) state = kept_by_acts acts (after_act (Propose me vote) state)
kept_by_acts (Count from ∷ acts) state = kept_by_acts acts (after_act (Count from) state)
kept_by_acts (Wait ∷ acts) state = kept_by_acts acts (after_act Wait state)
kept_by_acts (Learn slot entry ∷ acts) state = kept_by_acts acts (after_act (Learn slot entry) state)
kept_by_acts (Rebase slot rows ∷ acts) state = kept_by_acts acts (after_act (Rebase slot rows) state)
kept_by_acts (Call row ∷ acts) state = kept_by_acts acts (after_act (Call row) state)
kept_by_acts (Send whom message ∷ acts) state = kept_by_acts acts (after_act (Send whom message) state)
kept_by_acts (Restart me ∷ acts) state = kept_by_acts acts (after_act (Restart me) state)

kept_by_delta : (delta : Option Delta) (kept : Durable) → durable_after (option_to_list delta) kept ≡ kept_after delta kept
kept_by_delta None kept = refl
kept_by_delta (Some delta) kept = refl

-- a step leaves what its change does of what is kept
pub kept_by_step : (table : Table) (input : Input) (old new : ReplicaState) (out : StepOut) → Steps table input old new out → new.state.kept ≡ kept_after out.delta old.state.kept
kept_by_step table input old new out steps =
    ap (λ (state : State). state.kept) steps.took.state ∙ kept_by_acts (step old.identity steps.event old.state) old.state
    ∙ ap (λ (changes : List Delta). durable_after changes old.state.kept) steps.took.delta ∙ kept_by_delta out.delta old.state.kept

pub kept_some : (table : Table) (input : Input) (old new : ReplicaState) (out : StepOut) (kept : Durable) (change : Delta) → Steps table input old new out → kept ≡ old.state.kept → out.delta ≡ Some change
    → after_delta change kept ≡ new.state.kept
kept_some table input old new out kept change steps same is =
    ap (after_delta change) same ∙ ap (λ delta. kept_after delta old.state.kept) (sym is) ∙ sym (kept_by_step table input old new out steps)

pub kept_none : (table : Table) (input : Input) (old new : ReplicaState) (out : StepOut) (kept : Durable) → Steps table input old new out → kept ≡ old.state.kept → out.delta ≡ None
    → kept ≡ new.state.kept
kept_none table input old new out kept steps same is =
    same ∙ ap (λ delta. kept_after delta old.state.kept) (sym is) ∙ sym (kept_by_step table input old new out steps)

-- ---- which bytes are a letter

-- a letter of a book breaks no rule
letter_sound : (table : Table) (rows : List Row) (book : BookState) (number : ℕ) (letter : LetterRow) → StandsBehind table rows book → slice_get book.letters number ≡ Some letter
    → letter_fault_of book.members letter.bytes ≡ None
letter_sound table rows book number letter behind there =
    posted_breaks_none book.members table rows (posted_as letter) behind.legal
    (subst (λ (posted : List PostedLetter). Contains posted (posted_as letter)) behind.letters (Contains-map posted_as book.letters letter (found_in book.letters number letter there)))

heard_sound : (members : ℕ) (told : Input) (bytes : List ℕ) → letter_fault_of members bytes ≡ None → IsLetterInput told bytes → fault_in members told ≡ None
heard_sound members Campaign bytes none is = absurd is
heard_sound members (Tick now) bytes none is = absurd is
heard_sound members (Hear heard) bytes none is = subst (λ (b : List ℕ). letter_fault_of members b ≡ None) (sym is) none
heard_sound members (Answer job at kind) bytes none is = absurd is

-- nor does what a replica is told of a cause
pub told_sound : (table : Table) (rows : List Row) (book : BookState) (who : ℕ) (why : Cause) (told : Input) → StandsBehind table rows book → IsInputOf (standing_behind table rows book) book who why told
    → fault_in book.members told ≡ None
told_sound table rows book who cause.Campaign told behind is = subst (λ (i : Input). fault_in book.members i ≡ None) (sym is) refl
told_sound table rows book who (cause.Tick now) told behind is = subst (λ (i : Input). fault_in book.members i ≡ None) (sym is) refl
told_sound table rows book who (cause.Hear number) told behind is = heard_sound book.members told is.letter.bytes (letter_sound table rows book number is.letter behind is.there) is.is
told_sound table rows book who cause.Answer told behind is = subst (λ (i : Input). fault_in book.members i ≡ None) (sym is.is) refl

-- ---- names

-- a text that is one launch's name is another's just where they are one
pub name_told : (table : Table) (text : List ℕ) (read name : Name) → IsSound table → IsNameIn table name → IsNameIn table read × (text ≡ name_text table read) → (read ≡ name) ↔ (text ≡ name_text table name)
name_told table text read name sound named is = (
  λ same. is.1 ∙ ap (name_text table) same,
  λ told. name_text-injective table read name sound is.0 named (sym is.1 ∙ told),
)

-- an answer is told just where its kind and its name are
pub answer_told : (table : Table) (row : SchedRow) (words : AnswerWords) (name : Bool) → words.kind ≡ row.kind → IsTrue name ↔ (words.name.now ≡ name_text table row.name)
    → IsTrue name ↔ (told_row table (Some row) ≡ told_answers (Some words))
answer_told table row words name kind tells = (
  λ holds. let same : words.name.now ≡ name_text table row.name = tells.0 holds in rw (same, kind) refl,
  λ told. tells.1 (sym (ap (λ (told : Option ToldAnswer). told_name told) told)),
)
  where
    told_name : Option ToldAnswer → List ℕ
    told_name None = []
    told_name (Some answer) = answer.name
