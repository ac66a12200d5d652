-- Turns in which a replica has taken some events, one after another.
use Rattle.std.proofs.Common.{◌≡◌, ◌≢◌, ℕ, ◌<◌, Option, None, Some, List, [], ◌∷◌, ◌++◌, append_assoc, append-nil, refl, sym, ap, ◌∙◌, inl, inr, arith, subst}
use Rattle.std.specs.List.{AllZip, filter}
use Rattle.std.proofs.lemmas.Bool.{cases_eq, eq-eqb, ne_eqb}
use Rattle.std.proofs.lemmas.List.Elements.{Contains-append_left, Contains-append_right, filter-append}
use Rattle.cluster_sched.specs.declared.fate.Fate.TheVariants as fate
use Rattle.paxos_base.specs.declared.rows.TableSize.{TableSize}
use Rattle.due_set.specs.Table.{Table}
use Rattle.step_spec.specs.Folds.{sent_to}
use Rattle.step_spec.specs.Step.{Event}
use Rattle.agreement.specs.Transition.{identity_of}
use Rattle.history.specs.Book.{PostedLetter, Row, after_row, answer_to, post}
use Rattle.history.specs.Legal.{MayFollow}
use Rattle.history.specs.declared.turn.CallRow.{CallRow}
use Rattle.history.specs.declared.turn.Cause.{Cause}
use Rattle.history.specs.declared.turn.Cause.TheVariants.{Campaign, Tick, Hear, Answer}
use Rattle.history.specs.declared.turn.Turn.TheVariants.{Did}
use Rattle.synchronous_rounds.specs.Cluster.{ArePlanned, after_events, letters_to}
use Rattle.synchronous_rounds.proofs.Lists.{events_append}
use Rattle.synchronous_rounds.proofs.MailLemmas.{letters_append}
use Rattle.script_semantics.specs.Situation.{Situation, after_turn, fates_after, mails_after}
use Rattle.settling.specs.Stands.{IsHeardLike}
use Rattle.settling.proofs.PostLemmas.{AreWhole, is_to, one_to}
use Rattle.history.proofs.Acts.{with_here}
use Rattle.history.proofs.FrontLemmas.{replica_there}
use Rattle.history.proofs.Standings.{fact_there}
use Rattle.synchronous_rounds.proofs.SomeIdle.{planned_append as planned_join}

-- The replica has taken the events: it is what they leave, it has posted what they say, and of the others nothing has changed.
pub record Passes (members : ℕ) (table : Table) (size : TableSize) (who : ℕ) (events : List Event) (before after : Situation) : Type 0 where
  pub replica : after.standing.replicas who ≡ after_events (identity_of members who) events (before.standing.replicas who)
  pub others : (other : ℕ) → other ≢ who → after.standing.replicas other ≡ before.standing.replicas other
  pub waits : (other : ℕ) → other ≢ who → after.standing.waits other ≡ before.standing.waits other
  pub mails : (other : ℕ) → other ≢ who → after.mails other ≡ before.mails other
  pub runs : after.standing.runs ≡ before.standing.runs
  pub cuts : after.cuts ≡ before.cuts
  pub skews : after.skews ≡ before.skews
  pub done : (other : ℕ) → before.fates other ≡ fate.Done → after.fates other ≡ fate.Done
  pub planned : ArePlanned (identity_of members who) table events (before.standing.replicas who)
  pub more : List PostedLetter
  pub posted : after.standing.posted ≡ before.standing.posted ++ more
  pub letters : AreWhole members size more → (q : ℕ) → q < members
      → AllZip (IsHeardLike members size) (filter (is_to q) more) (letters_to (identity_of members who) q events (before.standing.replicas who))

-- ---- none, and one part after another

pub pass_none : (members : ℕ) (table : Table) (size : TableSize) (who : ℕ) (situation : Situation) → Passes members table size who [] situation situation
pass_none members table size who situation = record {
  replica = refl;
  others = λ other apart. refl;
  waits = λ other apart. refl;
  mails = λ other apart. refl;
  runs = refl;
  cuts = refl;
  skews = refl;
  done = λ other is. is;
  planned = tt;
  more = [];
  posted = sym (append-nil situation.standing.posted);
  letters = λ whole q below. tt;
}

pub zip_append : {A B : Type 0} (R : A → B → Type 0) (xs : List A) (us : List B) (ys : List A) (vs : List B)
    → AllZip R xs us → AllZip R ys vs → AllZip R (xs ++ ys) (us ++ vs)
zip_append R [] [] ys vs front back = back
zip_append R [] (u ∷ us) ys vs front back = absurd front
zip_append R (x ∷ xs) [] ys vs front back = absurd front
zip_append R (x ∷ xs) (u ∷ us) ys vs front back = (front.0, zip_append R xs us ys vs front.1 back)

pub whole_left : (members : ℕ) (size : TableSize) (xs ys : List PostedLetter) → AreWhole members size (xs ++ ys) → AreWhole members size xs
whole_left members size xs ys whole letter has = whole letter (Contains-append_left xs ys letter has)

pub whole_right : (members : ℕ) (size : TableSize) (xs ys : List PostedLetter) → AreWhole members size (xs ++ ys) → AreWhole members size ys
whole_right members size xs ys whole letter has = whole letter (Contains-append_right xs ys letter has)

pub pass_join : (members : ℕ) (table : Table) (size : TableSize) (who : ℕ) (xs ys : List Event) (before middle after : Situation)
    → Passes members table size who xs before middle → Passes members table size who ys middle after → Passes members table size who (xs ++ ys) before after
pass_join members table size who xs ys before middle after one two =
    let self = identity_of members who in
    let state = before.standing.replicas who in
    record {
      replica = two.replica ∙ ap (after_events self ys) one.replica ∙ sym (events_append self xs ys state);
      others = λ other apart. two.others other apart ∙ one.others other apart;
      waits = λ other apart. two.waits other apart ∙ one.waits other apart;
      mails = λ other apart. two.mails other apart ∙ one.mails other apart;
      runs = two.runs ∙ one.runs;
      cuts = two.cuts ∙ one.cuts;
      skews = two.skews ∙ one.skews;
      done = λ other is. two.done other (one.done other is);
      planned = planned_join self table xs ys state one.planned (subst (λ s. ArePlanned self table ys s) one.replica two.planned);
      more = one.more ++ two.more;
      posted = two.posted ∙ ap (λ list. list ++ two.more) one.posted ∙ append_assoc before.standing.posted one.more two.more;
      letters = λ whole q below.
          subst (λ list. AllZip (IsHeardLike members size) list (letters_to self q (xs ++ ys) state)) (sym (filter-append (is_to q) one.more two.more))
          (subst (λ list. AllZip (IsHeardLike members size) (filter (is_to q) one.more ++ filter (is_to q) two.more) list) (sym (letters_append self q xs ys state))
          (zip_append (IsHeardLike members size) (filter (is_to q) one.more) (letters_to self q xs state) (filter (is_to q) two.more) (letters_to self q ys (after_events self xs state))
          (one.letters (whole_left members size one.more two.more whole) q below)
          (subst (λ s. AllZip (IsHeardLike members size) (filter (is_to q) two.more) (letters_to self q ys s)) one.replica
          (two.letters (whole_right members size one.more two.more whole) q below))));
    }

-- ---- one turn

fates_done : (who : ℕ) (cause : Cause) (made : Option CallRow) (situation : Situation) (other : ℕ) → situation.fates other ≡ fate.Done
    → fates_after (Did who cause made) situation.fates other ≡ fate.Done
fates_done who cause None situation other is = is
fates_done who cause (Some made) situation other is = elim (cases_eq other who) [
  | inl same ↦ rw (eq-eqb other who same) refl
  | inr apart ↦ rw (ne_eqb other who apart) is
]

mails_there : (who : ℕ) (cause : Cause) (made : Option CallRow) (mails : ℕ → List ℕ) (other : ℕ) → other ≢ who → mails_after (Did who cause made) mails other ≡ mails other
mails_there who Campaign made mails other apart = refl
mails_there who (Tick now) made mails other apart = refl
mails_there who (Hear number) made mails other apart = fact_there who _ mails other apart
mails_there who Answer made mails other apart = refl

-- the situation after a step, said of its turn
abbrev after_did : ℕ → Situation → ℕ → Cause → Option CallRow → Row → Situation
after_did members situation who cause made row = after_turn members situation (record row { turn = Did who cause made })

did_passes : (members : ℕ) (table : Table) (size : TableSize) (who : ℕ) (cause : Cause) (made : Option CallRow) (situation : Situation) (row : Row) → who < members
    → MayFollow members table situation.standing (Did who cause made) row
    → Passes members table size who (row.event ∷ []) situation (after_did members situation who cause made row)
unfolding after_row
did_passes members table size who cause made situation row member may = record {
  replica = with_here who _ situation.standing.replicas;
  others = λ other apart. replica_there who _ situation.standing.replicas other apart;
  waits = λ other apart. fact_there who (answer_to made) situation.standing.waits other apart;
  mails = λ other apart. mails_there who cause made situation.mails other apart;
  runs = refl;
  cuts = refl;
  skews = refl;
  done = λ other is. fates_done who cause made situation other is;
  planned = (may.0.planned, tt);
  more = post who row.letters;
  posted = refl;
  letters = λ whole q below.
      subst (λ list. AllZip (IsHeardLike members size) (filter (is_to q) (post who row.letters)) list) (sym (append-nil _))
      (one_to members size who q 0 members (λ q. sent_to who q _) row.letters may.1.letters whole (omega arith) (omega (arith, below)));
}

pub turn_passes : (members : ℕ) (table : Table) (size : TableSize) (who : ℕ) (cause : Cause) (made : Option CallRow) (situation : Situation) (row : Row)
    → row.turn ≡ Did who cause made → MayFollow members table situation.standing row.turn row
    → Passes members table size who (row.event ∷ []) situation (after_turn members situation row)
turn_passes members table size who cause made situation row is may =
    let so = subst (λ turn. MayFollow members table situation.standing turn row) is may in
    subst (λ turn. Passes members table size who (row.event ∷ []) situation (after_turn members situation (record row { turn = turn }))) (sym is)
    (did_passes members table size who cause made situation row so.0.member so)
