-- What is in lists, and what lists of acts and of events come to.
use Rattle.std.proofs.Common.{◌≡◌, ℕ, Bool, true, List, [], ◌∷◌, ◌++◌, eqb, refl, cond}
use Rattle.std.specs.List.{AllByRecursion, Contains, flat_map}
use Rattle.std.proofs.lemmas.Bool.{eq-eqb}
use Rattle.due_set.specs.Table.{Table}
use Rattle.step_spec.specs.Act.{Act, Send}
use Rattle.step_spec.specs.Folds.{after_acts, sent_by, sent_to}
use Rattle.step_spec.specs.Message.{Message, Only}
use Rattle.step_spec.specs.State.{Identity, State}
use Rattle.step_spec.specs.Step.{Event, step}
use Rattle.synchronous_rounds.specs.Cluster.{ArePlanned, after_events}
use Rattle.due_set.proofs.Rising.{Contains-head as in_first, Contains-tail as in_rest}
use Rattle.step_spec.proofs.OutLemmas.{flat_has as flat_in}

-- ---- acts and events, one part after another

pub events_append : (self : Identity) (xs ys : List Event) (state : State) → after_events self (xs ++ ys) state ≡ after_events self ys (after_events self xs state)
events_append self [] ys state = refl
events_append self (x ∷ xs) ys state = events_append self xs ys (after_acts (step self x state) state)

pub planned_behind : (self : Identity) (table : Table) (xs ys : List Event) (state : State) → ArePlanned self table (xs ++ ys) state → ArePlanned self table ys (after_events self xs state)
planned_behind self table [] ys state planned = planned
planned_behind self table (x ∷ xs) ys state planned = planned_behind self table xs ys (after_acts (step self x state) state) planned.1

-- ---- lists

-- what holds of each in two lists holds of each in both
pub all_join : {X : Type 0} (P : X → Type 0) → (xs ys : List X) → AllByRecursion P xs → AllByRecursion P ys → AllByRecursion P (xs ++ ys)
all_join P [] ys first second = second
all_join P (x ∷ xs) ys first second = (first.0, all_join P xs ys first.1 second)

-- what holds of each in each list that a list gives
pub all_flat : {X Y : Type 0} (P : Y → Type 0) → (f : X → List Y) (xs : List X) → ((x : X) → Contains xs x → AllByRecursion P (f x)) → AllByRecursion P (flat_map f xs)
all_flat P f [] each = tt
all_flat P f (x ∷ xs) each = all_join P (f x) (flat_map f xs) (each x (in_first x xs)) (all_flat P f xs (λ y has. each y (in_rest x xs y has)))

-- what is sent to one replica is among what it is sent
pub sent_in : (me to : ℕ) (message : Message) (acts : List Act) → Contains acts (Send (Only to) message) → Contains (sent_to me to acts) message
unfolding sent_by
sent_in me to message acts has = flat_in (sent_by me to) acts (Send (Only to) message) message has (go (eqb to to) (eq-eqb to to refl))
  where
    go : (b : Bool) → b ≡ true → Contains (cond b (message ∷ []) []) message
    go b is = rw is (in_first message [])
