-- One that follows learns what it is told.
use Rattle.std.proofs.Common.{◌≡◌, ℕ, ◌+◌, ◌<◌, ◌≤◌, true, false, List, [], ◌∷◌, ◌++◌, length, eqb, ltb, Option, ℤ, sym, ◌∙◌, inl, inr, ◌⊎◌, arith, subst, length-append}
use Rattle.std.specs.List.{AllByRecursion, Contains}
use Rattle.std.proofs.lemmas.Bool.{cases_Bool, cases_lt, eqb-true, eq-eqb, le-ltb, ltb-true, ltb-false}
use Rattle.paxos_base.specs.Durable.{after_delta}
use Rattle.paxos_base.specs.declared.entry.Entry.{Entry}
use Rattle.paxos_base.specs.declared.rows.JobRow.{JobRow}
use Rattle.cluster_sched.specs.declared.row.SchedRow.{SchedRow}
use Rattle.step_spec.specs.Act.{after_act}
use Rattle.step_spec.specs.Folds.{after_acts}
use Rattle.step_spec.specs.Hear.{Once, hear, hear_all, known_from, line, not_yet, on_known, on_snap, once_after}
use Rattle.step_spec.specs.Message.{Message, Known, Snap}
use Rattle.step_spec.specs.State.{Identity, State, prefix_of}
use Rattle.step_spec.specs.Step.{Tick, Plan, step}
use Rattle.step_spec.proofs.Lists.{nothing_in, after_acts-append}
use Rattle.agreement.specs.Transition.{identity_of}
use Rattle.synchronous_rounds.specs.Cluster.{Advice, Cluster, HeardLetter, after_events, cluster_round, hear_events}
use Rattle.synchronous_rounds.specs.LedAlone.{AreWithin, IsBehind, IsLedAlone, StaysWithin}
use Rattle.synchronous_rounds.proofs.ActLemmas.{observed, rebased_prefix}
use Rattle.synchronous_rounds.proofs.FollowerLemmas.{behind_all, behind_hear}
use Rattle.synchronous_rounds.specs.CatchUp.{AreTold, IsTold, TellsWhatIsLacked, entries_from, table_and}
use Rattle.synchronous_rounds.proofs.KeepLemmas.{answer_after, keeps_all, keeps_hear, caught_up_mail, stays_caught_up}
use Rattle.due_set.proofs.Rising.{Contains-cases as cons_cases}

-- ---- a message

-- an entry is learned where it is the next one
learns_entry : (self : Identity) (from slot : ℕ) (entry : Entry) (once : Once) (state : State) → slot ≤ prefix_of state → slot + 1 ≤ prefix_of (after_acts (hear self from (Known slot entry) once state) state)
unfolding hear line on_known after_act
learns_entry self from slot entry once state least =
    elim (cases_Bool (eqb slot (prefix_of state))) [
      | inl next ↦
          let at = eqb-true slot (prefix_of state) next in
          let longer = length-append state.learned (entry ∷ []) in
          rw next (omega (arith, at, longer))
      | inr other ↦
          let more : slot + 1 ≤ prefix_of state = by_cases (cases_lt slot (prefix_of state)) other in
          rw other (elim (cases_Bool once.asked) [
            | inl before ↦ rw before more
            | inr first ↦ rw (first, le-ltb (prefix_of state) slot (omega (arith, more))) more
          ])
    ]
  where
    by_cases : (slot < prefix_of state) ⊎ (prefix_of state ≤ slot) → eqb slot (prefix_of state) ≡ false → slot + 1 ≤ prefix_of state
    by_cases (inl less) other = omega (arith, less)
    by_cases (inr least_too) other =
        let same : slot ≡ prefix_of state = omega (arith, least, least_too) in
        let yes = eq-eqb slot (prefix_of state) same in
        absurd (let no : true ≡ false = sym yes ∙ other in cc)

-- a launch table is taken where it is behind the prefix
takes_table : (self : Identity) (from slot : ℕ) (rows : List JobRow) (once : Once) (state : State) → slot ≤ prefix_of (after_acts (hear self from (Snap slot rows) once state) state)
unfolding hear line on_snap after_act after_delta
takes_table self from slot rows once state =
    elim (cases_Bool (ltb (prefix_of state) slot)) [
      | inl lacks ↦
          let high = ltb-true (prefix_of state) slot lacks in
          let at = rebased_prefix slot rows (observed 0 state) (omega (arith, high)) in
          rw lacks (omega (arith, at))
      | inr has ↦ rw has (ltb-false (prefix_of state) slot has)
    ]

-- ---- a letter

all_split : {X : Type 0} (P : X → Type 0) (xs ys : List X) → AllByRecursion P (xs ++ ys) → AllByRecursion P xs × AllByRecursion P ys
all_split P [] ys all = (tt, all)
all_split P (x ∷ xs) ys all = let rest = all_split P xs ys all.1 in ((all.0, rest.0), rest.1)

-- the entries are learned, whatever comes behind
learns_entries : (self : Identity) (b p from slot : ℕ) (entries : List Entry) (back : List Message) (once : Once) (state : State) → slot + length entries ≡ p → AllByRecursion (StaysWithin b p) (known_from slot entries ++ back) → IsBehind b p state → slot ≤ prefix_of state → prefix_of (after_acts (hear_all self from (known_from slot entries ++ back) once state) state) ≡ p
unfolding hear_all
learns_entries self b p from slot [] back once state all within behind least =
    stays_caught_up self b p from back once state within behind (omega (arith, all, least, behind.short))
learns_entries self b p from slot (entry ∷ entries) back once state all within behind least =
    let acts = hear self from (Known slot entry) once state in
    let now = after_acts acts state in
    let later = once_after (Known slot entry) state acts once in
    rw (after_acts-append acts (hear_all self from (known_from (slot + 1) entries ++ back) later now) state)
    (learns_entries self b p from (slot + 1) entries back later now (omega (arith, all)) within.1
    (behind_hear self b p from (Known slot entry) once state within.0 behind) (learns_entry self from slot entry once state least))

-- and so they are behind a launch table
learns_table : (self : Identity) (b p from slot : ℕ) (rows : List JobRow) (entries : List Entry) (back : List Message) (once : Once) (state : State) → slot + length entries ≡ p → AllByRecursion (StaysWithin b p) (Snap slot rows ∷ (known_from slot entries ++ back)) → IsBehind b p state → prefix_of (after_acts (hear_all self from (Snap slot rows ∷ (known_from slot entries ++ back)) once state) state) ≡ p
unfolding hear_all
learns_table self b p from slot rows entries back once state all within behind =
    let acts = hear self from (Snap slot rows) once state in
    let now = after_acts acts state in
    let later = once_after (Snap slot rows) state acts once in
    rw (after_acts-append acts (hear_all self from (known_from slot entries ++ back) later now) state)
    (learns_entries self b p from slot entries back later now all within.1
    (behind_hear self b p from (Snap slot rows) once state within.0 behind) (takes_table self from slot rows once state))

-- what is learned of messages is learned of them with others before them
learns_behind : (self : Identity) (b p from slot : ℕ) (front rest : List Message) (once : Once) (state : State) → ((once : Once) (state : State) → IsBehind b p state → slot ≤ prefix_of state → prefix_of (after_acts (hear_all self from rest once state) state) ≡ p) → AllByRecursion (StaysWithin b p) front → IsBehind b p state → slot ≤ prefix_of state → prefix_of (after_acts (hear_all self from (front ++ rest) once state) state) ≡ p
unfolding hear_all
learns_behind self b p from slot [] rest once state learns within behind least = learns once state behind least
learns_behind self b p from slot (message ∷ front) rest once state learns within behind least =
    let acts = hear self from message once state in
    let now = after_acts acts state in
    let later = once_after message state acts once in
    let up = keeps_hear self b p from message once state behind in
    rw (after_acts-append acts (hear_all self from (front ++ rest) later now) state)
    (learns_behind self b p from slot front rest later now learns within.1 (behind_hear self b p from message once state within.0 behind) (omega (arith, least, up)))

learns_letter : (self : Identity) (b p from slot : ℕ) (messages : List Message) (once : Once) (state : State) → TellsWhatIsLacked slot p messages → AllByRecursion (StaysWithin b p) messages → IsBehind b p state → slot ≤ prefix_of state → prefix_of (after_acts (hear_all self from messages once state) state) ≡ p
learns_letter self b p from slot messages once state (entries_from entries all piece) within behind least =
    let parts = all_split (StaysWithin b p) piece.front (known_from slot entries ++ piece.back) (subst (λ ms. AllByRecursion (StaysWithin b p) ms) piece.is within) in
    rw piece.is (learns_behind self b p from slot piece.front (known_from slot entries ++ piece.back) once state
    (λ later now still low. learns_entries self b p from slot entries piece.back later now all parts.1 still low) parts.0 behind least)
learns_letter self b p from slot messages once state (table_and base rows entries all piece) within behind least =
    let rest = Snap base rows ∷ (known_from base entries ++ piece.back) in
    let parts = all_split (StaysWithin b p) piece.front rest (subst (λ ms. AllByRecursion (StaysWithin b p) ms) piece.is within) in
    rw piece.is (learns_behind self b p from slot piece.front rest once state
    (λ later now still low. learns_table self b p from base rows entries piece.back later now all parts.1 still) parts.0 behind least)

-- ---- a round

learns_mail : (self : Identity) (b p c : ℕ) (now : ℤ) (plan : Plan) (mail : List HeardLetter) (who : ℕ) (cluster : Cluster) (told : IsTold c p who cluster) (state : State) → Contains mail told.letter → AreWithin b p mail → IsBehind b p state → told.slot ≤ prefix_of state → prefix_of (after_events self (hear_events mail ++ Tick now plan ∷ []) state) ≡ p
unfolding step
learns_mail self b p c now plan [] who cluster told state there within behind least = nothing_in there
learns_mail self b p c now plan (letter ∷ mail) who cluster told state there within behind least =
    let acts = hear_all self letter.from letter.messages not_yet state in
    let next = behind_all self b p letter.from letter.messages not_yet state within.0 behind in
    elim (cons_cases letter mail told.letter there) [
      | inl same ↦
          let tells : TellsWhatIsLacked told.slot p letter.messages = subst (λ l. TellsWhatIsLacked told.slot p l.messages) (sym same) told.tells in
          let all = learns_letter self b p letter.from told.slot letter.messages not_yet state tells within.0 behind least in
          caught_up_mail self b p now plan mail (after_acts acts state) within.1 next (omega (arith, all))
      | inr later ↦
          let more = keeps_all self b p letter.from letter.messages not_yet state within.0 behind in
          learns_mail self b p c now plan mail who cluster told (after_acts acts state) later within.1 next (omega (arith, least, more))
    ]

-- those that are told have learned it
pub learned_next : (members leader ballot prefix : ℕ) (now : ℤ) (advice : ℕ → Advice) (answers : ℕ → Option SchedRow) (cluster : Cluster) (who : ℕ) → IsLedAlone members leader ballot prefix cluster → AreTold members leader prefix cluster → who < members → (who ≡ leader → ⊥) → prefix_of ((cluster_round members now advice answers cluster).replicas who) ≡ prefix
learned_next members leader ballot prefix now advice answers cluster who led_alone told below apart =
    let self = identity_of members who in
    let behind = led_alone.behind who below apart in
    let rest = hear_events (cluster.mails who) ++ Tick now (advice who).plan ∷ [] in
    rw (answer_after self (cluster.waits who) (advice who).rows rest (cluster.replicas who) behind.follows) (elim (told who below apart) [
      | inl all ↦ caught_up_mail self ballot prefix now (advice who).plan (cluster.mails who) (cluster.replicas who) (led_alone.within who below) behind (omega (arith, all))
      | inr is ↦ learns_mail self ballot prefix leader now (advice who).plan (cluster.mails who) who cluster is (cluster.replicas who) is.there (led_alone.within who below) behind is.short
    ])

-- one that has learned as much as the leader still has
pub caught_up_still : (members leader ballot prefix : ℕ) (now : ℤ) (advice : ℕ → Advice) (answers : ℕ → Option SchedRow) (cluster : Cluster) (who : ℕ) → IsLedAlone members leader ballot prefix cluster → who < members → (who ≡ leader → ⊥) → prefix_of (cluster.replicas who) ≡ prefix → prefix_of ((cluster_round members now advice answers cluster).replicas who) ≡ prefix
caught_up_still members leader ballot prefix now advice answers cluster who led_alone below apart all =
    let self = identity_of members who in
    let behind = led_alone.behind who below apart in
    let rest = hear_events (cluster.mails who) ++ Tick now (advice who).plan ∷ [] in
    rw (answer_after self (cluster.waits who) (advice who).rows rest (cluster.replicas who) behind.follows)
    (caught_up_mail self ballot prefix now (advice who).plan (cluster.mails who) (cluster.replicas who) (led_alone.within who below) behind (omega (arith, all)))
