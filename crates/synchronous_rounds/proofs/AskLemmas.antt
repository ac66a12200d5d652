-- One that follows asks for what it lacks, once it hears how far the leader has learned.
use Rattle.std.proofs.Common.{◌≡◌, ℕ, ◌≤◌, List, [], ◌∷◌, ◌++◌, ltb, Option, ℤ, refl, sym, ap, ◌∙◌, inl, inr, ◌⊎◌, arith, subst}
use Rattle.std.specs.List.{AllByRecursion, Contains}
use Rattle.std.proofs.lemmas.Bool.{cases_Bool, ltb-false}
use Rattle.std.proofs.lemmas.List.Elements.{Contains-append_left, Contains-append_right}
use Rattle.cluster_sched.specs.declared.row.SchedRow.{SchedRow}
use Rattle.step_spec.specs.Act.{Act, Observe, Send, after_act}
use Rattle.step_spec.specs.Folds.{after_acts, sent_to}
use Rattle.step_spec.specs.Hear.{Once, hear, hear_all, line, not_yet, on_lead, once_after}
use Rattle.step_spec.specs.Message.{Message, AskFrom, Lead, Only}
use Rattle.step_spec.specs.State.{Identity, State, prefix_of}
use Rattle.step_spec.specs.Step.{Tick, Plan, step}
use Rattle.step_spec.proofs.Lists.{nothing_in, after_acts-append}
use Rattle.agreement.specs.Transition.{identity_of}
use Rattle.synchronous_rounds.specs.Cluster.{Advice, Cluster, HeardLetter, after_events, cluster_round, hear_events, letter_from, letters_to}
use Rattle.synchronous_rounds.specs.LedAlone.{AreWithin, IsBehind, IsLedAlone, Occurs, StaysWithin}
use Rattle.synchronous_rounds.proofs.FollowerLemmas.{behind_all, behind_hear}
use Rattle.synchronous_rounds.proofs.Lists.{sent_in}
use Rattle.synchronous_rounds.proofs.MailLemmas.{occurs_left, occurs_letter, occurs_next, occurs_right}
use Rattle.synchronous_rounds.specs.CatchUp.{HasSaidToAll, HaveAsked}
use Rattle.synchronous_rounds.proofs.KeepLemmas.{answer_after, answer_letters, keeps_all, keeps_mail, caught_up_mail, stays_caught_up}
use Rattle.due_set.proofs.Rising.{Contains-head as in_first, Contains-tail as in_rest, Contains-cases as cons_cases}

-- ---- a letter

-- it has learned as much, or has asked for all that it had not learned
abbrev AskedBy : (p to : ℕ) → List Act → State → Type 0
AskedBy p to acts now = (prefix_of now ≡ p) ⊎ ((slot : ℕ) × Contains acts (Send (Only to) (AskFrom slot)) × (slot ≤ prefix_of now))

asks_hear : (self : Identity) (b p from ballot : ℕ) (once : Once) (state : State) → IsBehind b p state → AskedBy p from (hear self from (Lead ballot p) once state) (after_acts (hear self from (Lead ballot p) once state) state)
unfolding hear line on_lead after_act
asks_hear self b p from ballot once state behind =
    elim (cases_Bool (ltb (prefix_of state) p)) [
      | inl missing ↦
          let acts : List Act = Observe ballot ∷ Send (Only from) (AskFrom (prefix_of state)) ∷ [] in
          let is : hear self from (Lead ballot p) once state ≡ acts = rw missing refl in
          subst (λ some. AskedBy p from some (after_acts some state)) (sym is)
          (inr (prefix_of state, in_rest (Observe ballot) (Send (Only from) (AskFrom (prefix_of state)) ∷ []) (Send (Only from) (AskFrom (prefix_of state))) (in_first (Send (Only from) (AskFrom (prefix_of state))) []), omega arith))
      | inr all ↦
          let least = ltb-false (prefix_of state) p all in
          let is : hear self from (Lead ballot p) once state ≡ Observe ballot ∷ [] = rw all refl in
          subst (λ some. AskedBy p from some (after_acts some state)) (sym is) (inl (omega (arith, least, behind.short)))
    ]

asks_all : (self : Identity) (b p from ballot : ℕ) (messages : List Message) (once : Once) (state : State) → AllByRecursion (StaysWithin b p) messages → Contains messages (Lead ballot p) → IsBehind b p state → AskedBy p from (hear_all self from messages once state) (after_acts (hear_all self from messages once state) state)
unfolding hear_all
asks_all self b p from ballot [] once state within has behind = nothing_in has
asks_all self b p from ballot (message ∷ messages) once state within has behind =
    let acts = hear self from message once state in
    let now = after_acts acts state in
    let later = once_after message state acts once in
    let rest = hear_all self from messages later now in
    let next = behind_hear self b p from message once state within.0 behind in
    rw (after_acts-append acts rest state) (elim (cons_cases message messages (Lead ballot p) has) [
      | inl same ↦ elim (subst (λ m. AskedBy p from (hear self from m once state) (after_acts (hear self from m once state) state)) (sym same) (asks_hear self b p from ballot once state behind)) [
        | inl all ↦ inl (stays_caught_up self b p from messages later now within.1 next (omega (arith, all)))
        | inr lacks ↦
            let up = keeps_all self b p from messages later now within.1 next in
            inr (lacks.0, Contains-append_left acts rest _ lacks.1, omega (arith, up, lacks.2))
      ]
      | inr behind_it ↦ elim (asks_all self b p from ballot messages later now within.1 behind_it next) [
        | inl all ↦ inl all
        | inr lacks ↦ inr (lacks.0, Contains-append_right acts rest _ lacks.1, lacks.2)
      ]
    ])

-- ---- a round

asks_mail : (self : Identity) (b p c : ℕ) (now : ℤ) (plan : Plan) (mail : List HeardLetter) (state : State) → AreWithin b p mail → Occurs mail c (Lead b p) → IsBehind b p state → (prefix_of (after_events self (hear_events mail ++ Tick now plan ∷ []) state) ≡ p) ⊎ ((slot : ℕ) × Occurs (letters_to self c (hear_events mail ++ Tick now plan ∷ []) state) self.me (AskFrom slot) × (slot ≤ prefix_of (after_events self (hear_events mail ++ Tick now plan ∷ []) state)))
unfolding step
asks_mail self b p c now plan [] state within occurs behind = nothing_in occurs.there
asks_mail self b p c now plan (letter ∷ mail) state within occurs behind =
    let acts = hear_all self letter.from letter.messages not_yet state in
    let next = behind_all self b p letter.from letter.messages not_yet state within.0 behind in
    elim (cons_cases letter mail occurs.letter occurs.there) [
      | inl same ↦
          let to : letter.from ≡ c = ap (λ l. l.from) same ∙ occurs.is_from in
          let here : Contains letter.messages (Lead b p) = subst (λ l. Contains l.messages (Lead b p)) (sym same) occurs.has in
          elim (asks_all self b p letter.from b letter.messages not_yet state within.0 here behind) [
            | inl all ↦ inl (caught_up_mail self b p now plan mail (after_acts acts state) within.1 next (omega (arith, all)))
            | inr lacks ↦
                let up = keeps_mail self b p now plan mail (after_acts acts state) within.1 next in
                let sent = sent_in self.me letter.from (AskFrom lacks.0) acts lacks.1 in
                inr (
                  lacks.0,
                  occurs_left (letter_from self.me (sent_to self.me c acts)) _ self.me (AskFrom lacks.0)
                      (occurs_letter self.me (AskFrom lacks.0) (sent_to self.me c acts) (in_first (AskFrom lacks.0) []) (subst (λ q. Contains (sent_to self.me q acts) (AskFrom lacks.0)) to sent)),
                  omega (arith, up, lacks.2),
                )
          ]
      | inr later ↦ elim (asks_mail self b p c now plan mail (after_acts acts state) within.1 (record { letter = occurs.letter; there = later; is_from = occurs.is_from; has = occurs.has }) next) [
        | inl all ↦ inl all
        | inr lacks ↦ inr (lacks.0, occurs_right (letter_from self.me (sent_to self.me c acts)) _ self.me (AskFrom lacks.0) lacks.1, lacks.2)
      ]
    ]

-- all that lack something ask for it
pub asked_next : (members leader ballot prefix : ℕ) (now : ℤ) (advice : ℕ → Advice) (answers : ℕ → Option SchedRow) (cluster : Cluster) → IsLedAlone members leader ballot prefix cluster → HasSaidToAll members leader ballot prefix cluster → HaveAsked members leader prefix (cluster_round members now advice answers cluster)
asked_next members leader ballot prefix now advice answers cluster led_alone said who below apart =
    let self = identity_of members who in
    let behind = led_alone.behind who below apart in
    let rest = hear_events (cluster.mails who) ++ Tick now (advice who).plan ∷ [] in
    let after = answer_after self (cluster.waits who) (advice who).rows rest (cluster.replicas who) behind.follows in
    let letters = answer_letters self leader (cluster.waits who) (advice who).rows rest (cluster.replicas who) behind.follows in
    elim (asks_mail self ballot prefix leader now (advice who).plan (cluster.mails who) (cluster.replicas who) (led_alone.within who below) (said who below apart) behind) [
      | inl all ↦ inl (rw after all)
      | inr lacks ↦ inr (record {
        slot = lacks.0;
        asks = occurs_next members now advice answers cluster who leader (AskFrom lacks.0) below (rw letters lacks.1);
        short = rw after lacks.2;
      })
    ]
