-- A situation of a legal book stands for replicas and mails of letters as they are heard.
use Rattle.std.proofs.Common.{◌≡◌, ℕ, Some, List, [], ◌∷◌, refl, subst}
use Rattle.std.specs.List.{AllZip, Contains, slice_get}
use Rattle.paxos_base.specs.declared.rows.TableSize.{TableSize}
use Rattle.due_set.specs.Table.{Table}
use Rattle.launch_machine.specs.Clerk.{first_rows}
use Rattle.step_spec.specs.Letters.{IsHeardAs}
use Rattle.step_spec.specs.Message.{Message}
use Rattle.step_spec.proofs.Lists.{found_in}
use Rattle.history.specs.Book.{PostedLetter, Row, Standing, standing_after}
use Rattle.history.specs.Legal.{IsLegal}
use Rattle.history.proofs.Posted.{posted_heard}
use Rattle.synchronous_rounds.specs.Cluster.{Cluster, HeardLetter}
use Rattle.script_semantics.specs.Situation.{Situation}
use Rattle.settling.specs.Stands.{AreMailsPosted, IsLetterAt, StandsForCluster}
use Rattle.due_set.proofs.Rising.{Contains-head as in_first, Contains-tail as in_rest}

-- each letter of some numbers is heard
heard_mail : (members : ℕ) (size : TableSize) (posted : List PostedLetter) (who : ℕ) (numbers : List ℕ)
    → ((letter : PostedLetter) → Contains posted letter → (messages : List Message) × IsHeardAs members size letter.bytes letter.from messages)
    → ((number : ℕ) → Contains numbers number → (letter : PostedLetter) × (slice_get posted number ≡ Some letter) × (letter.to ≡ who))
    → (letters : List HeardLetter) × AllZip (IsLetterAt members size posted who) numbers letters
heard_mail members size posted who [] heard there = ([], tt)
heard_mail members size posted who (number ∷ numbers) heard there =
    let at = there number (in_first number numbers) in
    let one = heard at.0 (found_in posted number at.0 at.1) in
    let rest = heard_mail members size posted who numbers heard (λ other has. there other (in_rest number numbers other has)) in (
      record { from = at.0.from; messages = one.0 } ∷ rest.0,
      (record { sent = at.0; there = at.1; to = at.2; heard = record { from = refl; heard = one.1 } }, rest.1),
    )

pub situation_stands : (members : ℕ) (size : TableSize) (table : Table) (book : List Row) (situation : Situation) → IsLegal members table book
    → situation.standing ≡ standing_after members (first_rows table) book → AreMailsPosted situation → (cluster : Cluster) × StandsForCluster members size situation cluster
situation_stands members size table book situation legal is mailed =
    let mail : (who : ℕ) → (letters : List HeardLetter) × AllZip (IsLetterAt members size situation.standing.posted who) (situation.mails who) letters =
    λ who. heard_mail members size situation.standing.posted who (situation.mails who)
    (λ letter has. posted_heard members size table book letter legal (subst (λ (s : Standing). Contains s.posted letter) is has)) (λ number has. mailed who number has) in (
      record { replicas = situation.standing.replicas; waits = situation.standing.waits; mails = λ who. (mail who).0 },
      record { replicas = λ who member. refl; waits = λ who member. refl; mails = λ who member. (mail who).1 },
    )
