-- What replicas keep of their votes: an acceptor votes for nothing below its promise, and a proposer for one entry a slot in
-- each ballot of its own ("Paxos Made Simple", section 2.2: P1a, and that proposals have different numbers).
use Rattle.std.proofs.Common.{◌≡◌, ℕ, ◌<◌, ◌≤◌, Option, Some, None, List, sym, ap, ◌∙◌, inl, inr, arith, subst, ◌⊎◌}
use Rattle.std.specs.List.{Contains}
use Rattle.std.proofs.lemmas.Bool.{cases_Bool, cases_lt, lt-ltb, le-ltb}
use Rattle.paxos_base.specs.Ballot.{member_of, round_of}
use Rattle.paxos_base.specs.Vote.{vote_at}
use Rattle.paxos_base.specs.declared.entry.Vote.{Vote}
use Rattle.term_core.specs.Term.{after_advance, after_ballot, after_tick, is_ended_by}
use Rattle.term_core.specs.declared.flight.Flight.{Flight}
use Rattle.term_core.specs.declared.term.Term.{Term}
use Rattle.term_core.specs.declared.term.Term.TheVariants.{Follower, Candidate, Leader}
use Rattle.step_spec.specs.Act.{Act, Cast, Propose, Send, after_counting, after_gathering, as_leader}
use Rattle.step_spec.specs.May.{May, MayPropose, MaySend, LeadsIn, Setting, HasSaid}
use Rattle.step_spec.specs.Message.{Message, Accept}
use Rattle.step_spec.specs.Propose.{vote_of}
use Rattle.step_spec.specs.Coherent.{IsCoherent, FitsTerm, IsOwn}
use Rattle.step_spec.specs.State.{State, Identity, prefix_of, promised_in}
use Rattle.agreement.specs.Agree.{HasCast}
use Rattle.agreement.specs.World.{CastVote, World}
use Rattle.agreement.proofs.Growing.{Casts, Says, IsLater}

-- which votes a proposer has cast in the ballot of its term: none as a candidate, and below its prefix or in flight as a leader
abbrev pub Owns : List CastVote → (q prefix : ℕ) → Term → Type 0
Owns cast q prefix (Follower ended) = Unit {0}
Owns cast q prefix (Candidate ballot first heard best) = (vote : Vote) → HasCast cast q vote → vote.ballot ≡ ballot → ⊥
Owns cast q prefix (Leader ballot best None) = (vote : Vote) → HasCast cast q vote → vote.ballot ≡ ballot → vote.slot < prefix
Owns cast q prefix (Leader ballot best (Some flight)) =
    (vote : Vote) → HasCast cast q vote → vote.ballot ≡ ballot → (vote.slot < prefix) ⊎ (vote ≡ vote_of ballot flight)

pub record Kept (n : ℕ) (w : World) : Type 0 where
  pub sound : (q : ℕ) → q < n → IsCoherent (record { me = q; members = n }) (w.replicas q)
  pub members : (q : ℕ) (vote : Vote) → HasCast w.cast q vote → q < n
  pub speakers : (q : ℕ) (message : Message) → HasSaid w.said q message → q < n
  pub below : (q : ℕ) (vote : Vote) → HasCast w.cast q vote → vote.ballot ≤ promised_in (w.replicas q).kept
  pub latest : (q : ℕ) (vote : Vote) → HasCast w.cast q vote → (w.replicas q).kept.base ≤ vote.slot → IsLater (vote_at vote.slot (w.replicas q).kept.votes) vote.ballot
  pub stored : (q : ℕ) (vote : Vote) → Contains (w.replicas q).kept.votes vote → HasCast w.cast q vote
  pub accepts : (q : ℕ) (vote : Vote) → HasSaid w.said q (Accept vote) → HasCast w.cast q vote × (member_of vote.ballot ≡ q)
  pub proposed : (q : ℕ) (vote : Vote) → HasCast w.cast q vote → HasCast w.cast (member_of vote.ballot) vote
  pub rounds : (q : ℕ) (vote : Vote) → HasCast w.cast q vote → member_of vote.ballot ≡ q → round_of vote.ballot ≤ (w.replicas q).kept.tried
  pub owns : (q : ℕ) → q < n → Owns w.cast q (prefix_of (w.replicas q)) (w.replicas q).term
  pub once : (a b : ℕ) (u v : Vote) → HasCast w.cast a u → HasCast w.cast b v → u.slot ≡ v.slot → u.ballot ≡ v.ballot → u ≡ v

-- what is said may be said
pub says_may : (setting : Setting) (state : State) (act : Act) (message : Message) → Says act message → May setting state act → MaySend state message
unfolding May
says_may setting state (Send whom mine) message says may = subst (λ m. MaySend state m) says may
says_may setting state act message says may = absurd says

-- a vote that is cast was asked for, or is a proposal of one's own
pub data Origin (setting : Setting) (state : State) (vote : Vote) : Type 0 where
  asked_by : (from : ℕ) → HasSaid setting.said from (Accept vote) → Origin setting state vote
  proposed_by : (me : ℕ) → MayPropose setting state me vote → Origin setting state vote

pub casts_origin : (setting : Setting) (state : State) (act : Act) (vote : Vote) → Casts act vote → May setting state act → Origin setting state vote
unfolding May
casts_origin setting state (Cast mine) vote casts may = subst (λ v. Origin setting state v) casts (asked_by may.from may.asked)
casts_origin setting state (Propose me mine) vote casts may = subst (λ v. Origin setting state v) casts (proposed_by me may)
casts_origin setting state act vote casts may = absurd casts

-- an act casts one vote at most
pub casts_one : (act : Act) (u v : Vote) → Casts act u → Casts act v → u ≡ v
casts_one (Cast mine) u v a b = sym a ∙ b
casts_one (Propose me mine) u v a b = sym a ∙ b
casts_one act u v a b = absurd a

-- a proposal is of the proposer's own ballot
pub own_ballot : (self : Identity) (state : State) (ballot : ℕ) (best : List Vote) (flight : Option Flight) → IsCoherent self state → state.term ≡ Leader ballot best flight → IsOwn self state.kept ballot
own_ballot self state ballot best flight sound leader =
    let fits : FitsTerm self state.kept (prefix_of state) (Leader ballot best flight) =
    subst (λ term. FitsTerm self state.kept (prefix_of state) term) leader sound.term in
    fits.0

pub leads_own : (self : Identity) (state : State) (ballot : ℕ) (term : Term) → FitsTerm self state.kept (prefix_of state) term → LeadsIn ballot term → IsOwn self state.kept ballot
leads_own self state ballot (Follower ended) fits leads = absurd leads
leads_own self state ballot (Candidate own first heard best) fits leads = absurd leads
leads_own self state ballot (Leader own best flight) fits leads = subst (λ b. IsOwn self state.kept b) leads fits.0

-- fewer votes leave fewer to account for
pub owns_fewer : (cast cast' : List CastVote) (q prefix : ℕ) (term : Term) → ((vote : Vote) → HasCast cast' q vote → HasCast cast q vote) → Owns cast q prefix term → Owns cast' q prefix term
owns_fewer cast cast' q prefix (Follower ended) old owns = tt
owns_fewer cast cast' q prefix (Candidate ballot first heard best) old owns = λ vote has is. owns vote (old vote has) is
owns_fewer cast cast' q prefix (Leader ballot best None) old owns = λ vote has is. owns vote (old vote has) is
owns_fewer cast cast' q prefix (Leader ballot best (Some flight)) old owns = λ vote has is. owns vote (old vote has) is

pub owns_after_ballot : (cast : List CastVote) (q prefix ballot : ℕ) (term : Term) → Owns cast q prefix term → Owns cast q prefix (after_ballot ballot term)
owns_after_ballot cast q prefix ballot term owns =
    elim (cases_Bool (is_ended_by ballot term)) [ inl ended ↦ rw ended tt | inr goes ↦ rw goes owns ]

pub owns_after_gathering : (cast : List CastVote) (q prefix from : ℕ) (votes : List Vote) (term : Term) → Owns cast q prefix term → Owns cast q prefix (after_gathering from votes term)
owns_after_gathering cast q prefix from votes (Follower ended) owns = owns
owns_after_gathering cast q prefix from votes (Candidate ballot first heard best) owns = owns
owns_after_gathering cast q prefix from votes (Leader ballot best flight) owns = owns

pub owns_as_leader : (cast : List CastVote) (q prefix : ℕ) (term : Term) → Owns cast q prefix term → Owns cast q prefix (as_leader term)
owns_as_leader cast q prefix (Follower ended) owns = owns
owns_as_leader cast q prefix (Candidate ballot first heard best) owns = λ vote has is. absurd (owns vote has is)
owns_as_leader cast q prefix (Leader ballot best flight) owns = owns

pub owns_after_counting : (cast : List CastVote) (q prefix from : ℕ) (term : Term) → Owns cast q prefix term → Owns cast q prefix (after_counting from term)
owns_after_counting cast q prefix from (Follower ended) owns = owns
owns_after_counting cast q prefix from (Candidate ballot first heard best) owns = owns
owns_after_counting cast q prefix from (Leader ballot best None) owns = owns
owns_after_counting cast q prefix from (Leader ballot best (Some flight)) owns = owns

pub owns_after_tick : (cast : List CastVote) (q prefix : ℕ) (term : Term) → Owns cast q prefix term → Owns cast q prefix (after_tick term)
owns_after_tick cast q prefix (Follower ended) owns = owns
owns_after_tick cast q prefix (Candidate ballot first heard best) owns = owns
owns_after_tick cast q prefix (Leader ballot best None) owns = owns
owns_after_tick cast q prefix (Leader ballot best (Some flight)) owns = owns

-- once the prefix has risen to a slot, a flight below it is over, and its vote is below the prefix
pub owns_after_advance : (self : Identity) (state : State) (cast : List CastVote) (q later : ℕ) (term : Term) → prefix_of state ≤ later → FitsTerm self state.kept (prefix_of state) term → Owns cast q (prefix_of state) term → Owns cast q later (after_advance later term)
owns_after_advance self state cast q later (Follower ended) up fits owns = tt
owns_after_advance self state cast q later (Candidate ballot first heard best) up fits owns = owns
owns_after_advance self state cast q later (Leader ballot best None) up fits owns = λ vote has is. omega (arith, owns vote has is, up)
owns_after_advance self state cast q later (Leader ballot best (Some flight)) up fits owns =
    elim (cases_lt flight.slot later) [
      | inl over ↦ rw (lt-ltb flight.slot later over) (λ (vote : Vote) (has : HasCast cast q vote) (is : vote.ballot ≡ ballot). elim (owns vote has is) [
        | inl low ↦ omega (arith, low, up)
        | inr same ↦ let at : vote.slot ≡ flight.slot = ap (λ v. v.slot) same in omega (arith, at, over)
      ])
      | inr here ↦ rw (le-ltb flight.slot later here) (λ (vote : Vote) (has : HasCast cast q vote) (is : vote.ballot ≡ ballot). elim (owns vote has is) [
        | inl low ↦ inl (omega (arith, low, up))
        | inr same ↦ inr same
      ])
    ]
