-- What a leader's verbs come to.
use Rattle.std.proofs.Common.{◌≡◌, ℕ, None, Some, List, [], ◌∷◌, refl, unwrap_or}
use Rattle.std.proofs.lemmas.List.{append-nil}
use Rattle.paxos_base.specs.declared.entry.Entry.{Entry}
use Rattle.paxos_base.specs.declared.entry.Vote.{Vote}
use Rattle.term_core.specs.Term.{after_proposal, after_tick}
use Rattle.term_core.specs.declared.term.Term.{Term}
use Rattle.term_core.specs.declared.term.Term.TheVariants.{Follower, Candidate, Leader}
use Rattle.cluster_sched.specs.declared.row.SchedRow.{SchedRow}
use Rattle.step_spec.specs.Act.{Call, Propose, Wait, after_act}
use Rattle.step_spec.specs.Folds.{calls_by, deltas_by, learnt_by}
use Rattle.replica_draft.specs.Draft.{FixedParts, done, drafted, said_by, with_best}
use Rattle.replica_draft.specs.declared.change.Change.TheVariants.{Voted}
use Rattle.replica_draft.specs.declared.draft.Draft.{Draft}

with_best-after_proposal : (best : List Vote) (slot : ℕ) (entry : Entry) (me : ℕ) (term : Term) → with_best best (after_proposal slot entry me term) ≡ after_proposal slot entry me (with_best best term)
with_best-after_proposal best slot entry me (Follower ended) = refl
with_best-after_proposal best slot entry me (Candidate own first heard votes) = refl
with_best-after_proposal best slot entry me (Leader own votes None) = refl
with_best-after_proposal best slot entry me (Leader own votes (Some flight)) = refl

with_best-after_tick : (best : List Vote) (term : Term) → with_best best (after_tick term) ≡ after_tick (with_best best term)
with_best-after_tick best (Follower ended) = refl
with_best-after_tick best (Candidate own first heard votes) = refl
with_best-after_tick best (Leader own votes None) = refl
with_best-after_tick best (Leader own votes (Some flight)) = refl

pub drafted-launch : (kept : FixedParts) (old : Draft) (term : Term) (me : ℕ) (vote : Vote) → old.change ≡ None → term ≡ after_proposal vote.slot vote.entry me old.term
    → drafted kept (record old { term = term; change = Some (Voted vote) }) ≡ done (Propose me vote ∷ []) (drafted kept old)
unfolding after_act deltas_by learnt_by said_by calls_by
drafted-launch kept old term me vote none is =
    rw (
      none,
      is,
      with_best-after_proposal (unwrap_or old.best kept.best) vote.slot vote.entry me old.term,
      append-nil old.learnt.items,
      append-nil (drafted kept old).said,
      append-nil (drafted kept old).calls,
    ) refl

pub drafted-wait : (kept : FixedParts) (old : Draft) (term : Term) → term ≡ after_tick old.term
    → drafted kept (record old { term = term }) ≡ done (Wait ∷ []) (drafted kept old)
unfolding after_act deltas_by learnt_by said_by calls_by
drafted-wait kept old term is =
    rw (
      is,
      with_best-after_tick (unwrap_or old.best kept.best) old.term,
      append-nil (drafted kept old).deltas,
      append-nil (drafted kept old).learnt,
      append-nil (drafted kept old).said,
      append-nil (drafted kept old).calls,
    ) refl

pub drafted-call : (kept : FixedParts) (old : Draft) (row : SchedRow) → old.call ≡ None
    → drafted kept (record old { call = Some row }) ≡ done (Call row ∷ []) (drafted kept old)
unfolding after_act deltas_by learnt_by said_by calls_by
drafted-call kept old row none =
    rw (none, append-nil (drafted kept old).deltas, append-nil (drafted kept old).learnt, append-nil (drafted kept old).said) refl
