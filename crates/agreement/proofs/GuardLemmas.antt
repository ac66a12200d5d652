-- What guards and answers tell.
use Rattle.std.proofs.Common.{◌≡◌, ℕ, Option, Some, None, List, [], ◌∷◌, refl, inl, inr, subst, ◌⊎◌}
use Rattle.std.specs.List.{Contains}
use Rattle.std.proofs.lemmas.List.Elements.{Contains-push_cases}
use Rattle.paxos_base.specs.declared.entry.Kind.{Kind}
use Rattle.paxos_base.specs.declared.rows.JobRow.{JobRow}
use Rattle.due_set.specs.Table.{Table}
use Rattle.cluster_sched.specs.declared.row.SchedRow.{SchedRow}
use Rattle.step_spec.specs.Act.{Act, Observe, Stand, Gather, TakeLead, Pledge, Cast, Propose, Count, Wait, Learn, Rebase, Call, Send, Restart}
use Rattle.step_spec.specs.May.{May, Ending}
use Rattle.step_spec.specs.Step.{Campaign}
use Rattle.step_spec.proofs.Lists.{nothing_in}
use Rattle.agreement.specs.World.{Doing, MayDo, World, after_all, after_doing, after_done, answered_after, first_world}
use Rattle.agreement.proofs.KeptLemmas.{setting_of}
use Rattle.due_set.proofs.Rising.{Contains-head as in_first, Contains-tail as in_rest}

pub stands_told : (members : ℕ) (table : Table) (world : World) (doing : Doing) (me ballot : ℕ) → MayDo members table world doing → doing.act ≡ Stand me ballot → doing.event ≡ Some Campaign
unfolding May
stands_told members table world doing me ballot may is =
    let guard : May (setting_of members table world doing.by doing.event) (world.replicas doing.by) (Stand me ballot) =
    subst (λ act. May (setting_of members table world doing.by doing.event) (world.replicas doing.by) act) is may.may in
    guard.told

pub starts_untold : (members : ℕ) (table : Table) (world : World) (doing : Doing) (me : ℕ) → MayDo members table world doing → doing.act ≡ Restart me → doing.event ≡ None
unfolding May
starts_untold members table world doing me may is =
    let guard : May (setting_of members table world doing.by doing.event) (world.replicas doing.by) (Restart me) =
    subst (λ act. May (setting_of members table world doing.by doing.event) (world.replicas doing.by) act) is may.may in
    guard.told

-- what is done answers a call of this ending
pub record Answers (doing : Doing) (ending : Ending) : Type 0 where
  pub to : doing.by ≡ ending.to
  pub kind : doing.answer ≡ Some ending.kind
  pub row : SchedRow
  pub call : doing.act ≡ Call row
  pub job : row.name.job ≡ ending.job
  pub at : row.name.at ≡ ending.at

answered_cases : (by : ℕ) (act : Act) (answer : Option Kind) (answered : List Ending) (ending : Ending) (doing : Doing) → doing.by ≡ by → doing.act ≡ act → doing.answer ≡ answer
    → Contains (answered_after by act answer answered) ending → Contains answered ending ⊎ Answers doing ending
answered_cases by (Call row) (Some kind) answered ending doing who acts answers has =
    elim (Contains-push_cases answered (record { to = by; job = row.name.job; at = row.name.at; kind = kind }) ending has) [
      | inl old ↦ inl old
      | inr now ↦ inr (record {
        to = rw (← now) who;
        kind = rw (← now) answers;
        row = row;
        call = acts;
        job = rw (← now) refl;
        at = rw (← now) refl;
      })
    ]
answered_cases by (Call row) None answered ending doing who acts answers has = inl has
answered_cases by (Observe ballot) answer answered ending doing who acts answers has = inl has
answered_cases by (Stand me ballot) answer answered ending doing who acts answers has = inl has
answered_cases by (Gather from votes) answer answered ending doing who acts answers has = inl has
answered_cases by TakeLead answer answered ending doing who acts answers has = inl has
answered_cases by (Pledge ballot) answer answered ending doing who acts answers has = inl has
answered_cases by (Cast vote) answer answered ending doing who acts answers has = inl has
answered_cases by (Propose me vote) answer answered ending doing who acts answers has = inl has
answered_cases by (Count from) answer answered ending doing who acts answers has = inl has
answered_cases by Wait answer answered ending doing who acts answers has = inl has
answered_cases by (Learn slot entry) answer answered ending doing who acts answers has = inl has
answered_cases by (Rebase slot rows) answer answered ending doing who acts answers has = inl has
answered_cases by (Send whom message) answer answered ending doing who acts answers has = inl has
answered_cases by (Restart me) answer answered ending doing who acts answers has = inl has

-- an answer was there before, or is to one of the doings
came_of : (doings : List Doing) (w : World) (ending : Ending) → Contains (after_all doings w).answered ending → Contains w.answered ending ⊎ ((doing : Doing) × Contains doings doing × Answers doing ending)
unfolding after_doing
came_of [] w ending has = inl has
came_of (doing ∷ doings) w ending has = elim (came_of doings (after_done doing w) ending has) [
  | inl before ↦ elim (answered_cases doing.by doing.act doing.answer w.answered ending doing refl refl refl before) [
    | inl old ↦ inl old
    | inr now ↦ inr (doing, in_first doing doings, now)
  ]
  | inr later ↦ inr (later.0, in_rest doing doings later.0 later.1, later.2)
]

pub answers_are_to_calls : (rows : List JobRow) (doings : List Doing) (ending : Ending) → Contains (after_all doings (first_world rows)).answered ending
    → (doing : Doing) × Contains doings doing × (doing.by ≡ ending.to) × (doing.answer ≡ Some ending.kind) × (row : SchedRow) × (doing.act ≡ Call row) × (row.name.job ≡ ending.job) × (row.name.at ≡ ending.at)
answers_are_to_calls rows doings ending has = elim (came_of doings (first_world rows) ending has) [
  | inl none ↦ nothing_in none
  | inr came ↦ let so = came.2 in (came.0, came.1, so.to, so.kind, so.row, so.call, so.job, so.at)
]
