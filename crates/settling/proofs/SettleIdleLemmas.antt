-- One that leads and is idle stays so, and then it is quiet.
use Rattle.std.proofs.Common.{◌≡◌, ◌⊎◌, ℕ, zero, suc, ℤ, sym, inl, inr, subst}
use Rattle.due_set.specs.Table.{Table}
use Rattle.script_semantics.specs.Settling.{IsQuiet}
use Rattle.script_semantics.specs.Situation.{Situation}
use Rattle.settling.specs.Leads.{GoesDrainRound}
use Rattle.settling.specs.Drain.{IsIdleFor}
use Rattle.settling.specs.Idle.{IsIdleAt}
use Rattle.settling.proofs.DrainIdleLemmas.{rests_alone, rests_quietly, rests_still}
use Rattle.settling.specs.Alone.{LeadsItself}
use Rattle.settling.proofs.AloneBookLemmas.{rest_goes_on, round_leads}
use Rattle.settling.proofs.QuietLemmas.{rest_is_quiet}
use Rattle.settling.specs.Settles.{HasBeenIdleFor, LeadsNow, among, itself}

-- one that leads itself, idle
record RestsItself (members : ℕ) (table : Table) (who : ℕ) (at : ℤ) (situation : Situation) : Type 0 where
  one : members ≡ 1
  first : who ≡ 0
  leads : LeadsItself table situation
  rest : IsIdleAt table 0 at situation

-- by itself, or alone among others
rests_either : (rounds members : ℕ) (table : Table) (who : ℕ) (at : ℤ) (situation : Situation) → HasBeenIdleFor rounds members table who at situation → RestsItself members table who at situation ⊎ IsIdleFor rounds members table who at situation
rests_either zero members table who at situation (leads, rest) = go leads
  where
    go : LeadsNow members table who situation → RestsItself members table who at situation ⊎ IsIdleFor 0 members table who at situation
    go (itself one first by) = inl (record { one = one; first = first; leads = by; rest = subst (λ w. IsIdleAt table w at situation) first rest })
    go (among alone) = inr (alone, rest)
rests_either (suc more) members table who at situation (book, rows, before, rests, goes) = go (rests_either more members table who at before rests)
  where
    go : RestsItself members table who at before ⊎ IsIdleFor more members table who at before → RestsItself members table who at situation ⊎ IsIdleFor (suc more) members table who at situation
    go (inl has) =
        let goes_one = subst (λ w. GoesDrainRound 1 table w at book rows before situation) has.first (subst (λ m. GoesDrainRound m table who at book rows before situation) has.one goes) in
        inl (record {
          one = has.one;
          first = has.first;
          leads = round_leads table at book rows before situation has.leads goes_one;
          rest = rest_goes_on table at book rows before situation has.leads goes_one has.rest;
        })
    go (inr others) = inr (book, rows, before, others, goes)

pub rested_leads : (rounds members : ℕ) (table : Table) (who : ℕ) (at : ℤ) (situation : Situation) → HasBeenIdleFor rounds members table who at situation → LeadsNow members table who situation
rested_leads rounds members table who at situation rests = elim (rests_either rounds members table who at situation rests) [
  | inl has ↦ itself has.one has.first has.leads
  | inr others ↦ among (rests_alone rounds members table who at situation others)
]

pub rested_rests : (rounds members : ℕ) (table : Table) (who : ℕ) (at : ℤ) (situation : Situation) → HasBeenIdleFor rounds members table who at situation → IsIdleAt table who at situation
rested_rests rounds members table who at situation rests = elim (rests_either rounds members table who at situation rests) [
  | inl has ↦ subst (λ w. IsIdleAt table w at situation) (sym has.first) has.rest
  | inr others ↦ rests_still rounds members table who at situation others
]

pub rested_quiet : (members : ℕ) (table : Table) (who : ℕ) (at : ℤ) (situation : Situation) → HasBeenIdleFor 5 members table who at situation → IsQuiet members table who at situation
rested_quiet members table who at situation rests = elim (rests_either 5 members table who at situation rests) [
  | inl has ↦
      subst (λ m. IsQuiet m table who at situation) (sym has.one) (subst (λ w. IsQuiet 1 table w at situation) (sym has.first)
      (rest_is_quiet table at situation has.rest))
  | inr others ↦ rests_quietly members table who at situation others
]
