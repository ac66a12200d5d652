-- All that holds of a world, from its beginning on.
use Rattle.std.proofs.Common.{◌≡◌, ℕ, ◌≤◌, List, arith}
use Rattle.paxos_base.specs.declared.entry.Entry.{Entry}
use Rattle.due_set.specs.Table.{Table}
use Rattle.agreement.specs.World.{Doing, MayDo, World, after_doing}
use Rattle.agreement.proofs.Kept.{Kept}
use Rattle.agreement.proofs.Told.{Told}
use Rattle.paxos_base.specs.declared.rows.JobRow.{JobRow}
use Rattle.step_spec.proofs.SoundLemmas.{start_sound}
use Rattle.agreement.specs.Agree.{IsChosen, LearnsOne}
use Rattle.agreement.specs.World.{first_world, fresh}
use Rattle.agreement.proofs.Chosen.{AreKnown}
use Rattle.agreement.proofs.ChosenLemmas.{known_on}
use Rattle.agreement.proofs.KeptLemmas.{kept_after}
use Rattle.agreement.proofs.OneValue.{one_value}
use Rattle.agreement.proofs.Safe.{AreSafe, safe_after}
use Rattle.agreement.proofs.Told.{Told}
use Rattle.agreement.proofs.ToldLemmas.{told_after}
use Rattle.step_spec.proofs.Lists.{nothing_in as nothing}

pub record IsWhole (n : ℕ) (w : World) : Type 0 where
  pub kept : Kept n w
  pub told : Told n w
  pub safe : AreSafe n w
  pub known : AreKnown n w

first_whole : (n : ℕ) (rows : List JobRow) → IsWhole n (first_world rows)
first_whole n rows = record {
  kept = record {
    sound = λ q member. start_sound (record { me = q; members = n }) (fresh rows) (λ k d within. absurd (omega (arith, within)));
    members = λ q vote has. nothing has;
    speakers = λ q message has. nothing has;
    below = λ q vote has. nothing has;
    latest = λ q vote has within. nothing has;
    stored = λ q vote has. nothing has;
    accepts = λ q vote has. nothing has;
    proposed = λ q vote has. nothing has;
    rounds = λ q vote has mine. nothing has;
    owns = λ q member. tt;
    once = λ a b u v has_u has_v slots ballots. nothing has_u;
  };
  told = record {
    promises = λ q ballot first votes has. nothing has;
    terms = λ q member. tt;
  };
  safe = λ q vote has. nothing has;
  known = record {
    accepted = λ q ballot slot has. nothing has;
    flights = λ q member. tt;
    known = λ q slot entry has. nothing has;
    learned = λ q slot entry has. nothing has;
    rows = λ row has. nothing has;
  };
}

pub whole_after : (n : ℕ) (table : Table) (w : World) (doing : Doing) → n ≤ 7 → IsWhole n w → MayDo n table w doing → IsWhole n (after_doing doing.by doing.act w)
whole_after n table w doing few whole may = record {
  kept = kept_after n table w doing whole.kept may;
  told = told_after n table w doing whole.kept whole.told few may;
  safe = safe_after n table w doing whole.kept whole.told whole.safe may;
  known = known_on n table w doing whole.kept whole.known few may;
}

pub first_is_whole : (n : ℕ) (rows : List JobRow) → IsWhole n (first_world rows)
first_is_whole n rows = first_whole n rows

-- in a whole world no two entries are chosen for one slot
pub whole_one : (n : ℕ) (w : World) (slot : ℕ) (one other : Entry) → IsWhole n w → IsChosen n w.cast slot one → IsChosen n w.cast slot other → one ≡ other
whole_one n w slot one other whole chosen rival = one_value n w slot one other whole.kept whole.safe chosen rival

-- so no two are learned for one
pub whole_learns_one : (n : ℕ) (w : World) → IsWhole n w → LearnsOne w
whole_learns_one n w whole one other has_one has_other slots =
    whole_one n w one.slot one.entry other.entry whole (whole.known.rows one has_one)
    (rw slots (whole.known.rows other has_other))
