use Rattle.std.proofs.Common.{◌≡◌, ◌⊎◌, inl, inr, ◌≤◌, ℕ, arith}
use Rattle.cron_serve.proofs.ServeLemmas.{is_empty}
use Rattle.cron_serve.proofs.laws.an_early_end_leaves_nothing.Goals as goal

few : (status : ℕ) → (status ≡ 1) ⊎ (status ≡ 2) ⊎ (status ≡ 3) → (1 ≤ status) × (status ≤ 3)
few status is = (omega (arith, is), omega (arith, is))

pub returns : goal.returns
returns c = record {
  nothing = λ output source source' sink sink' end ends is. (ends.nothing (few end.status is).0 (few end.status is).1).unwritten;
  no_run = λ output source source' sink sink' end ends is. (ends.nothing (few end.status is).0 (few end.status is).1).no_run;
  memory = λ output source source' sink sink' end ends five. elim (ends.memory five) [
    | inl none ↦ inl (none.unwritten, none.no_run)
    | inr some ↦ inr some
  ];
  empty = is_empty;
}
