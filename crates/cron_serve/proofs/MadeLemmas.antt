-- The run that a seed makes is taken.
use Rattle.std.proofs.Common.{ℕ}
use Rattle.std.specs.Prelude.{IsUtf8}
use Rattle.due_set.specs.Table.{Table}
use Rattle.job_table.specs.Table.{IsTableOf}
use Rattle.run_text.specs.declared.refusal.Refusal.{Refusal}
use Rattle.generated_run.specs.Made.{made_run, made_text}
use Rattle.generated_run.proofs.JobLemmas.{table_exists}
use Rattle.generated_run.proofs.TextLemmas.{text_is_short, text_says}
use Rattle.generated_run.proofs.ZeroLemmas.{text_lacks_zero}
use Rattle.run_input.specs.Input.{IsRefusedAsRun, IsRunWithTable}
use Rattle.run_input.proofs.TextLemmas.{texts_of}
use Rattle.run_input.proofs.VerdictLemmas.{taken_or_refused}

-- it is taken, with whichever table its jobs have
made_taken : (seed : ℕ) (table : Table) → IsUtf8 (made_text seed) → IsTableOf (made_run seed) table → IsRunWithTable (made_text seed) (made_run seed) table
made_taken seed table utf8 is = record {
  short = text_is_short seed;
  texts = texts_of (made_text seed) (record { utf8 = utf8; no_zero = text_lacks_zero seed });
  says = text_says seed;
  table_is = is;
}

-- it is never refused
pub never_refused : (seed : ℕ) (refusal : Refusal) → IsUtf8 (made_text seed) → IsRefusedAsRun (made_text seed) refusal → ⊥
never_refused seed refusal utf8 refused =
    let (table, is) = table_exists seed in
    taken_or_refused (made_text seed) (made_run seed) table refusal (made_taken seed table utf8 is) refused
