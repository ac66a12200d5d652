-- The turns of one thread, one after another.
use Rattle.std.proofs.Common.{◌≡◌, ℕ, true, false, inr, ◌∙◌, sym}
use Rattle.disk_model.specs.View.{DiskView}
use Rattle.world_free.specs.Jobs.{IsBroken, IsJobAt, IsRunner}
use Rattle.world_free.specs.Plan.{FreePlan, SharedBook}
use Rattle.world_free.specs.declared.job.FreeJob.{FreeJob}

module _ {D : Type 0} (view : DiskView D) (plan : FreePlan) (book : SharedBook) (who taken : ℕ) where
  -- a replica that runs has had so many turns
  pub has_run : (job : FreeJob D) → IsRunner view plan book who taken job → IsJobAt view plan book who taken job
  has_run job runner = record {
    running = λ runs. runner;
    stopped = λ stopped.
        absurd (let both : true ≡ false = sym (runner.mail runner.some.begun runner.some.more runner.some.are).runs ∙ stopped in cc);
  }

  -- one that is stopped has had all that it has
  pub has_rested : (turns : ℕ) (job : FreeJob D) → job.mail.mail.runs ≡ false → IsJobAt view plan book who taken job
      → IsJobAt view plan book who turns job
  has_rested turns job rests at = record {
    running = λ runs. absurd (let both : true ≡ false = sym runs ∙ rests in cc);
    stopped = at.stopped;
  }

  pub has_stopped : (job : FreeJob D) → IsBroken view plan book who job
      → IsJobAt view plan book who taken job
  has_stopped job broken = record {
    running = λ runs. absurd (let both : true ≡ false = sym runs ∙ broken.halted in cc);
    stopped = λ is. inr broken;
  }
