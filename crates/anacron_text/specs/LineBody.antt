-- What a line of an anacrontab says. Source: anacrontab(5) of cronie.
use Rattle.std.specs.Prelude.{ℕ, List}
use Rattle.anacron_text.specs.declared.answer.AnaBody.{AnaBody}
use Rattle.anacron_text.specs.declared.answer.AnaBody.TheVariants.{Blank, Comment, Assign, Job as JobOfProgram}
use Rattle.anacron_text.specs.declared.answer.PeriodWord.{PeriodWord}

-- a job: how often it starts, by how many minutes it's delayed, what is added to them, from which hour to which it may
-- start, and what it's called and runs
pub record AnacronJob : Type 0 where
  pub period : PeriodWord
  pub delay : ℕ
  pub added : ℕ
  pub first_hour : ℕ
  pub last_hour : ℕ
  pub identifier : List ℕ
  pub command : List ℕ

-- nothing, a comment, a variable that is set, or a job
pub data AnacronLineBody : Type 0 where
  BlankBody : AnacronLineBody
  CommentBody : AnacronLineBody
  AssignBody : (name value : List ℕ) → AnacronLineBody
  JobBody : AnacronJob → AnacronLineBody

-- what a body of the program stands for
abbrev pub anacron_body_of : AnaBody → AnacronLineBody
anacron_body_of Blank = BlankBody
anacron_body_of Comment = CommentBody
anacron_body_of (Assign name value) = AssignBody name.now value.now
anacron_body_of (JobOfProgram period delay added first_hour last_hour identifier command) =
    JobBody (record {
      period = period;
      delay = delay;
      added = added;
      first_hour = first_hour;
      last_hour = last_hour;
      identifier = identifier.now;
      command = command.now;
    })
