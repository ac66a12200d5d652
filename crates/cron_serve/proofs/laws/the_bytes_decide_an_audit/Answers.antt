use Rattle.cron_serve.proofs.AuditLemmas.{found_not_refused, one_line, one_refusal}
use Rattle.cron_serve.proofs.AuditStatusLemmas.{found_decided, judged_decided, refusal_decided}
use Rattle.cron_serve.proofs.laws.the_bytes_decide_an_audit.Goals as goal

pub returns : goal.returns
returns c = record {
  found = λ source source' sink sink' notes notes' status bytes finding ends. found_decided source source' sink sink' notes notes' status ends bytes finding;
  judged = λ source source' sink sink' notes notes' status bytes ends. judged_decided source source' sink sink' notes notes' status ends bytes;
  refused = λ source source' sink sink' notes notes' status bytes ends. refusal_decided source source' sink sink' notes notes' status ends bytes;
  one_line = one_line;
  one_refusal = one_refusal;
  not_both = found_not_refused;
}
