-- An end that a replica has learned takes effect in the log.
use Rattle.std.proofs.Common.{◌≡◌, ℕ, ◌≤◌, ℤ, Option, List, ◌∷◌, ◌++◌, sym, ap, ◌∙◌, append_assoc, arith}
use Rattle.paxos_base.specs.declared.entry.Entry.{Entry}
use Rattle.paxos_base.specs.declared.entry.Entry.TheVariants.{End}
use Rattle.paxos_base.specs.declared.entry.Kind.{Kind}
use Rattle.paxos_base.specs.declared.entry.Vote.{Vote}
use Rattle.due_set.specs.Table.{Table}
use Rattle.cluster_sched.specs.declared.row.SchedRow.{SchedRow}
use Rattle.launch_machine.specs.Clerk.{first_rows}
use Rattle.history.specs.Book.{Row, standing_after}
use Rattle.history.specs.Legal.{IsLegal}
use Rattle.history.proofs.Turns.{Book}
use Rattle.launch_safety.specs.Parts.{EndsAs}
use Rattle.launch_safety.proofs.Alone.{Stands, leading}
use Rattle.launch_safety.proofs.LogLemmas.{learned_stands}
use Rattle.launch_safety.proofs.Whole.{log_takes}

pub ends_where_learned : (n : ℕ) (table : Table) (book : List Row) (who : ℕ) (front back : List Entry) (job : ℕ) (at : ℤ) (kind : Kind) → n ≤ 7 → IsLegal n table book
    → ((standing_after n (first_rows table) book).replicas who).learned ≡ front ++ End job at kind ∷ back → EndsAs n table book job at kind
ends_where_learned n table book who front back job at kind few legal learned log is_log =
    let stands = learned_stands n table book log who few legal is_log in
    let parts : log ≡ (stands.before ++ front) ++ End job at kind ∷ (back ++ stands.after) =
    stands.parts ∙ ap (λ some. stands.before ++ (some ++ stands.after)) learned
    ∙ ap (λ some. stands.before ++ some) (append_assoc front (End job at kind ∷ back) stands.after)
    ∙ sym (append_assoc stands.before front (End job at kind ∷ (back ++ stands.after))) in
    record {
      before = stands.before ++ front;
      after = back ++ stands.after;
      parts = parts;
      takes = log_takes n table book log (stands.before ++ front) (back ++ stands.after) (End job at kind) few legal is_log parts (λ is. cc);
    }

-- the same of a replica that is alone
pub ends_alone : (table : Table) (votes : List Vote) (entries : List Entry) (held late : List SchedRow) (arrived : List ℕ) (waits : Option SchedRow) (front back : List Entry) (job : ℕ) (at : ℤ) (kind : Kind)
    → entries ≡ front ++ End job at kind ∷ back → (book : Book 1 table (Stands (leading table votes entries) held late arrived waits)) → EndsAs 1 table book.rows job at kind
ends_alone table votes entries held late arrived waits front back job at kind is book =
    ends_where_learned 1 table book.rows 0 front back job at kind (omega arith) book.legal (ap (λ s. s.learned) book.holds.state_is ∙ is)
