-- A world before any turn.
use Rattle.std.proofs.Common.{◌≡◌, ◌⊎◌, ℕ, zero, suc, ◌+◌, ◌<◌, ◌≤◌, nat_lt, true, false, List, [], ◌∷◌, ◌++◌, get_or, length, None, Some, refl, sym, ap, ◌∙◌, subst, inl, inr, arith}
use Rattle.std.specs.List.{Contains, slice_get}
use Rattle.std.proofs.lemmas.Bool.{lt-ltb}
use Rattle.std.proofs.lemmas.Int.{ints}
use Rattle.std.proofs.lemmas.List.{length_push}
use Rattle.std.proofs.lemmas.Option.{slice_get_within}
use Rattle.disk_model.specs.Images.{Image, file_of}
use Rattle.disk_model.specs.declared.fault.FileNo.{FileNo}
use Rattle.disk_model.specs.declared.fault.FileNo.TheVariants.{Chooser}
use Rattle.disk_model.specs.View.{DiskView}
use Rattle.replica_node.specs.Kept.{area_by}
use Rattle.replica_store.specs.Files.{selected, selected_by}
use Rattle.due_set.specs.Table.{IsSound, Table}
use Rattle.launch_machine.specs.Clerk.{first_rows}
use Rattle.paxos_base.specs.declared.durable.Durable.{Durable}
use Rattle.step_spec.specs.State.{Identity, started}
use Rattle.step_spec.proofs.Lists.{nothing_in}
use Rattle.agreement.specs.Transition.{identity_of}
use Rattle.agreement.specs.World.{fresh}
use Rattle.history.specs.Book.{first_standing}
use Rattle.replica_node.specs.Node.{replica_of}
use Rattle.script_semantics.specs.Situation.{first_situation, is_cut}
use Rattle.world_law.specs.Book.{BookState, StandsBehind, standing_behind}
use Rattle.world_steps.specs.Parts.{armed_in}
use Rattle.world_rounds.specs.Start.{IsFreshMember}
use Rattle.script_text.specs.Command.{IsSkew}
use Rattle.world_rounds.specs.World.{IsMemberAhead, IsWorldAt}
use Rattle.world_rounds.specs.declared.member.Member.{Member}
use Rattle.world_rounds.specs.declared.world.World.{World}

-- an empty disk has its first area in use
pub first_area : {D : Type 0} (view : DiskView D) (disk : D) → ((image : Image) → view.may_leave disk image → (file : FileNo) → file_of file image ≡ []) → view.may_leave disk (view.seen disk)
    → selected (view.seen disk) ≡ area_by 0
first_area view disk empty left = ap (λ (bytes : List ℕ). selected_by (get_or bytes 0 0)) (empty (view.seen disk) left Chooser)

pub either_way : (kept first : Durable) → (kept ≡ first) ⊎ (kept ≡ first) → kept ≡ first
either_way kept first (inl is) = is
either_way kept first (inr is) = is

module _ {D : Type 0} (view : DiskView D) (table : Table) where
  standing_first : (members : ℕ) (book : BookState) → book.members ≡ members → (first_situation members table).standing ≡ standing_behind table [] book
  standing_first members book same = ap (λ n. first_standing n (first_rows table)) (sym same)

  fresh_ahead : (members : ℕ) (book : BookState) (who : ℕ) (member : Member D) → book.members ≡ members → who < members → IsFreshMember view table members who member
      → IsMemberAhead view table [] book (first_situation members table) who [] member
  fresh_ahead members book who member same below new = record {
    mail = record {
      runs = new.runs ∙ sym runs;
      letters_are = sym new.letters;
      skew = new.skew;
      small = subst IsSkew (sym new.skew) (omega (arith, ints), omega (arith, ints));
      fate = new.fate;
      waits = new.waits;
      arm = ap armed_in new.arm;
      sent = λ number has. absurd (nothing_in (subst (λ letters. Contains letters number) new.letters has));
    };
    running = λ here. record {
      at_rest = new.at_rest;
      trusted = new.trusted;
      disk = new.disk;
      first = replica_of member.node;
      stands = record {
        identity = new.identity ∙ ap (λ n. identity_of n who) (sym same) ∙ ap (identity_of book.members) (sym me);
        member = rw (me, same) below;
        runs = rw (me, same) runs;
        state = new.state ∙ ap (λ who. started who (fresh (first_rows table))) (sym me);
        of_table = new.at_rest.of_table;
      };
      me = me;
      took = refl;
    };
    stopped = λ stopped. absurd (let e : nat_lt who members ≡ false = subst (λ n. nat_lt who n ≡ false) same stopped in let f : true ≡ false = sym runs ∙ e in cc);
  }
    where
      runs : nat_lt who members ≡ true
      runs = lt-ltb who members below

      me : (replica_of member.node).identity.me ≡ who
      me = ap (λ (self : Identity). self.me) new.identity

  pub world_starts : (members : ℕ) (world : World D) → IsSound table → members ≤ 7 → StandsBehind table [] world.book → world.book.pending ≡ None → world.book.members ≡ members
      → length world.members.items ≡ members → ((who : ℕ) (member : Member D) → slice_get world.members.items who ≡ Some member → IsFreshMember view table members who member)
      → world.cuts.items ≡ [] → world.latest ≡ table.window.from → IsWorldAt view table [] world (first_situation members table)
  world_starts members world sound few behind rest same count fresh_each cuts latest = record {
    ahead = record {
      at = record { sound = sound; behind = behind; rest = rest; few = rw same few; standing = standing_first members world.book same; since = omega (arith, ints); bases = refl };
      count = count ∙ sym same;
      each = λ who member found.
          let within : who < length world.members.items = slice_get_within world.members.items who member found in
          fresh_ahead members world.book who member same (omega arith) (fresh_each who member found);
      cuts = λ from to. ap (is_cut from to) cuts;
      latest = ap (λ minute. minute.0) latest;
    };
    idle = λ who member found. (fresh_each who member found).none;
  }

  -- the replicas so far
  pub record HaveStarted (members count : ℕ) (started : List (Member D)) : Type 0 where
    pub length_is : length started ≡ count
    pub each : (who : ℕ) (member : Member D) → slice_get started who ≡ Some member → IsFreshMember view table members who member

  pub started_none : (members : ℕ) → HaveStarted members 0 []
  started_none members = record { length_is = refl; each = λ who member found. absurd cc }

  found_last : (xs : List (Member D)) (y : Member D) (k : ℕ) (x : Member D) → slice_get (xs ++ y ∷ []) k ≡ Some x → (slice_get xs k ≡ Some x) ⊎ ((k ≡ length xs) × (x ≡ y))
  found_last [] y zero x is = inr (refl, cc)
  found_last [] y (suc k) x is = absurd cc
  found_last (z ∷ xs) y zero x is = inl is
  found_last (z ∷ xs) y (suc k) x is = elim (found_last xs y k x is) [ inl old ↦ inl old | inr new ↦ inr (ap suc new.0, new.1) ]

  pub started_next : (members count : ℕ) (started after : List (Member D)) (member : Member D) → HaveStarted members count started → IsFreshMember view table members count member
      → after ≡ started ++ member ∷ [] → HaveStarted members (count + 1) after
  started_next members count started after member so_far new is = record {
    length_is = ap length is ∙ length_push started member ∙ ap (λ n. n + 1) so_far.length_is;
    each = λ who x found. elim (found_last started member who x (subst (λ xs. slice_get xs who ≡ Some x) is found)) [
      | inl old ↦ so_far.each who x old
      | inr last ↦ subst (λ who. IsFreshMember view table members who x) (sym (last.0 ∙ so_far.length_is))
          (subst (λ x. IsFreshMember view table members count x) (sym last.1) new)
    ];
  }
