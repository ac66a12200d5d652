-- What a command sets in a world.
use Rattle.std.proofs.Common.{List, Some, [], ap, append-nil as append_nil, arith, eqb, if◌then◌else◌, inl, inr, length, refl, subst, sym, true, ℕ, ℤ, ◌&&◌, ◌++◌, ◌-◌, ◌∙◌, ◌∷◌, ◌≡◌, ◌≢◌, ◌≤ℤ◌, false}
use Rattle.std.specs.List.{slice_get}
use Rattle.std.proofs.Math.ListN.{set}
use Rattle.std.proofs.lemmas.Bool.{cases_Bool}
use Rattle.std.proofs.lemmas.List.{length-set}
use Rattle.disk_model.specs.View.{DiskView}
use Rattle.cluster_sched.specs.declared.fate.Fate.{Fate}
use Rattle.due_set.specs.Table.{Table}
use Rattle.history.specs.Book.{Row, Standing, with_fact}
use Rattle.script_semantics.specs.Commands.{Plain}
use Rattle.script_semantics.specs.Situation.{Situation, Task, delivered, is_cut, letters_for}
use Rattle.world_law.specs.declared.letter.LetterRow.{LetterRow}
use Rattle.world_rounds.proofs.Delivery.{same_mails}
use Rattle.world_rounds.proofs.Worlds.{set_cases}
use Rattle.world_rounds.specs.Mails.{Changes}
use Rattle.script_text.specs.Command.{IsSkew}
use Rattle.world_steps.specs.Parts.{IsMailOf}
use Rattle.world_rounds.specs.World.{GoesOnBy, IsWorldAt}
use Rattle.world_steps.specs.declared.mail.MemberMail.{MemberMail}
use Rattle.world_rounds.specs.declared.member.Member.{Member}
use Rattle.script_semantics.specs.Arms.{armed_by}
use Rattle.script_semantics.specs.Parts.{Sets}
use Rattle.world_rounds.specs.declared.world.World.{World}
use Rattle.history.proofs.Standings.{fact_here, fact_there}

-- one pair more from whom to whom letters are lost
cut_last : (from to : ℕ) (pairs : List (ℕ × ℕ)) (pair : ℕ × ℕ) → is_cut from to (pairs ++ pair ∷ []) ≡ (if eqb pair.0 from && eqb pair.1 to then true else is_cut from to pairs)
cut_last from to [] pair = refl
cut_last from to (first ∷ pairs) pair = elim (cases_Bool (eqb first.0 from && eqb first.1 to)) [
  | inl is ↦ rw is (elim (cases_Bool (eqb pair.0 from && eqb pair.1 to)) [ inl too ↦ rw too refl | inr isnt ↦ rw isnt refl ])
  | inr isnt ↦ rw isnt (cut_last from to pairs pair)
]

pub cut_pushed : (from to : ℕ) (pairs others : List (ℕ × ℕ)) (pair : ℕ × ℕ) → is_cut from to pairs ≡ is_cut from to others → is_cut from to (pairs ++ pair ∷ []) ≡ is_cut from to (pair ∷ others)
cut_pushed from to pairs others pair same = cut_last from to pairs pair ∙ ap (λ rest. if eqb pair.0 from && eqb pair.1 to then true else rest) same

-- what is set for another replica leaves a mail
mail_as : (letters : List LetterRow) (one other : Situation) (who : ℕ) (mail : MemberMail) → other.standing ≡ one.standing → other.mails who ≡ one.mails who → other.skews who ≡ one.skews who
    → other.fates who ≡ one.fates who → other.arms who ≡ one.arms who → IsMailOf letters one who [] mail → IsMailOf letters other who [] mail
mail_as letters one other who mail standing mails skews fates arms is = record {
  runs = is.runs ∙ ap (λ (s : Standing). s.runs who) (sym standing);
  letters_are = mails ∙ is.letters_are;
  skew = is.skew ∙ sym skews;
  small = is.small;
  fate = is.fate ∙ sym fates;
  waits = is.waits ∙ ap (λ (s : Standing). s.waits who) (sym standing);
  arm = is.arm ∙ sym arms;
  sent = is.sent;
}

module _ {D : Type 0} (view : DiskView D) where
  -- of each replica of a world there was one before with the same node
  abbrev pub AreSet : (old new : World D) → Situation → Type 0
  AreSet old new situation =
      (who : ℕ) (next : Member D) → slice_get new.members.items who ≡ Some next
      → (member : Member D) × (slice_get old.members.items who ≡ Some member) × (next.node ≡ member.node) × (next.steps ≡ member.steps) × IsMailOf old.book.letters situation who [] next.mail

  pub world_set : (table : Table) (rows : List Row) (old new : World D) (situation other : Situation) → IsWorldAt view table rows old situation → new.book ≡ old.book → new.latest ≡ old.latest
      → length new.members.items ≡ length old.members.items → other.standing ≡ situation.standing → other.latest ≡ situation.latest → other.bases ≡ situation.bases
      → ((from to : ℕ) → is_cut from to new.cuts.items ≡ is_cut from to other.cuts) → AreSet old new other → IsWorldAt view table rows new other
  world_set table rows old new situation other is book latest count standing last bases cuts each = record {
    ahead = record {
      at = record {
        sound = is.ahead.at.sound;
        behind = rw book is.ahead.at.behind;
        rest = rw book is.ahead.at.rest;
        few = rw book is.ahead.at.few;
        standing = rw book (standing ∙ is.ahead.at.standing);
        since = subst (λ latest. table.window.from.0 ≤ℤ latest) (sym last) is.ahead.at.since;
        bases = rw book (bases ∙ is.ahead.at.bases);
      };
      count = rw book (count ∙ is.ahead.count);
      each = λ who next found.
          let was = each who next found in
          let ahead = is.ahead.each who was.0 was.1 in
          rw book (record { mail = was.4; running = rw was.2 ahead.running; stopped = rw was.2 ahead.stopped });
      cuts = cuts;
      latest = ap (λ minute. minute.0) latest ∙ is.ahead.latest ∙ sym last;
    };
    idle = λ who next found. let was = each who next found in ap (λ steps. steps.items) was.3 ∙ is.idle who was.0 was.1;
  }

  -- cuts alone
  pub cuts_set : (old new : World D) (change : List (ℕ × ℕ) → List (ℕ × ℕ)) → new.book ≡ old.book → new.latest ≡ old.latest → new.members ≡ old.members
      → ((situation : List (ℕ × ℕ)) → ((from to : ℕ) → is_cut from to old.cuts.items ≡ is_cut from to situation) → (from to : ℕ) → is_cut from to new.cuts.items ≡ is_cut from to (change situation))
      → Changes view (λ situation. record situation { cuts = change situation.cuts }) old new
  cuts_set old new change book latest members cuts = λ table rows situation is.
      world_set table rows old new situation (record situation { cuts = change situation.cuts }) is book latest (ap (λ members. length members.items) members) refl refl refl (cuts situation.cuts is.ahead.cuts)
      (λ who next found.
      let there : slice_get old.members.items who ≡ Some next = ap (λ members. slice_get members.items who) (sym members) ∙ found in
      (next, there, refl, refl, mail_as old.book.letters situation (record situation { cuts = change situation.cuts }) who next.mail refl refl refl refl refl (is.ahead.each who next there).mail))

  -- what is set for one replica
  pub member_set : (old new : World D) (who : ℕ) (member next : Member D) (change : Situation → Situation) → new.book ≡ old.book → new.latest ≡ old.latest → new.cuts ≡ old.cuts
      → slice_get old.members.items who ≡ Some member → new.members.items ≡ set old.members.items who next → next.node ≡ member.node → next.steps ≡ member.steps
      → ((situation : Situation) → (change situation).standing ≡ situation.standing) → ((situation : Situation) → (change situation).latest ≡ situation.latest)
      → ((situation : Situation) → (change situation).cuts ≡ situation.cuts) → ((situation : Situation) → (change situation).bases ≡ situation.bases)
      → ((situation : Situation) (other : ℕ) → other ≢ who → (change situation).mails other ≡ situation.mails other)
      → ((situation : Situation) (other : ℕ) → other ≢ who → (change situation).skews other ≡ situation.skews other)
      → ((situation : Situation) (other : ℕ) → other ≢ who → (change situation).fates other ≡ situation.fates other)
      → ((situation : Situation) (other : ℕ) → other ≢ who → (change situation).arms other ≡ situation.arms other)
      → ((table : Table) (rows : List Row) (situation : Situation) → IsWorldAt view table rows old situation → IsMailOf old.book.letters situation who [] member.mail
      → IsMailOf old.book.letters (change situation) who [] next.mail)
      → Changes view change old new
  member_set old new who member next change book latest cuts there members node steps standing last same_cuts bases mails skews fates arms mine = λ table rows situation is.
      world_set table rows old new situation (change situation) is book latest (ap length members ∙ length-set old.members.items who next) (standing situation) (last situation) (bases situation)
      (λ from to. ap (λ cuts. is_cut from to cuts.items) cuts ∙ is.ahead.cuts from to ∙ ap (is_cut from to) (sym (same_cuts situation)))
      (λ k x found. elim (set_cases old.members.items who next k x (subst (λ members. slice_get members k ≡ Some x) members found)) [
        | inl here ↦ (
          member,
          ap (slice_get old.members.items) here.0 ∙ there,
          ap (λ (m : Member D). m.node) here.1 ∙ node,
          ap (λ (m : Member D). m.steps) here.1 ∙ steps,
          subst (λ k. IsMailOf old.book.letters (change situation) k [] x.mail) (sym here.0)
              (subst (λ (m : Member D). IsMailOf old.book.letters (change situation) who [] m.mail) (sym here.1) (mine table rows situation is (is.ahead.each who member there).mail)),
        )
        | inr other ↦ (
          x,
          other.1,
          refl,
          refl,
          mail_as old.book.letters situation (change situation) k x.mail (standing situation) (mails situation k other.0) (skews situation k other.0) (fates situation k other.0) (arms situation k other.0)
              (is.ahead.each k x other.1).mail,
        )
      ])

  pub skew_set : (old new : World D) (who : ℕ) (minutes : ℤ) (member next : Member D) → new.book ≡ old.book → new.latest ≡ old.latest → new.cuts ≡ old.cuts → slice_get old.members.items who ≡ Some member
      → new.members.items ≡ set old.members.items who next → next.node ≡ member.node → next.steps ≡ member.steps → next.mail ≡ record member.mail { skew = minutes } → IsSkew minutes
      → Changes view (λ situation. record situation { skews = with_fact who minutes situation.skews }) old new
  skew_set old new who minutes member next book latest cuts there members node steps mail small =
      member_set old new who member next (λ situation. record situation { skews = with_fact who minutes situation.skews }) book latest cuts there members node steps (λ s. refl) (λ s. refl) (λ s. refl) (λ s. refl)
      (λ s other differs. refl) (λ s other differs. fact_there who minutes s.skews other differs) (λ s other differs. refl) (λ s other differs. refl)
      (λ table rows s at is. rw mail (record { runs = is.runs; letters_are = is.letters_are; skew = sym (fact_here who minutes s.skews); small = small; fate = is.fate; waits = is.waits; arm = is.arm; sent = is.sent }))

  pub fate_set : (old new : World D) (who : ℕ) (becomes : Fate) (member next : Member D) → new.book ≡ old.book → new.latest ≡ old.latest → new.cuts ≡ old.cuts → slice_get old.members.items who ≡ Some member
      → new.members.items ≡ set old.members.items who next → next.node ≡ member.node → next.steps ≡ member.steps → next.mail ≡ record member.mail { fate = becomes }
      → Changes view (λ situation. record situation { fates = with_fact who becomes situation.fates }) old new
  fate_set old new who becomes member next book latest cuts there members node steps mail =
      member_set old new who member next (λ situation. record situation { fates = with_fact who becomes situation.fates }) book latest cuts there members node steps (λ s. refl) (λ s. refl) (λ s. refl) (λ s. refl)
      (λ s other differs. refl) (λ s other differs. refl) (λ s other differs. fact_there who becomes s.fates other differs) (λ s other differs. refl)
      (λ table rows s at is. rw mail (record { runs = is.runs; letters_are = is.letters_are; skew = is.skew; small = is.small; fate = sym (fact_here who becomes s.fates); waits = is.waits; arm = is.arm; sent = is.sent }))

  pub arm_set : (old new : World D) (who pass image : ℕ) (member next : Member D) → new.book ≡ old.book → new.latest ≡ old.latest → new.cuts ≡ old.cuts → slice_get old.members.items who ≡ Some member
      → member.mail.runs ≡ true → new.members.items ≡ set old.members.items who next → next.node ≡ member.node → next.steps ≡ member.steps
      → next.mail ≡ record member.mail { arm = Some (record { left = pass; image = image }) } → Changes view (armed_by who pass image) old new
  arm_set old new who pass image member next book latest cuts there runs members node steps mail = λ table rows situation is.
      let armed : armed_by who pass image situation ≡ record situation { arms = with_fact who (Some (record { left = pass; image = image })) situation.arms } =
      rw (sym (is.ahead.each who member there).mail.runs ∙ runs) refl in
      subst (λ (here : Situation). IsWorldAt view table rows new here) (sym armed)
      (member_set old new who member next (λ here. record here { arms = with_fact who (Some (record { left = pass; image = image })) here.arms }) book latest cuts there members node steps (λ s. refl)
      (λ s. refl) (λ s. refl) (λ s. refl) (λ s other differs. refl) (λ s other differs. refl) (λ s other differs. refl) (λ s other differs. fact_there who _ s.arms other differs)
      (λ table rows s at is. rw mail (record {
        runs = is.runs;
        letters_are = is.letters_are;
        skew = is.skew;
        small = is.small;
        fate = is.fate;
        waits = is.waits;
        arm = sym (fact_here who (Some (record { left = pass; image = image })) s.arms);
        sent = is.sent;
      })) table rows situation is)

  -- a stopped replica's disk isn't armed, and the world is put back as it was
  pub put_back : (old new : World D) (who pass image : ℕ) (member : Member D) → slice_get old.members.items who ≡ Some member → member.mail.runs ≡ false → new.members.items ≡ set old.members.items who member
      → new.book ≡ old.book → new.latest ≡ old.latest → new.cuts ≡ old.cuts → Changes view (armed_by who pass image) old new
  put_back old new who pass image member there stopped members book latest cuts = λ table rows situation is.
      let unarmed : armed_by who pass image situation ≡ situation = rw (sym (is.ahead.each who member there).mail.runs ∙ stopped) refl in
      subst (λ (here : Situation). IsWorldAt view table rows new here) (sym unarmed)
      (world_set table rows old new situation situation is book latest (ap length members ∙ length-set old.members.items who member) refl refl refl (λ from to. ap (λ cuts. is_cut from to cuts.items) cuts ∙ is.ahead.cuts from to)
      (λ k x found. elim (set_cases old.members.items who member k x (subst (λ members. slice_get members k ≡ Some x) members found)) [
        | inl here ↦ (
          member,
          ap (slice_get old.members.items) here.0 ∙ there,
          ap (λ (m : Member D). m.node) here.1,
          ap (λ (m : Member D). m.steps) here.1,
          subst (λ k. IsMailOf old.book.letters situation k [] x.mail) (sym here.0)
              (subst (λ (m : Member D). IsMailOf old.book.letters situation who [] m.mail) (sym here.1) (is.ahead.each who member there).mail),
        )
        | inr other ↦ (x, other.1, refl, refl, (is.ahead.each k x other.1).mail)
      ]))

  -- nobody has a turn, and something is set
  pub sets_go : (table : Table) (n : ℕ) (old new : World D) (tasks : Situation → List Task) (change : Situation → Situation)
      → ((rows : List Row) (situation : Situation) → IsWorldAt view table rows old situation → tasks situation ≡ [])
      → Changes view change old new → GoesOnBy view table (Plain n tasks change) old new
  sets_go table n old new tasks change none changes = λ rows situation is.
      let middle : Situation = delivered (length situation.standing.posted) situation in
      let same : IsWorldAt view table rows old middle =
      same_mails view table rows old situation (λ who. situation.mails who ++ letters_for situation (length situation.standing.posted) who)
      (λ who. let e : length situation.standing.posted - length situation.standing.posted ≡ 0 = omega arith in rw e (sym (append_nil (situation.mails who)))) is in (
        [],
        change middle,
        record {
          front = [];
          middle = middle;
          back = [];
          parts = refl;
          one = record { turns = rw (none rows situation is) refl; is = refl };
          two = record { none = refl; is = refl };
        },
        subst (λ rows. IsWorldAt view table rows new (change middle)) (sym (append_nil rows)) (changes table rows middle same),
      )

  -- something is set, and nothing else comes of it
  pub sets_alone : (table : Table) (old new : World D) (change : Situation → Situation) → Changes view change old new → GoesOnBy view table (Sets change) old new
  sets_alone table old new change changes = λ rows situation is. (
    [],
    change situation,
    record { none = refl; is = refl },
    subst (λ rows. IsWorldAt view table rows new (change situation)) (sym (append_nil rows)) (changes table rows situation is),
  )
