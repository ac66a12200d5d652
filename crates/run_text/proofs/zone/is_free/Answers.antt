use Rattle.std.proofs.Common.{◌≡◌, ◌≢◌, ◌<◌, length, sym, subst, codes, arith, rules}
use Rattle.std.proofs.lemmas.Bool.Decides.{nat_tests}
use Rattle.std.proofs.lemmas.Grind.{common_steps}
use Rattle.run_text.proofs.PartLemmas.{free_name, free_few, free_new, New}
use Rattle.run_text.proofs.zone.is_free.Goals as goal

pub returns-then-is_full : goal.returns-then-is_full
returns-then-is_full c = (
  λ yes. cc,
  λ free.
      let few = free_few c.args.names.now.items c.args.name.now free in
      let full : length c.args.names.now.items ≡ 32 = grind (arith, nat_tests) in
      absurd (omega arith),
)

pub returns-then-ne : goal.returns-then-ne
returns-then-ne c =
    let fits = c.is_full.ensures.fits in
    let few : length c.args.names.now.items < 32 = grind (arith, nat_tests) in
    let other : c.args.name.now ≢ codes "UTC" = grind (arith, common_steps) in (
      λ yes. free_name _ _ few other (subst (New c.args.name.now) c.as_slice.ensures.value (c.is_new.ensures.0 yes)),
      λ free. c.is_new.ensures.1 (subst (New c.args.name.now) (sym c.as_slice.ensures.value) (free_new _ _ free)),
    )

pub returns-else-ne : goal.returns-else-ne
returns-else-ne c =
    let utc : c.args.name.now ≡ codes "UTC" = search rules in
    (λ yes. cc, λ free. absurd (free.no_utc utc))
