-- Whether a change is kept, by the numbers of the arm and how many bases were kept.
use Rattle.std.proofs.Common.{◌≡◌, ◌⊎◌, ℕ, ◌+◌, ◌<◌, ◌%◌, ◌==◌, sym, refl, ap, ◌∙◌, inl, inr, arith}
use Rattle.std.specs.Bool.{Decides}
use Rattle.std.proofs.lemmas.Bool.Decides.{Decides-like}
use Rattle.std.proofs.lemmas.Bool.{cases_order}
use Rattle.std.proofs.lemmas.Nat.{mod_below}
use Rattle.disk_model.specs.declared.armed.Arm.{Arm}
use Rattle.paxos_base.specs.declared.durable.Delta.{Delta}
use Rattle.paxos_base.specs.declared.durable.Delta.TheVariants.{Tried, Promised, Voted, Base}
use Rattle.save_calls.specs.Save.{bases_after, is_kept}
use Rattle.save_calls.proofs.SaveLemmas.{decides_even, decides_gate, decides_kept, decides_odd}
use Rattle.replica_store.specs.Files.{other_area, selected_by}
use Rattle.replica_store.specs.Made.{area_after}
use Rattle.replica_node.specs.Kept.{KeepsChange, area_by}
use Rattle.replica_node.proofs.KeptLemmas.{bit_of_first, bit_of_second, selects_first, selects_second}

even_or_odd : (bases : ℕ) → (bases % 2 ≡ 0) ⊎ (bases % 2 ≡ 1)
even_or_odd bases =
    let low : bases % 2 < 2 = mod_below bases 2 (omega arith) in
    elim (cases_order (bases % 2) 1) [
      | inl odd ↦ inr odd
      | inr apart ↦ elim apart [ inl below ↦ inl (omega (arith, below)) | inr above ↦ absurd (omega (arith, above, low)) ]
    ]

-- the byte of the chooser that selects the other area
decides_other : (bases byte : ℕ) → Decides (byte % 2 == (bases + 1) % 2) (selected_by byte ≡ other_area (area_by bases))
decides_other bases byte = elim (even_or_odd bases) [
  | inl even ↦
      let other = ap other_area (selects_first bases even) in
      Decides-like (byte % 2 == (bases + 1) % 2) (λ odd. selects_second byte odd ∙ sym other) (λ is. bit_of_second byte (is ∙ other)) (decides_even bases even byte)
  | inr odd ↦
      let other = ap other_area (selects_second bases odd) in
      Decides-like (byte % 2 == (bases + 1) % 2) (λ even. selects_first byte even ∙ sym other) (λ is. bit_of_first byte (is ∙ other)) (decides_odd bases odd byte)
]

pub decides_keeps : (bases : ℕ) (change : Delta) (arm : Arm) → Decides (is_kept bases change arm.left arm.image) (KeepsChange (area_by bases) change arm)
decides_keeps bases (Tried ballot) arm = decides_kept 2 arm.left (λ byte. byte == 1) (λ byte. byte ≡ 1) arm.image decides_gate
decides_keeps bases (Promised ballot) arm = decides_kept 2 arm.left (λ byte. byte == 1) (λ byte. byte ≡ 1) arm.image decides_gate
decides_keeps bases (Voted vote) arm = decides_kept 2 arm.left (λ byte. byte == 1) (λ byte. byte ≡ 1) arm.image decides_gate
decides_keeps bases (Base slot rows) arm =
    decides_kept 3 arm.left (λ byte. byte % 2 == (bases + 1) % 2) (λ byte. selected_by byte ≡ other_area (area_by bases)) arm.image (decides_other bases)

next_area : (bases : ℕ) → other_area (area_by bases) ≡ area_by (bases + 1)
next_area bases = elim (even_or_odd bases) [
  | inl even ↦ ap other_area (selects_first bases even) ∙ sym (selects_second (bases + 1) (omega (arith, even)))
  | inr odd ↦ ap other_area (selects_second bases odd) ∙ sym (selects_first (bases + 1) (omega (arith, odd)))
]

pub area_by_bases : (bases : ℕ) (change : Delta) → area_after change (area_by bases) ≡ area_by (bases_after change bases)
area_by_bases bases (Tried ballot) = refl
area_by_bases bases (Promised ballot) = refl
area_by_bases bases (Voted vote) = refl
area_by_bases bases (Base slot rows) = next_area bases
