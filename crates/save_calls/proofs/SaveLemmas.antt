-- What the tests of a stop decide.
use Rattle.std.proofs.Common.{◌≡◌, ◌⊎◌, ℕ, ◌+◌, ◌≤◌, ◌/◌, ◌%◌, ◌==◌, ◌&&◌, Bool, sym, ◌∙◌, arith}
use Rattle.std.specs.Bool.{Decides}
use Rattle.std.specs.Prelude.{nat_le}
use Rattle.std.proofs.lemmas.Bool.Decides.{Decides-and, Decides-eqb, Decides-like, Decides-or, nat_tests}
use Rattle.save_calls.specs.Save.{is_shown}

decides_le : (few left : ℕ) → Decides (nat_le few left) (few ≤ left)
decides_le few left = (λ is. grind (arith, nat_tests), λ le. grind (arith, nat_tests))

-- an image shows a byte with P, by a test of P
decides_shown : (test : ℕ → Bool) (P : ℕ → Type 0) (image : ℕ) → ((byte : ℕ) → Decides (test byte) (P byte)) → Decides (is_shown test image) ((image % 3 ≡ 1) ⊎ ((image % 3 ≡ 2) × P (image / 3 % 256)))
decides_shown test P image decides =
    Decides-or (image % 3 == 1) ((image % 3 == 2) && test (image / 3 % 256)) (Decides-eqb (image % 3) 1)
    (Decides-and (image % 3 == 2) (test (image / 3 % 256)) (Decides-eqb (image % 3) 2) (decides (image / 3 % 256)))

-- a stop keeps a change whose last two calls come after so many
pub decides_kept : (few left : ℕ) (test : ℕ → Bool) (P : ℕ → Type 0) (image : ℕ) → ((byte : ℕ) → Decides (test byte) (P byte))
    → Decides (nat_le few left && is_shown test image) ((few ≤ left) × ((image % 3 ≡ 1) ⊎ ((image % 3 ≡ 2) × P (image / 3 % 256))))
decides_kept few left test P image decides = Decides-and (nat_le few left) (is_shown test image) (decides_le few left) (decides_shown test P image decides)

pub decides_gate : (byte : ℕ) → Decides (byte == 1) (byte ≡ 1)
decides_gate byte = Decides-eqb byte 1

-- the low bit of the byte that selects the other area, after an even number of bases and after an odd one
pub decides_even : (bases : ℕ) → bases % 2 ≡ 0 → (byte : ℕ) → Decides (byte % 2 == (bases + 1) % 2) (byte % 2 ≡ 1)
decides_even bases even byte =
    let one : (bases + 1) % 2 ≡ 1 = omega (arith, even) in
    Decides-like (byte % 2 == (bases + 1) % 2) (λ is. is ∙ one) (λ is. is ∙ sym one) (Decides-eqb (byte % 2) ((bases + 1) % 2))

pub decides_odd : (bases : ℕ) → bases % 2 ≡ 1 → (byte : ℕ) → Decides (byte % 2 == (bases + 1) % 2) (byte % 2 ≡ 0)
decides_odd bases odd byte =
    let none : (bases + 1) % 2 ≡ 0 = omega (arith, odd) in
    Decides-like (byte % 2 == (bases + 1) % 2) (λ is. is ∙ none) (λ is. is ∙ sym none) (Decides-eqb (byte % 2) ((bases + 1) % 2))
