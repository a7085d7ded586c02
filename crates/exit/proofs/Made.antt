-- Values with limits: it matters not how it was shown that they are within.
use Rattle.std.proofs.Common.{◌≡◌, ℕ, ◌+◌, ◌*◌, ◌<◌, Bool, true, false, Some, refl, ap, arith}
use mathlib.Core.Bool.{Bool-set}
use mathlib.Core.HLevel.{is_prop→PathP}
use Rattle.std.proofs.lemmas.Bool.{both_ways}
use Rattle.exit.specs.Limits.{made_if}

-- One is made where the test holds.
pub some_made : {A : Type 0} (test : Bool) (make : test ≡ true → A) (ok : test ≡ true) → Some (make ok) ≡ made_if test make
some_made true make ok = ap (λ k. Some (make k)) (Bool-set true true ok refl)
some_made false make ok = absurd (both_ways false refl ok)

-- Those that are made of equal parts are equal.
pub same_made : {F V : Type 0} (within : F → Bool) (make : (f : F) → within f ≡ true → V) {f g : F} (p : within f ≡ true) (q : within g ≡ true)
    → f ≡ g → make f p ≡ make g q
same_made within make p q e = λ i. make (e i) (is_prop→PathP (λ j. within (e j) ≡ true) (λ j. Bool-set (within (e j)) true) p q i)

-- A number that stands for two, the second below 65,536, tells both.
pub parts_of_code : (m n k l : ℕ) → n < 65536 → l < 65536 → m * 65536 + n ≡ k * 65536 + l → (m ≡ k) × (n ≡ l)
parts_of_code m n k l low lower e = (omega arith, omega arith)
