-- Sums over the numbers below a bound.
use Rattle.std.proofs.Common.{◌≡◌, ℕ, zero, suc, ◌+◌, ◌*◌, ◌<◌, ◌≤◌, ◌≢◌, refl, arith}
use mathlib.Core.Logic.{by_cases}
use native.Mathlib.Decide.{ℕ_discrete}
use Rattle.model.specs.Lists.{total}

-- A sum of lesser parts is less.
pub total_mono : (n : ℕ) (f g : ℕ → ℕ) → ((p : ℕ) → p < n → f p ≤ g p) → total n f ≤ total n g
total_mono zero f g l = omega arith
total_mono (suc n) f g l = let i = total_mono n f g (λ p q. l p (omega arith)) in let j = l n (omega arith) in omega arith

-- A sum of equal parts is equal.
pub total_equal : (n : ℕ) (f g : ℕ → ℕ) → ((p : ℕ) → f p ≡ g p) → total n f ≡ total n g
total_equal zero f g e = refl
total_equal (suc n) f g e = let i = total_equal n f g e in let j = e n in omega arith

-- A part that is d smaller makes the sum d smaller.
pub total_drop : (n : ℕ) (f g : ℕ → ℕ) (d k : ℕ) → ((p : ℕ) → p < n → f p ≤ g p) → k < n → f k + d ≤ g k → total n f + d ≤ total n g
total_drop zero f g d k l b e = absurd (omega arith)
total_drop (suc n) f g d k l b e = by_cases (ℕ_discrete k n)
    (λ q. let m = total_mono n f g (λ p i. l p (omega arith)) in let z : f n + d ≤ g n = rw q at e in omega arith)
    (λ q. let i = total_drop n f g d k (λ p i. l p (omega arith)) (omega arith) e in let j = l n (omega arith) in omega arith)

-- A part that is d greater, and no other, makes the sum d greater at most.
pub total_rise : (n : ℕ) (f g : ℕ → ℕ) (d k : ℕ) → ((p : ℕ) → p < n → p ≢ k → f p ≤ g p) → f k ≤ g k + d → total n f ≤ total n g + d
total_rise zero f g d k l e = omega arith
total_rise (suc n) f g d k l e = by_cases (ℕ_discrete n k)
    (λ q. let m = total_mono n f g (λ p i. l p (omega arith) (omega arith)) in let z : f n ≤ g n + d = rw q e in omega arith)
    (λ q. let i = total_rise n f g d k (λ p i. l p (omega arith)) e in let j = l n (omega arith) q in omega arith)

-- Lesser parts whose sum is not less are equal.
pub total_tight : (n : ℕ) (f g : ℕ → ℕ) → ((p : ℕ) → p < n → f p ≤ g p) → total n g ≤ total n f → (p : ℕ) → p < n → f p ≡ g p
total_tight n f g l e p q = by_cases (ℕ_discrete (f p) (g p)) (λ o. o)
    (λ o. let j = l p q in let d = total_drop n f g 1 p l q (omega arith) in absurd (omega arith))

-- Parts of b at most make a sum of n times b at most.
pub total_most : (n : ℕ) (f : ℕ → ℕ) (b : ℕ) → ((p : ℕ) → f p ≤ b) → total n f ≤ n * b
total_most zero f b l = omega arith
total_most (suc n) f b l = let i = total_most n f b l in let j = l n in omega arith

-- Parts of one at most make a sum of n at most.
pub total_ones : (n : ℕ) (f : ℕ → ℕ) → ((p : ℕ) → f p ≤ 1) → total n f ≤ n
total_ones n f l = let m = total_most n f 1 l in omega arith
