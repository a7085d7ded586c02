-- A word's binary digits as marks: setting one, and counting them.
use Rattle.std.proofs.Common.{◌≡◌, ℕ, zero, suc, ◌/◌, ◌%◌, ◌^◌, ◌<◌, max, Bool, true, false, cond, ◌&&◌, eqb, sym, refl, ap, ◌∙◌, pow-suc, arith}
use lib.Bits.{bit_or, or_step, or_shr, or_zero_r, or_lt}
use lib.Count.{ones, ones_step, ones-le}
use Rattle.std.proofs.lemmas.Bool.{eq-eqb, ne_eqb}
use Rattle.std.proofs.lemmas.Bool.Decides.{nat_tests}
use Rattle.std.proofs.lemmas.Nat.{pow_below}
use Rattle.model.specs.Lists.{update, each}
use Rattle.kernel.specs.Bits.{bit}

-- No digit of 0 is 1.
pub none_set : (q : ℕ) → bit 0 q ≡ false
none_set zero = refl
none_set (suc q) = none_set q

odd : (a b : ℕ) → bit_or a b % 2 ≡ max (a % 2) (b % 2)
odd a b = omega (arith, or_step a b)

-- The digit at p is set, and no other changes.
pub bit_set : (p q w : ℕ) → bit (bit_or w (2 ^ p)) q ≡ update (bit w) p true q
bit_set zero zero w = eq-eqb (bit_or w 1 % 2) 1 (omega (arith, odd w 1))
bit_set zero (suc q) w =
    ap (λ x. bit x q) (or_shr w 1 1 ∙ or_zero_r (w / 2))
    ∙ ap (λ b. cond b true (bit (w / 2) q)) (sym (ne_eqb (suc q) 0 (λ e. omega (arith, e))))
bit_set (suc p) zero w =
    let same : bit_or w (2 ^ suc p) % 2 ≡ w % 2 = omega (arith, odd w (2 ^ suc p), pow-suc 2 p) in
    ap (λ x. eqb x 1) same ∙ ap (λ b. cond b true (eqb (w % 2) 1)) (sym (ne_eqb 0 (suc p) (λ e. omega (arith, e))))
bit_set (suc p) (suc q) w =
    let half : 2 ^ suc p / 2 ≡ 2 ^ p = omega (arith, pow-suc 2 p) in
    let down : eqb q p ≡ eqb (suc q) (suc p) = grind (arith, nat_tests) in
    ap (λ x. bit x q) (or_shr w (2 ^ suc p) 1 ∙ ap (bit_or (w / 2)) half) ∙ bit_set p q (w / 2)
    ∙ ap (λ b. cond b true (bit (w / 2) q)) down

-- Tests that agree hold alike of each.
pub each_same : (n : ℕ) (f g : ℕ → Bool) → ((k : ℕ) → f k ≡ g k) → each n f ≡ each n g
each_same zero f g e = refl
each_same (suc n) f g e = ap (λ b. b && f n) (each_same n f g e) ∙ ap (λ b. each n g && b) (e n)

and_assoc : (a b c : Bool) → ((a && b) && c) ≡ (a && (b && c))
and_assoc true b c = refl
and_assoc false b c = refl

and_true : (a : Bool) → (true && a) ≡ (a && true)
and_true true = refl
and_true false = refl

-- Each of the first and of those after it.
each_first : (n : ℕ) (f : ℕ → Bool) → each (suc n) f ≡ (f 0 && each n (λ k. f (suc k)))
each_first zero f = and_true (f 0)
each_first (suc n) f = ap (λ b. b && f (suc n)) (each_first n f) ∙ and_assoc (f 0) (each n (λ k. f (suc k))) (f (suc n))

-- All of the n lowest digits are 1 exactly when n digits are.
pub all_set : (n w : ℕ) → w < 2 ^ n → eqb (ones w) n ≡ each n (bit w)
all_set zero w h = eq-eqb (ones w) 0 (omega (arith, ones-le 0 w h))
all_set (suc n) w h =
    let l : w / 2 < 2 ^ n = omega (arith, pow-suc 2 n) in
    let few = ones-le n (w / 2) l in
    let step = ones_step w in
    let both : eqb (ones w) (suc n) ≡ (eqb (w % 2) 1 && eqb (ones (w / 2)) n) = grind (arith, nat_tests) in
    both ∙ ap (λ b. eqb (w % 2) 1 && b) (all_set n (w / 2) l) ∙ sym (each_first n (bit w))

module _ (n w p x : ℕ) (h : p < n) (fits : w < 2 ^ n) (e : x ≡ bit_or w (2 ^ p)) where
  -- The word with the digit at p set.
  pub word_fits : x < 2 ^ n
  word_fits = omega (arith, e, or_lt n w (2 ^ p) fits (pow_below p n h))

  pub word_marks : (q : ℕ) → bit x q ≡ update (bit w) p true q
  word_marks q = ap (λ y. bit y q) e ∙ bit_set p q w

  -- Its ones are as many as the processes exactly when all are marked.
  pub word_full : eqb (ones x) n ≡ each n (update (bit w) p true)
  word_full = all_set n x word_fits ∙ each_same n (bit x) (update (bit w) p true) word_marks
