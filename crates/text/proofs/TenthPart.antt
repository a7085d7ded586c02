-- The digits of a number by those of its tenth part.
use Rattle.std.proofs.Common.{◌≡◌, ℕ, zero, suc, ◌+◌, ◌/◌, ◌%◌, ◌^◌, ◌<◌, ◌≤◌, true, false, cond, eqb, List, [], ◌∷◌, ◌++◌, length, decimal, ap, ◌∙◌, ⊎_elim, arith, length-append}
use Rattle.std.proofs.lemmas.Fmt.{AppendsLastDigit, decimal_from_appends, length-decimal-le, length-decimal-le_succ}
use Rattle.std.proofs.lemmas.Bool.{eq-eqb, ne_eqb, cases_eq}
use Rattle.text.specs.Decimal.{digits, digits_by}

-- a bound above n changes nothing
same_bound : (j k n : ℕ) → n < j → n < k → digits_by j n ≡ digits_by k n
same_bound zero k n l m = absurd (omega arith)
same_bound (suc j) zero n l m = absurd (omega arith)
same_bound (suc j) (suc k) n l m =
    ⊎_elim (λ e. let t : eqb (n / 10) 0 ≡ true = eq-eqb _ 0 e in simp t)
    (λ z. ap (λ ds. cond (eqb (n / 10) 0) [] ds ++ (48 + n % 10) ∷ []) (same_bound j k (n / 10) (omega arith) (omega arith)))
    (cases_eq (n / 10) 0)

pub tenth_part : (n : ℕ) → digits n ≡ cond (eqb (n / 10) 0) [] (digits (n / 10)) ++ (48 + n % 10) ∷ []
unfolding digits
tenth_part n =
    ⊎_elim (λ e. let t : eqb (n / 10) 0 ≡ true = eq-eqb _ 0 e in simp t)
    (λ z.
    let same = same_bound n (suc (n / 10)) (n / 10) (omega arith) (omega arith) in
    ap (λ ds. cond (eqb (n / 10) 0) [] ds ++ (48 + n % 10) ∷ []) same)
    (cases_eq (n / 10) 0)

-- the digits of the tenth part, unless that is 0
abbrev pub tenths : ℕ → List ℕ
tenths n = cond (eqb (n / 10) 0) [] (digits (n / 10))

pub tenths_none : (n : ℕ) → n / 10 ≡ 0 → tenths n ≡ []
tenths_none n e = let t : eqb (n / 10) 0 ≡ true = eq-eqb _ 0 e in simp t

pub tenths_some : (n : ℕ) → 0 < n / 10 → tenths n ≡ digits (n / 10)
tenths_some n l = let t : eqb (n / 10) 0 ≡ false = ne_eqb _ 0 (omega arith) in simp t

pub length_more : (n : ℕ) → length (digits n) ≡ length (tenths n) + 1
length_more n = ap length (tenth_part n) ∙ length-append (tenths n) ((48 + n % 10) ∷ [])

spells : AppendsLastDigit digits_by
spells = record {
  one = λ k n h. let z : n / 10 ≡ 0 = omega arith in let m : n % 10 ≡ n = omega arith in simp (z, m);
  more = λ k n h. let z : eqb (n / 10) 0 ≡ false = ne_eqb _ 0 (omega arith) in simp z;
}

-- the digits are what std writes of a number
pub digits_decimal : (n : ℕ) → n < 2 ^ 64 → digits n ≡ decimal n
unfolding digits
digits_decimal n h = decimal_from_appends digits_by spells (suc n) n h (omega (arith, length-decimal-le_succ n h))

-- a number below 10 ^ k has at most k digits
pub few_digits : (k n : ℕ) → 0 < k → n < 10 ^ k → n < 2 ^ 64 → length (digits n) ≤ k
few_digits k n p h l = rw (digits_decimal n l) (length-decimal-le k n p h l)
