-- Reading a number from bytes, and from its digits.
use Rattle.std.proofs.Common.{◌≡◌, ℕ, ◌+◌, ◌-◌, ◌*◌, ◌^◌, ◌<◌, ◌≤◌, Bool, true, false, cond, not, ◌&&◌, eqb, ltb, List, [], ◌∷◌, length, get_or, drop, Some, None, decimal, Decides, Option, sym, refl, ap, ◌∙◌, ⊎_elim, arith, rules}
use Rattle.std.specs.Char.{is_ascii_digit}
use Rattle.std.specs.Option.{option_eq}
use Rattle.std.proofs.lemmas.Bool.Decides.{Decides-eqb}
use Rattle.std.specs.Str.{all_ascii_digits, bytes_eq}
use Rattle.std.proofs.lemmas.Fmt.{first_decimal, decimal_digit, decimal_nonempty, decimal-digits_value, digits_value-decimal, digits_decimal as decimal-digits}
use Rattle.std.proofs.lemmas.Slice.Eq.{bytes_eq-Decides}
use Rattle.std.proofs.lemmas.List.{at_drop_more, at_drop_all}
use Rattle.std.proofs.lemmas.Str.Parse.{IsNumeralModel, numerals_by_fold, tells_all_ascii_digits}
use Rattle.std.proofs.lemmas.Bool.{and_left, and_right, and_parts, cases_lt, eq-eqb, ne_eqb, not-true, le-ltb, lt-ltb, ltb-true}
use Rattle.text.specs.Decimal.{ReadsBack, digits, number_of, unpadded, value_from}
use Rattle.text.proofs.TenthPart.{digits_decimal, tenth_part}

-- the digits read before i make v
pub record Sofar (bs : List ℕ) (v i : ℕ) : Type 0 where
  pub worth : value_from v (drop i bs) ≡ value_from 0 bs
  pub onward : all_ascii_digits (drop i bs) ≡ all_ascii_digits bs
  pub small : v < 2 ^ 32

grows : (v : ℕ) (bs : List ℕ) → v ≤ value_from v bs
grows v [] = omega arith
grows v (b ∷ bs) = omega (arith, grows (v * 10 + (b - 48)) bs)

none_read : (bs : List ℕ) → (unpadded bs && (all_ascii_digits bs && ltb (value_from 0 bs) 4294967296)) ≡ false → None ≡ number_of bs
unfolding number_of
none_read bs e = simp e

pub padded : (bs : List ℕ) → unpadded bs ≡ false → None ≡ number_of bs
padded bs u = none_read bs (and_left (unpadded bs) _ u)

no_digits : (bs : List ℕ) → all_ascii_digits bs ≡ false → None ≡ number_of bs
no_digits bs d = none_read bs (and_right (unpadded bs) _ (and_left (all_ascii_digits bs) _ d))

too_large : (bs : List ℕ) → 2 ^ 32 ≤ value_from 0 bs → None ≡ number_of bs
too_large bs l = none_read bs (and_right (unpadded bs) _ (and_right (all_ascii_digits bs) _ (le-ltb _ _ l)))

read : (bs : List ℕ) → unpadded bs ≡ true → all_ascii_digits bs ≡ true → value_from 0 bs < 2 ^ 32
    → number_of bs ≡ Some (value_from 0 bs)
unfolding number_of
read bs u d l =
    let small : ltb (value_from 0 bs) 4294967296 ≡ true = lt-ltb _ _ l in
    simp (u, d, small)

module _ (bs : List ℕ) (v i : ℕ) (h : Sofar bs v i) where
  pub at_no_digit : i < length bs → is_ascii_digit (get_or bs i 0) ≡ false → None ≡ number_of bs
  at_no_digit lt n =
      no_digits bs (sym h.onward ∙ at_drop_more all_ascii_digits bs i 0 lt ∙ and_left _ (all_ascii_digits (drop (i + 1) bs)) n)

  one_more : i < length bs → (w : ℕ) → w ≡ v * 10 + (get_or bs i 0 - 48) → value_from w (drop (i + 1) bs) ≡ value_from 0 bs
  one_more lt w e = ap (λ k. value_from k (drop (i + 1) bs)) e ∙ sym (at_drop_more (value_from v) bs i 0 lt) ∙ h.worth

  pub past_limit : i < length bs → (w : ℕ) → w ≡ v * 10 + (get_or bs i 0 - 48) → 2 ^ 32 ≤ w → None ≡ number_of bs
  past_limit lt w e l = too_large bs (omega (arith, one_more lt w e, grows w (drop (i + 1) bs)))

  pub next : i < length bs → is_ascii_digit (get_or bs i 0) ≡ true
      → (w : ℕ) → w ≡ v * 10 + (get_or bs i 0 - 48) → w < 2 ^ 32 → Sofar bs w (i + 1)
  next lt d w e l = record {
    worth = one_more lt w e;
    onward = sym (ap (λ t. t && all_ascii_digits (drop (i + 1) bs)) d) ∙ sym (at_drop_more all_ascii_digits bs i 0 lt) ∙ h.onward;
    small = l;
  }

  pub at_end : length bs ≤ i → unpadded bs ≡ true → Some v ≡ number_of bs
  at_end le u =
      let worth : v ≡ value_from 0 bs = sym (at_drop_all (value_from v) bs i le) ∙ h.worth in
      let d : all_ascii_digits bs ≡ true = sym h.onward ∙ at_drop_all all_ascii_digits bs i le in
      ap Some worth ∙ sym (read bs u d (omega (arith, h.small)))

own : IsNumeralModel (λ ds. all_ascii_digits ds ≡ true) (value_from 0)
own = numerals_by_fold _ tells_all_ascii_digits value_from (search rules)

unpadded_from : (ds : List ℕ) → 0 < length ds → (get_or ds 0 0 ≡ 48 → length ds ≡ 1) → unpadded ds ≡ true
unpadded_from [] some z = absurd (omega arith)
unpadded_from (d ∷ []) some z = refl
unpadded_from (d ∷ e ∷ ds) some z =
    let t : eqb d 48 ≡ false = ne_eqb d 48 (λ p. omega (arith, z p)) in ap not t

unpadded_parts : (ds : List ℕ) → unpadded ds ≡ true → (0 < length ds) × (get_or ds 0 0 ≡ 48 → length ds ≡ 1)
unpadded_parts [] u = absurd (cc)
unpadded_parts (d ∷ []) u = (omega arith, λ z. refl)
unpadded_parts (d ∷ e ∷ ds) u =
    (omega arith, λ z. absurd (cc (eq-eqb d 48 z, not-true _ u)))

module _ (n : ℕ) (l : n < 2 ^ 64) where
  digits_some : 0 < length (digits n)
  digits_some = rw (digits_decimal n l) (decimal_nonempty n l)

  digits_unpadded : unpadded (digits n) ≡ true
  digits_unpadded =
      rw (digits_decimal n l)
      (unpadded_from (decimal n) (decimal_nonempty n l) (λ z.
      ⊎_elim (λ p. absurd (omega (arith, first_decimal n p l)))
      (λ p. let e : n ≡ 0 = omega arith in ap length (ap decimal e ∙ decimal_digit 0 (omega arith)))
      (cases_lt 0 n)))

  digits_digits : all_ascii_digits (digits n) ≡ true
  digits_digits = rw (digits_decimal n l) (decimal-digits own n l)

  digits_worth : value_from 0 (digits n) ≡ n
  digits_worth = rw (digits_decimal n l) (digits_value-decimal own n l)

read_digits : (n : ℕ) → n < 2 ^ 32 → number_of (digits n) ≡ Some n
read_digits n l =
    let m : n < 2 ^ 64 = omega arith in
    read (digits n) (digits_unpadded n m) (digits_digits n m) (omega (arith, digits_worth n m)) ∙ ap Some (digits_worth n m)

some_parts : (t : Bool) (v n : ℕ) → cond t (Some v) None ≡ Some n → (t ≡ true) × (v ≡ n)
some_parts true v n e = (refl, cc)
some_parts false v n e = absurd (cc)

only_digits : (bs : List ℕ) (n : ℕ) → number_of bs ≡ Some n → bs ≡ digits n
unfolding number_of
only_digits bs n e =
    let p = some_parts _ _ n e in
    let q = and_parts (unpadded bs) _ p.0 in
    let r = and_parts (all_ascii_digits bs) _ q.1 in
    let u = unpadded_parts bs q.0 in
    let small : value_from 0 bs < 2 ^ 64 = omega (arith, ltb-true _ _ r.1) in
    sym (decimal-digits_value own bs r.0 u.0 u.1 small) ∙ sym (digits_decimal _ small) ∙ ap digits p.1

pub reads_back : ReadsBack
reads_back = record { rule = tenth_part; back = read_digits; only = only_digits }

same_by : (xs ys : List ℕ) (r : Bool) → Decides r (xs ≡ ys) → r ≡ bytes_eq xs ys
same_by xs ys r h = search (rules, bytes_eq-Decides)

-- bytes are the digits of n exactly where n is read from them
pub spelled : (bs : List ℕ) (n : ℕ) → n < 2 ^ 32
    → (o : Option ℕ) (r : Bool) → o ≡ number_of bs → r ≡ option_eq eqb o (Some n)
    → r ≡ bytes_eq bs (digits n)
spelled bs n l None r e h =
    same_by bs (digits n) r (
      (λ t. absurd (cc)),
      λ d. absurd (cc (ap number_of d, read_digits n l)),
    )
spelled bs n l (Some m) r e h =
    same_by bs (digits n) r (
      (λ t. only_digits bs n (sym e ∙ ap Some ((Decides-eqb m n).0 (sym h ∙ t)))),
      λ d. h ∙ (Decides-eqb m n).1 (let q : Some m ≡ Some n = e ∙ ap number_of d ∙ read_digits n l in cc),
    )
