-- Where the first line of a text ends.
use Rattle.std.proofs.Common.{◌≡◌, ℕ, suc, ◌+◌, ◌-◌, ◌<◌, ◌≤◌, true, false, cond, ◌&&◌, eqb, ◌⊎◌, List, [], ◌∷◌, ◌++◌, length, get_or, take, drop, Some, None, Option, unwrap_or, sym, refl, ap, ◌∙◌, inl, inr, ⊎_elim, append_assoc, arith, length-append, Bor, MatchOption}
use Rattle.std.proofs.lemmas.List.{take_rest, take-append-drop, drop_more, length-take-le, get_or-take, get_or_append_left, drop_all}
use Rattle.std.proofs.lemmas.Bool.{eq-eqb, ne_eqb, cases_eq, and_right}
use Rattle.text.specs.Lines.{FirstLine, begins_lf, lines_of, onto}

-- no LF before i
abbrev pub Clear : List ℕ → ℕ → Type 0
Clear xs i = (k : ℕ) → k < i → get_or xs k 0 ≡ 10 → ⊥

-- what stands before an LF, without a CR at its end
abbrev without_cr : List ℕ → List ℕ
without_cr [] = []
without_cr (b ∷ []) = cond (eqb b 13) [] (b ∷ [])
without_cr (b ∷ c ∷ bs) = b ∷ without_cr (c ∷ bs)

-- nothing but a CR is taken off
stripped : (xs : List ℕ) → (xs ≡ without_cr xs) ⊎ (xs ≡ without_cr xs ++ 13 ∷ [])
stripped [] = inl refl
stripped (b ∷ []) =
    ⊎_elim (λ e. let t : eqb b 13 ≡ true = eq-eqb b 13 e in inr (rw t (ap (λ x. x ∷ []) e)))
    (λ n. let t : eqb b 13 ≡ false = ne_eqb b 13 n in inl (rw t refl))
    (cases_eq b 13)
stripped (b ∷ c ∷ bs) = ⊎_elim (λ e. inl (ap (λ x. b ∷ x) e)) (λ e. inr (ap (λ x. b ∷ x) e)) (stripped (c ∷ bs))

-- and a CR is
without_cr_lem : (xs : List ℕ) → without_cr (xs ++ 13 ∷ []) ≡ xs
without_cr_lem [] = refl
without_cr_lem (a ∷ []) = refl
without_cr_lem (a ∷ b ∷ bs) = ap (λ x. a ∷ x) (without_cr_lem (b ∷ bs))

-- the same in the words of `strip_suffix`
pub strips : (front : Bor (List ℕ)) (r : Option (Bor (List ℕ)))
    → MatchOption r ((f : List ℕ) → front.now ≡ f ++ 13 ∷ [] → ⊥) (λ x. front.now ≡ x.now ++ 13 ∷ [])
    → (unwrap_or r front).now ≡ without_cr front.now
strips front None h = ⊎_elim (λ e. e) (λ e. absurd (h _ e)) (stripped front.now)
strips front (Some x) h = sym (ap without_cr h ∙ without_cr_lem x.now)

-- a byte that ends no line is one more byte of the first
more_lines : (b : ℕ) (bs : List ℕ) → (b ≡ 10 → ⊥) → begins_lf bs ≡ false → lines_of (b ∷ bs) ≡ onto b (lines_of bs)
more_lines b bs n m =
    let f : eqb b 10 ≡ false = ne_eqb b 10 n in
    let g : (eqb b 13 && begins_lf bs) ≡ false = and_right (eqb b 13) _ m in
    simp (f, g)

before_cr : (bs rest : List ℕ) → Clear bs (length bs) → begins_lf (bs ++ 13 ∷ rest) ≡ false
before_cr [] rest clear = refl
before_cr (c ∷ bs) rest clear = ne_eqb c 10 (clear 0 (omega arith))

lines_at_crlf : (line rest : List ℕ) → Clear line (length line) → lines_of (line ++ 13 ∷ 10 ∷ rest) ≡ line ∷ lines_of rest
lines_at_crlf [] rest clear = refl
lines_at_crlf (b ∷ bs) rest clear =
    let others : Clear bs (length bs) = λ k l. clear (suc k) (omega arith) in
    more_lines b (bs ++ 13 ∷ 10 ∷ rest) (clear 0 (omega arith)) (before_cr bs (10 ∷ rest) others)
    ∙ ap (onto b) (lines_at_crlf bs rest others)

-- no CR at the end
abbrev NoCr : List ℕ → Type 0
NoCr line = (front : List ℕ) → line ≡ front ++ 13 ∷ [] → ⊥

lines_at_lf : (line rest : List ℕ) → Clear line (length line) → NoCr line → lines_of (line ++ 10 ∷ rest) ≡ line ∷ lines_of rest
lines_at_lf [] rest clear no_cr = refl
lines_at_lf (b ∷ []) rest clear no_cr =
    let f : eqb b 10 ≡ false = ne_eqb b 10 (clear 0 (omega arith)) in
    let g : eqb b 13 ≡ false = ne_eqb b 13 (λ e. no_cr [] (ap (λ x. x ∷ []) e)) in
    simp (f, g)
lines_at_lf (b ∷ c ∷ bs) rest clear no_cr =
    more_lines b (c ∷ bs ++ 10 ∷ rest) (clear 0 (omega arith)) (ne_eqb c 10 (clear 1 (omega arith)))
    ∙ ap (onto b) (lines_at_lf (c ∷ bs) rest (λ k l. clear (suc k) (omega arith)) (λ front e. no_cr (b ∷ front) (ap (λ x. b ∷ x) e)))

lines_last : (xs : List ℕ) → 0 < length xs → Clear xs (length xs) → lines_of xs ≡ xs ∷ []
lines_last [] some clear = absurd (omega arith)
lines_last (b ∷ []) some clear = more_lines b [] (clear 0 (omega arith)) refl
lines_last (b ∷ c ∷ bs) some clear =
    more_lines b (c ∷ bs) (clear 0 (omega arith)) (ne_eqb c 10 (clear 1 (omega arith)))
    ∙ ap (onto b) (lines_last (c ∷ bs) (omega arith) (λ k l. clear (suc k) (omega arith)))

-- a text up to its first LF without a CR right before that, and what follows
at_lf : {text : List ℕ} (front : Bor (List ℕ)) {rest : List ℕ} (r : Option (Bor (List ℕ)))
    → text ≡ front.now ++ 10 ∷ rest → Clear front.now (length front.now)
    → MatchOption r (NoCr front.now) (λ x. front.now ≡ x.now ++ 13 ∷ [])
    → FirstLine text (unwrap_or r front).now rest
at_lf front {rest} None whole clear h = record {
  lines = ap lines_of whole ∙ lines_at_lf front.now rest clear h;
  split = inl whole;
  shorter = omega (arith, ap length whole, length-append front.now (10 ∷ rest));
}
at_lf {text} front {rest} (Some x) whole clear h =
    let crlf : text ≡ x.now ++ 13 ∷ 10 ∷ rest = whole ∙ ap (λ f. f ++ 10 ∷ rest) h ∙ append_assoc x.now (13 ∷ []) (10 ∷ rest) in
    let long : length front.now ≡ length x.now + 1 = ap length h ∙ length-append x.now (13 ∷ []) in
    let none : Clear x.now (length x.now) = λ k l z.
    clear k (omega arith) (ap (λ f. get_or f k 0) h ∙ get_or_append_left x.now (13 ∷ []) 0 k l ∙ z) in
    record {
      lines = ap lines_of crlf ∙ lines_at_crlf x.now rest none;
      split = inr (inl crlf);
      shorter = omega (arith, ap length crlf, length-append x.now (13 ∷ 10 ∷ rest));
    }

-- the same where the LF stands at i
pub split_at_lf : (text : List ℕ) (i : ℕ) (front : Bor (List ℕ)) (r : Option (Bor (List ℕ)))
    → i < length text → Clear text i → get_or text i 0 ≡ 10 → front.now ≡ take i text
    → MatchOption r (NoCr front.now) (λ x. front.now ≡ x.now ++ 13 ∷ [])
    → FirstLine text (unwrap_or r front).now (take (length text - (i + 1)) (drop (i + 1) text))
split_at_lf text i front r lt clear e f h =
    let rest : drop i text ≡ 10 ∷ drop (i + 1) text = drop_more text i 0 lt ∙ ap (λ b. b ∷ drop (i + 1) text) e in
    let whole : text ≡ front.now ++ 10 ∷ drop (i + 1) text = sym (take-append-drop i text) ∙ (λ k. sym f k ++ rest k) in
    let within : length front.now ≡ i = ap length f ∙ length-take-le i text (omega arith) in
    let none : Clear front.now (length front.now) = λ k l z.
    let l' : k < i = omega arith in clear k l' (sym (ap (λ xs. get_or xs k 0) f ∙ get_or-take i text k 0 l') ∙ z) in
    rw take_rest (at_lf front r whole none h)

-- a text without LF is one line
pub split_last : (text : List ℕ) → 0 < length text → Clear text (length text)
    → FirstLine text text (take (length text - length text) (drop (length text) text))
split_last text some clear =
    let rest = take_rest text (length text) ∙ drop_all (length text) text (omega arith) in
    record {
      lines = lines_last text some clear ∙ ap (λ x. text ∷ lines_of x) (sym rest);
      split = inr (inr (refl, rest));
      shorter = omega (arith, ap length rest);
    }

onto_few : (b : ℕ) (ls : List (List ℕ)) → length (onto b ls) ≤ suc (length ls)
onto_few b [] = omega arith
onto_few b (l ∷ ls) = omega arith

-- no text has more lines than bytes
pub few_lines : (text : List ℕ) → length (lines_of text) ≤ length text
few_lines [] = omega arith
few_lines (b ∷ bs) = grind (arith, few_lines bs, onto_few b (lines_of bs))
