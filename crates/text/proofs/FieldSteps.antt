-- What one turn of the field reader keeps.
use Rattle.std.proofs.Common.{◌≡◌, ℕ, ◌+◌, ◌-◌, ◌<◌, ◌≤◌, List, [], ◌∷◌, ◌++◌, length, get_or, take, drop, set, Ok, Err, sym, refl, ap, ◌∙◌, append_assoc, arith}
use Rattle.std.specs.List.{between}
use Rattle.std.proofs.lemmas.Bool.Decides.{nat_tests}
use Rattle.std.proofs.lemmas.List.Edits.{between_more}
use Rattle.std.proofs.lemmas.List.{append-nil, at_drop_more, at_drop_all, length_push}
use Rattle.text.specs.Fields.{Step, opens, keeps, closes, ends, breaks, step}
use Rattle.text.specs.Fields.{Answer, Cut, whole, broken, cut, cut_line, filled, finish, found, onto}
use Rattle.text.specs.declared.fields.State.{State}
use Rattle.text.specs.declared.fields.State.TheVariants.{Start, Plain, Quoted, AfterQuote}

-- fields done, in front of those of the bytes to come
abbrev joined : List (List ℕ) → Cut → Cut
joined done (whole fields) = whole (done ++ fields)
joined done (broken fields) = broken (done ++ fields)

joined_onto : (done : List (List ℕ)) (field : List ℕ) (k : Cut) → joined done (onto field k) ≡ joined (done ++ field ∷ []) k
joined_onto done field (whole fields) = ap whole (sym (append_assoc done (field ∷ []) fields))
joined_onto done field (broken fields) = ap broken (sym (append_assoc done (field ∷ []) fields))

joined_none : (k : Cut) → joined [] k ≡ k
joined_none (whole fields) = refl
joined_none (broken fields) = refl

-- what `cut` does with a byte, by what the byte does
abbrev pub onward : Step → List ℕ → ℕ → List ℕ → Cut
onward opens field b bs = cut Quoted [] bs
onward (keeps t) field b bs = cut t (field ++ b ∷ []) bs
onward closes field b bs = cut AfterQuote field bs
onward ends field b bs = onto field (cut Start [] bs)
onward breaks field b bs = broken []

by_cases : (field : List ℕ) (b : ℕ) (bs : List ℕ) (x : Step)
    → elim x [
      | opens ↦ cut Quoted [] bs
      | keeps t ↦ cut t (field ++ b ∷ []) bs
      | closes ↦ cut AfterQuote field bs
      | ends ↦ onto field (cut Start [] bs)
      | breaks ↦ broken []
    ] ≡ onward x field b bs
by_cases field b bs opens = refl
by_cases field b bs (keeps t) = refl
by_cases field b bs closes = refl
by_cases field b bs ends = refl
by_cases field b bs breaks = refl

pub by_step : (s : State) (field : List ℕ) (b : ℕ) (bs : List ℕ) (x : Step) → x ≡ step s b
    → cut s field (b ∷ bs) ≡ onward x field b bs
by_step s field b bs x e = by_cases field b bs (step s b) ∙ ap (λ y. onward y field b bs) (sym e)

-- the field so far ends at the byte to come, but behind its closing quote
abbrev Tight : State → ℕ → ℕ → Type 0
Tight Start end i = end ≡ i
Tight Plain end i = end ≡ i
Tight Quoted end i = end ≡ i
Tight AfterQuote end i = Unit {0}

tight : (t : State) (i : ℕ) → Tight t i i
tight Start i = refl
tight Plain i = refl
tight Quoted i = refl
tight AfterQuote i = tt

-- behind the closing quote no byte is kept
kept_end : (s t : State) (b end i : ℕ) → keeps t ≡ step s b → Tight s end i → end ≡ i
kept_end Start t b end i e h = h
kept_end Plain t b end i e h = h
kept_end Quoted t b end i e h = h
kept_end AfterQuote t b end i e h = absurd (grind (arith, nat_tests))

-- the fields done and the field so far, from start to end, lead on to the line's fields
pub record Sofar (line : List ℕ) (s : State) (done : List (List ℕ)) (start end i : ℕ) : Type 0 where
  pub goes : joined done (cut s (between start end line) (drop i line)) ≡ cut_line line
  pub order : start ≤ end
  pub low : end ≤ i
  pub close : Tight s end i

begun : (line : List ℕ) → Sofar line Start [] 0 0 0
begun line = record { goes = joined_none (cut_line line); order = omega arith; low = omega arith; close = refl }

none_between : (line : List ℕ) (i : ℕ) → between i i line ≡ []
none_between line i = let e : i - i ≡ 0 = omega arith in ap (λ n. take n (drop i line)) e

module _ {line : List ℕ} {s : State} {done : List (List ℕ)} {start end i : ℕ} (h : Sofar line s done start end i) (lt : i < length line) where
  goes_on : (x : Step) → x ≡ step s (get_or line i 0)
      → joined done (onward x (between start end line) (get_or line i 0) (drop (i + 1) line)) ≡ cut_line line
  goes_on x e =
      let field = between start end line in
      let turn = by_step s field (get_or line i 0) (drop (i + 1) line) x e in
      ap (joined done) (sym turn ∙ sym (at_drop_more (cut s field) line i 0 lt)) ∙ h.goes

  pub opened : opens ≡ step s (get_or line i 0) → Sofar line Quoted done (i + 1) (i + 1) (i + 1)
  opened e = record { goes = rw none_between (goes_on opens e); order = omega arith; low = omega arith; close = refl }

  pub kept : (t : State) → keeps t ≡ step s (get_or line i 0) → Sofar line t done start (i + 1) (i + 1)
  kept t e =
      let at : end ≡ i = kept_end s t _ end i e h.close in
      let from : start ≤ i = omega (arith, h.order) in
      let field : between start (i + 1) line ≡ between start end line ++ get_or line i 0 ∷ [] =
      between_more line start i 0 from lt ∙ ap (λ k. between start k line ++ get_or line i 0 ∷ []) (sym at) in
      record {
        goes = ap (λ f. joined done (cut t f (drop (i + 1) line))) field ∙ goes_on (keeps t) e;
        order = omega (arith, h.order, h.low);
        low = omega arith;
        close = tight t (i + 1);
      }

  pub closed : closes ≡ step s (get_or line i 0) → Sofar line AfterQuote done start end (i + 1)
  closed e = record { goes = goes_on closes e; order = h.order; low = omega (arith, h.low); close = tt }

  pub ended : ends ≡ step s (get_or line i 0) → Sofar line Start (done ++ between start end line ∷ []) (i + 1) (i + 1) (i + 1)
  ended e = record {
    goes = rw none_between (sym (joined_onto done (between start end line) _) ∙ goes_on ends e);
    order = omega arith;
    low = omega arith;
    close = refl;
  }

  pub failed : breaks ≡ step s (get_or line i 0) → cut_line line ≡ broken done
  failed e = sym (goes_on breaks e) ∙ ap broken (append-nil done)

finished : (s : State) (field : List ℕ) → (s ≡ Quoted → ⊥) → finish s field ≡ whole (field ∷ [])
finished Start field n = refl
finished Plain field n = refl
finished Quoted field n = absurd (n refl)
finished AfterQuote field n = refl

-- at the end of the line
module _ {line : List ℕ} {s : State} {done : List (List ℕ)} {start end i : ℕ} (h : Sofar line s done start end i) (le : length line ≤ i) where
  at_end : joined done (finish s (between start end line)) ≡ cut_line line
  at_end = sym (ap (joined done) (at_drop_all (cut s (between start end line)) line i le)) ∙ h.goes

  pub unclosed : s ≡ Quoted → cut_line line ≡ broken done
  unclosed e = sym at_end ∙ ap (λ t. joined done (finish t (between start end line))) e ∙ ap broken (append-nil done)

  pub completed : (s ≡ Quoted → ⊥) → cut_line line ≡ whole (done ++ between start end line ∷ [])
  completed n = sym at_end ∙ ap (joined done) (finished s (between start end line) n)

filled_none : (places : List (List ℕ)) → filled places [] ≡ places
filled_none [] = refl
filled_none (p ∷ ps) = refl

-- one more field, at its place or past the last
filled_more : (places fields : List (List ℕ)) (f : List ℕ)
    → set (filled places fields) (length fields) f ≡ filled places (fields ++ f ∷ [])
filled_more [] [] f = refl
filled_more [] (x ∷ xs) f = refl
filled_more (p ∷ ps) [] f = ap (λ x. f ∷ x) (sym (filled_none ps))
filled_more (p ∷ ps) (x ∷ xs) f = ap (λ y. x ∷ y) (filled_more ps xs f)

-- as many fields as places: just the fields
pub filled_all : (places fields : List (List ℕ)) → length fields ≡ length places → filled places fields ≡ fields
filled_all [] [] e = refl
filled_all [] (x ∷ xs) e = absurd (omega arith)
filled_all (p ∷ ps) [] e = absurd (omega arith)
filled_all (p ∷ ps) (x ∷ xs) e = ap (λ y. x ∷ y) (filled_all ps xs (omega arith))

-- the fields done are counted, and stand at their places
pub record Held (line : List ℕ) (s : State) (before out : List (List ℕ)) (count start end i : ℕ) : Type 0 where
  pub done : List (List ℕ)
  pub sofar : Sofar line s done start end i
  pub counted : count ≡ length done
  pub low : count ≤ i
  pub holds : out ≡ filled before done

pub at_start : (line : List ℕ) (before : List (List ℕ)) → Held line Start before before 0 0 0 0
at_start line before = record {
  done = [];
  sofar = begun line;
  counted = refl;
  low = omega arith;
  holds = sym (filled_none before);
}

module _ {line : List ℕ} {s : State} {before out : List (List ℕ)} {count start end i : ℕ} (h : Held line s before out count start end i) where
  -- the same fields, one byte on
  pub on : {t : State} {a e : ℕ} → Sofar line t h.done a e (i + 1) → Held line t before out count a e (i + 1)
  on so = record { done = h.done; sofar = so; counted = h.counted; low = omega (arith, h.low); holds = h.holds }

  one_put : {out' : List (List ℕ)} (f : List ℕ) → out' ≡ set out count f → out' ≡ filled before (h.done ++ f ∷ [])
  one_put f w = w ∙ (λ k. set (h.holds k) (h.counted k) f) ∙ filled_more before h.done f

  -- one field more
  pub one_more : {t : State} {out' : List (List ℕ)} {a e : ℕ} (f : List ℕ)
      → Sofar line t (h.done ++ f ∷ []) a e (i + 1) → out' ≡ set out count f → Held line t before out' (count + 1) a e (i + 1)
  one_more f so w = record {
    done = h.done ++ f ∷ [];
    sofar = so;
    counted = omega (arith, length_push h.done f, h.counted);
    low = omega (arith, h.low);
    holds = one_put f w;
  }

  -- what is left at a malformed field
  pub stopped : cut_line line ≡ broken h.done
      → Answer (cut_line line) (Err (record { field = count + 1 })) × (out ≡ filled before (found (cut_line line)))
  stopped e =
      let same = ap found e in
      ((e ∙ ap broken (sym same), omega (arith, ap length same, h.counted)), h.holds ∙ ap (filled before) (sym same))

  -- what is left once the last field stands at its place
  pub finished_at : {out' : List (List ℕ)} (f : List ℕ) → cut_line line ≡ whole (h.done ++ f ∷ []) → out' ≡ set out count f
      → Answer (cut_line line) (Ok (count + 1)) × (out' ≡ filled before (found (cut_line line)))
  finished_at f e w =
      let same = ap found e in (
        (e ∙ ap whole (sym same), omega (arith, ap length same, length_push h.done f, h.counted)),
        one_put f w ∙ ap (filled before) (sym same),
      )
