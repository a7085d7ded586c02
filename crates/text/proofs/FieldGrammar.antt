-- A line is cut as its grammar parts it.
use Rattle.std.proofs.Common.{◌≡◌, ℕ, List, [], ◌∷◌, ◌++◌, sym, refl, ap, ◌∙◌, subst, append_assoc, arith}
use Rattle.std.specs.List.{AllByRecursion}
use Rattle.std.proofs.ByRecursion.{All-push}
use Rattle.std.proofs.lemmas.List.{append-nil}
use Rattle.std.proofs.lemmas.Bool.Decides.{nat_tests}
use Rattle.text.specs.Fields.{Step, opens, keeps, closes, ends, breaks, step}
use Rattle.text.specs.Fields.{Cut, whole, broken, cut, cut_line, onto}
use Rattle.text.specs.Grammar.{Bare, Quotable, Written, bare, quoted}
use Rattle.text.specs.Grammar.{Grammar, NoField, Parted, fault, last, more}
use Rattle.text.specs.declared.fields.State.{State}
use Rattle.text.specs.declared.fields.State.TheVariants.{Start, Plain, Quoted, AfterQuote}
use Rattle.text.proofs.FieldSteps.{by_step, onward}

-- bytes that a field keeps are read one after another
runs : (s : State) (P : ℕ → Type 0) → ((b : ℕ) → P b → keeps s ≡ step s b) → (field sofar rest : List ℕ) → AllByRecursion P field
    → cut s sofar (field ++ rest) ≡ cut s (sofar ++ field) rest
runs s P k [] sofar rest h = ap (λ f. cut s f rest) (sym (append-nil sofar))
runs s P k (b ∷ field) sofar rest h =
    by_step s sofar b (field ++ rest) (keeps s) (k b h.0)
    ∙ runs s P k field (sofar ++ b ∷ []) rest h.1
    ∙ ap (λ f. cut s f rest) (append_assoc sofar (b ∷ []) field)

start_keeps : (b : ℕ) → Bare b → keeps Plain ≡ step Start b
start_keeps b h = grind (arith, nat_tests)

plain_keeps : (b : ℕ) → Bare b → keeps Plain ≡ step Plain b
plain_keeps b h = grind (arith, nat_tests)

quoted_keeps : (b : ℕ) → Quotable b → keeps Quoted ≡ step Quoted b
quoted_keeps b h = grind (arith, nat_tests)

read_bare : (b : ℕ) (field rest : List ℕ) → AllByRecursion Bare (b ∷ field) → cut_line (b ∷ field ++ rest) ≡ cut Plain (b ∷ field) rest
read_bare b field rest h =
    by_step Start [] b (field ++ rest) (keeps Plain) (start_keeps b h.0)
    ∙ runs Plain Bare plain_keeps field (b ∷ []) rest h.1

read_quoted : (field rest : List ℕ) → AllByRecursion Quotable field → cut_line (34 ∷ field ++ 34 ∷ rest) ≡ cut AfterQuote field rest
read_quoted field rest h = runs Quoted Quotable quoted_keeps field [] (34 ∷ rest) h

last_bare : (field : List ℕ) → AllByRecursion Bare field → cut_line field ≡ whole (field ∷ [])
last_bare [] h = refl
last_bare (b ∷ bs) h = ap cut_line (sym (append-nil (b ∷ bs))) ∙ read_bare b bs [] h

more_bare : (field rest : List ℕ) → AllByRecursion Bare field → cut_line (field ++ 44 ∷ rest) ≡ onto field (cut_line rest)
more_bare [] rest h = refl
more_bare (b ∷ bs) rest h = read_bare b bs (44 ∷ rest) h

-- a field up to the end of the line
read_last : {field text : List ℕ} → Written field text → cut_line text ≡ whole (field ∷ [])
read_last (bare {field} h) = last_bare field h
read_last (quoted {field} h) = read_quoted field [] h

-- and up to a comma
read_more : {field text : List ℕ} (rest : List ℕ) → Written field text
    → cut_line (text ++ 44 ∷ rest) ≡ onto field (cut_line rest)
read_more rest (bare {field} h) = more_bare field rest h
read_more rest (quoted {field} h) =
    ap (λ x. cut_line (34 ∷ x)) (append_assoc field (34 ∷ []) (44 ∷ rest)) ∙ read_quoted field (44 ∷ rest) h

-- a cut that begins with a field is not broken at the first
no_onto : (field : List ℕ) (k : Cut) → broken [] ≡ onto field k → ⊥
no_onto field (whole fields) e = cc
no_onto field (broken fields) e = cc

-- so where it is, no field stands there
faulty : (line : List ℕ) → cut_line line ≡ broken [] → Parted line (broken [])
faulty line e =
    fault (λ field text rest w. (
      (λ p. let q = sym e ∙ ap cut_line p ∙ read_last w in cc),
      λ p. no_onto field (cut_line rest) (sym e ∙ ap cut_line p ∙ read_more rest w),
    ))

-- how the field so far is written, at each state
abbrev Begun : State → List ℕ → List ℕ → Type 0
Begun Start field text = (field ≡ []) × (text ≡ [])
Begun Plain field text = AllByRecursion Bare field × (text ≡ field)
Begun Quoted field text = AllByRecursion Quotable field × (text ≡ 34 ∷ field)
Begun AfterQuote field text = AllByRecursion Quotable field × (text ≡ 34 ∷ field ++ 34 ∷ [])

-- a byte is kept in one state alone
kept_in : (u t : State) (field text : List ℕ) → keeps t ≡ keeps u → Begun u field text → Begun t field text
kept_in u t field text e g = let same : u ≡ t = cc in subst (λ s. Begun s field text) same g

module _ (field text : List ℕ) (b : ℕ) where
  opened : (s : State) → Begun s field text → opens ≡ step s b → Begun Quoted [] (text ++ b ∷ [])
  opened Start g e = let p : b ≡ 34 = grind (arith, nat_tests) in (tt, (λ i. g.1 i ++ p i ∷ []))
  opened Plain g e = absurd (grind (arith, nat_tests))
  opened Quoted g e = absurd (grind (arith, nat_tests))
  opened AfterQuote g e = absurd (grind (arith, nat_tests))

  kept : (s t : State) → Begun s field text → keeps t ≡ step s b → Begun t (field ++ b ∷ []) (text ++ b ∷ [])
  kept Start t g e =
      let q : Bare b = grind (arith, nat_tests) in
      kept_in Plain t _ _ (grind (arith, nat_tests)) (rw (g.0, g.1) ((q, tt), refl))
  kept Plain t g e =
      let q : Bare b = grind (arith, nat_tests) in
      kept_in Plain t _ _ (grind (arith, nat_tests)) (All-push Bare field b g.0 q, ap (λ x. x ++ b ∷ []) g.1)
  kept Quoted t g e =
      let q : Quotable b = grind (arith, nat_tests) in
      kept_in Quoted t _ _ (grind (arith, nat_tests)) (All-push Quotable field b g.0 q, ap (λ x. x ++ b ∷ []) g.1)
  kept AfterQuote t g e = absurd (grind (arith, nat_tests))

  closed : (s : State) → Begun s field text → closes ≡ step s b → Begun AfterQuote field (text ++ b ∷ [])
  closed Start g e = absurd (grind (arith, nat_tests))
  closed Plain g e = absurd (grind (arith, nat_tests))
  closed Quoted g e = let p : b ≡ 34 = grind (arith, nat_tests) in (g.0, (λ i. g.1 i ++ p i ∷ []))
  closed AfterQuote g e = absurd (grind (arith, nat_tests))

ended : (s : State) (b : ℕ) → ends ≡ step s b → (b ≡ 44) × (s ≡ Quoted → ⊥)
ended Start b e = grind (arith, nat_tests)
ended Plain b e = grind (arith, nat_tests)
ended Quoted b e = absurd (grind (arith, nat_tests))
ended AfterQuote b e = grind (arith, nat_tests)

-- a field is written, unless a quote is open
written : (s : State) (field text : List ℕ) → Begun s field text → (s ≡ Quoted → ⊥) → Written field text
written Start field text g n = subst (λ t. Written field t) (g.0 ∙ sym g.1) (bare (subst (AllByRecursion Bare) (sym g.0) tt))
written Plain field text g n = subst (λ t. Written field t) (sym g.1) (bare g.0)
written Quoted field text g n = absurd (n refl)
written AfterQuote field text g n = subst (λ t. Written field t) (sym g.1) (quoted g.0)

-- reading the text of a field leads to a state and the field so far
abbrev Reached : State → List ℕ → List ℕ → Type 0
Reached s field text = (rest : List ℕ) → cut_line (text ++ rest) ≡ cut s field rest

-- from there the bytes to come part the line
abbrev Parts : List ℕ → Type 0
Parts bs =
    (s : State) (field text : List ℕ) → Begun s field text → Reached s field text → Parted (text ++ bs) (cut s field bs)

no_more : Parts []
no_more Start field text g reached = rw append-nil (last (written Start field text g (λ q. cc)))
no_more Plain field text g reached = rw append-nil (last (written Plain field text g (λ q. cc)))
no_more Quoted field text g reached = faulty (text ++ []) (reached [])
no_more AfterQuote field text g reached = rw append-nil (last (written AfterQuote field text g (λ q. cc)))

module _ (b : ℕ) (bs : List ℕ) (parts : Parts bs) (s : State) (field text : List ℕ) (g : Begun s field text) (reached : Reached s field text) where
  goes_on : (x : Step) → x ≡ step s b → (rest : List ℕ) → cut_line ((text ++ b ∷ []) ++ rest) ≡ onward x field b rest
  goes_on x e rest = ap cut_line (append_assoc text (b ∷ []) rest) ∙ reached (b ∷ rest) ∙ by_step s field b rest x e

  regrouped : {k : Cut} → Parted ((text ++ b ∷ []) ++ bs) k → Parted (text ++ b ∷ bs) k
  regrouped {k} p = subst (λ l. Parted l k) (append_assoc text (b ∷ []) bs) p

  one_more : (x : Step) → x ≡ step s b → Parted (text ++ b ∷ bs) (onward x field b bs)
  one_more opens e = regrouped (parts Quoted [] (text ++ b ∷ []) (opened field text b s g e) (goes_on opens e))
  one_more (keeps t) e =
      regrouped (parts t (field ++ b ∷ []) (text ++ b ∷ []) (kept field text b s t g e) (goes_on (keeps t) e))
  one_more closes e = regrouped (parts AfterQuote field (text ++ b ∷ []) (closed field text b s g e) (goes_on closes e))
  one_more ends e =
      let p = ended s b e in
      subst (λ a. Parted (text ++ a ∷ bs) (onto field (cut_line bs))) (sym p.0)
      (more (written s field text g p.1) (parts Start [] [] (refl, refl) (λ rest. refl)))
  one_more breaks e = faulty (text ++ b ∷ bs) (reached (b ∷ bs) ∙ by_step s field b bs breaks e)

parts_all : (bs : List ℕ) → Parts bs
parts_all [] = no_more
parts_all (b ∷ bs) = λ s field text g reached.
    subst (Parted (text ++ b ∷ bs)) (sym (by_step s field b bs (step s b) refl))
    (one_more b bs (parts_all bs) s field text g reached (step s b) refl)

cut_parted : (line : List ℕ) → Parted line (cut_line line)
cut_parted line = parts_all line Start [] [] (refl, refl) (λ rest. refl)

-- without a first field there is no other way
broken_first : {line : List ℕ} {k : Cut} → Parted line k → NoField line → broken [] ≡ k
broken_first (last {field} {text} w) n = absurd ((n field text [] w).0 refl)
broken_first (more {field} {text} {rest} w p) n = absurd ((n field text rest w).1 refl)
broken_first (fault f) n = refl

parted_cut : {line : List ℕ} {k : Cut} → Parted line k → k ≡ cut_line line
parted_cut (last w) = sym (read_last w)
parted_cut (more {field} {text} {rest} w p) = ap (onto field) (parted_cut p) ∙ sym (read_more rest w)
parted_cut (fault {bytes} n) = broken_first (cut_parted bytes) n

pub grammar : (line : List ℕ) → Grammar line
grammar line = record { parted = cut_parted line; only = λ k p. parted_cut p }
