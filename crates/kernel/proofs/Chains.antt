-- What chains of iterators give, in the words that the contracts use.
use Rattle.std.proofs.Common.{◌≡◌, ℕ, zero, suc, Bool, true, false, cond, ◌&&◌, eqb, List, [], ◌∷◌, map, slice_get, Some, None, Option, refl, sym, ap, ◌∙◌, subst, add-one, arith}
use Rattle.std.specs.Option.{ok_or}
use Rattle.std.specs.Fn.{CalledAt}
use Rattle.std.specs.declared.iter.Filter.{Filter}
use Rattle.std.specs.declared.slice.Iter.{Iter}
use Rattle.std.specs.Slice.Iter.{iter_rest, iter_steps}
use Rattle.std.specs.Iterator.{Yields}
use Rattle.std.specs.Iterator.Adapters.{filter_source, filter_callee, filter_steps}
use Rattle.std.specs.List.{filter, list_all, range_with_len, FoldsTo}
use Rattle.std.proofs.Math.Bool.{and-true}
use Rattle.std.proofs.lemmas.Iterator.{YieldsList}
use Rattle.std.proofs.lemmas.List.{nil_from_length}
use Rattle.std.proofs.lemmas.Iterator.Consumers.{YieldsList-from_filter, YieldsList-at}
use Rattle.std.proofs.lemmas.List.Folds.{list_all-append, list_all-map}
use Rattle.std.proofs.lemmas.List.FromFn.{map-range_with_len_more}
use denote.Ref.{Bor}
use denote.Param.Members.{Mut}
use Rattle.model.specs.declared.record.Record.{Record}
use Rattle.model.specs.Lists.{at, each}
use Rattle.model.specs.declared.refusal.Refusal.TheVariants.{NoSuch}
use Rattle.simulation.specs.View.{history}
use Rattle.simulation.specs.Calls.{found}

-- A history is the records that name the process.
history_is : (p : ℕ) (rs : List Record) → history p rs ≡ filter (λ r. eqb r.process p) rs
history_is p [] = refl
history_is p (r ∷ rs) = ap (λ t. cond (eqb r.process p) (r ∷ t) t) (history_is p rs)

-- A chain that gives a log, filtered by a process, gives its history.
pub records_of : {S A F : Type 0} {steps : S → Option A → S → Type 0} {v : A → Record} {s : Filter S F} {t : S} {f : F} (g : Mut F (Bor A × Unit {0}) Bool) (p : ℕ) {rs : List Record}
    → YieldsList steps v t rs → filter_source s ≡ t → filter_callee s ≡ f
    → ((x : A) (b : Bool) (q : F) → CalledAt g f x b q → (q ≡ f) × (b ≡ eqb (v x).process p)) → YieldsList (filter_steps steps g) v s (history p rs)
records_of {steps = steps} {v = v} {s = s} g p {rs} given source callee tests =
    subst (YieldsList (filter_steps steps g) v s) (sym (history_is p rs))
    (YieldsList-from_filter g (λ r. eqb r.process p) (YieldsList-at source given) callee tests)

-- A call of `next` on a log that is filtered by a process.
module _ {F : Type 0} (g : Mut F (Bor (Bor Record) × Unit {0}) Bool) (p : ℕ) (f : F) where
  -- A call of the test changes nothing, and says whether a record is the process's.
  abbrev pub TestsProcess : Type 0
  TestsProcess = (x : Bor Record) (b : Bool) (q : F) → CalledAt g f x b q → (q ≡ f) × (b ≡ eqb x.now.process p)

  -- What is passed over is not the process's.
  passes : TestsProcess → (xs : List (Bor Record)) (i j : Iter Record) (q e : F) → q ≡ f → Yields iter_steps i xs j
      → FoldsTo (λ y x z. CalledAt g y x false z) q xs e → (e ≡ f) × (history p (iter_rest i) ≡ history p (iter_rest j))
  passes k [] i j q e same y c = (sym c ∙ same, ap (λ s. history p (iter_rest s)) y)
  passes k (x ∷ xs) i j q e same y c =
      let here = k x false c.0 (subst (λ z. CalledAt g z x false c.0) same c.1) in
      let rest = passes k xs y.0 j c.0 e here.0 y.2 c.2 in
      let more = history p (iter_rest y.0) in
      (rest.0, ap (history p) y.1 ∙ ap (λ b. cond b (x.now ∷ more) more) (sym here.1) ∙ rest.1)

  -- A record that comes is the next of the history.
  pub next_is : (s t : Filter (Iter Record) F) (r : Option (Bor Record)) (x : Bor Record) → r ≡ Some x → filter_callee s ≡ f
      → filter_steps iter_steps g s r t → TestsProcess
      → (filter_callee t ≡ f) × (history p (iter_rest (filter_source s)) ≡ x.now ∷ history p (iter_rest (filter_source t)))
  next_is s t r x is same steps k =
      let n = subst (λ o. filter_steps iter_steps g s o t) is steps in
      let past = passes k n.0 (filter_source s) n.2.0 (filter_callee s) n.1 same n.2.1 n.3 in
      let here = k x true (filter_callee t) (subst (λ z. CalledAt g z x true (filter_callee t)) past.0 n.4) in
      let more = history p (iter_rest (filter_source t)) in
      (here.0, past.1 ∙ ap (history p) n.2.2 ∙ ap (λ b. cond b (x.now ∷ more) more) (sym here.1))

  -- Where none comes, no record of the history is left.
  pub none_left : (s t : Filter (Iter Record) F) (r : Option (Bor Record)) → r ≡ None → filter_callee s ≡ f
      → filter_steps iter_steps g s r t → TestsProcess → history p (iter_rest (filter_source s)) ≡ []
  none_left s t r is same steps k =
      let n = subst (λ o. filter_steps iter_steps g s o t) is steps in
      let past = passes k n.0 (filter_source s) n.2.0 (filter_callee s) n.1 same n.2.1 n.3 in
      past.1 ∙ ap (history p) {x = iter_rest n.2.0} (nil_from_length _ n.2.2.0)

-- The element at a place is the one that `get` gives.
pub at_is : {A : Type 0} (xs : List A) (n : ℕ) → at xs n ≡ slice_get xs n
at_is [] n = refl
at_is (x ∷ xs) zero = refl
at_is (x ∷ xs) (suc n) = at_is xs n

-- A record that is not there is refused.
pub found_is : (r : Option Record) → ok_or r NoSuch ≡ found r
found_is None = refl
found_is (Some r) = refl

-- A test of each number below n is the test of all numbers in the range.
pub each_is : (n : ℕ) (test : ℕ → Bool) → each n test ≡ list_all test (range_with_len 0 n)
each_is n test = sym (along n) ∙ list_all-map (λ b. b) test (range_with_len 0 n)
  where
    along : (m : ℕ) → list_all (λ b. b) (map test (range_with_len 0 m)) ≡ each m test
    along zero = refl
    along (suc m) =
        ap (λ k. list_all (λ b. b) (map test (range_with_len 0 k))) (sym (add-one m))
        ∙ ap (list_all (λ b. b)) (map-range_with_len_more test 0 m m (omega arith))
        ∙ list_all-append (λ b. b) (map test (range_with_len 0 m)) (test m ∷ [])
        ∙ ap (λ b. b && (test m && true)) (along m) ∙ ap (λ b. each m test && b) (and-true (test m))
