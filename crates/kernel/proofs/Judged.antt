-- The judgement of a sending is its breach, or else lets it go out.
use Rattle.std.proofs.Common.{◌≡◌, ℕ, zero, suc, ◌+◌, ◌<◌, ◌≤◌, Bool, true, false, cond, ltb, List, [], ◌∷◌, length, get_or, Some, None, Ok, Err, Option, Result, sym, refl, ap, ◌∙◌, ⊎_elim, arith, rules}
use Rattle.std.proofs.lemmas.Bool.{cases_lt, lt-ltb, le-ltb, true≢false}
use Rattle.model.specs.declared.sending.Sending.{Sending}
use Rattle.model.specs.declared.refusal.Breach.{Breach}
use Rattle.model.specs.declared.refusal.Cause.TheVariants.{Early, TooFar, Overtaking}
use Rattle.model.specs.Lists.{then}
use Rattle.model.specs.Pile.{Pile, last_time}
use Rattle.model.specs.Shape.{Shape, out_links}
use Rattle.model.proofs.Places.{at_read, at_past}
use Rattle.simulation.specs.Net.{Outgoing, outgoing, breach_of}
use Rattle.simulation.specs.Step.{first_full}
use Rattle.kernel.specs.declared.sending.Going.{Going}
use Rattle.kernel.specs.Places.{Below}
use Rattle.kernel.specs.Judging.{borne, judged, MayGo}

-- What goes out, as the rules speak of it.
abbrev pub as_outgoing : {C : Type 0} → Option (Going C) → Option (Outgoing C)
as_outgoing None = None
as_outgoing (Some x) = Some (record { link = x.link; time = x.time; cargo = x.cargo })

-- A breach, or else what goes out.
abbrev settled : {C : Type 0} → Option Breach → Option (Going C) → Result (Option (Going C)) Breach
settled None x = Ok x
settled (Some b) x = Err b

module _ {C : Type 0} (m : Pile C) (plan : Shape) (p earliest : ℕ) where
  abbrev outs : List ℕ
  outs = out_links plan p

  abbrev broken : Option (Outgoing C) → Option Breach
  broken = breach_of p earliest m.delay m.floor

  -- The three tests, one after the other.
  by_tests : (early far low : Bool) (k t : ℕ) (x : Option (Going C))
      → cond early (Err (record { process = p; link = k; time = t; cause = Early }))
      (cond far (Err (record { process = p; link = k; time = t; cause = TooFar }))
      (cond low (Err (record { process = p; link = k; time = t; cause = Overtaking })) (Ok x)))
      ≡ settled (then (cond early (Some Early) (cond far (Some TooFar) (cond low (Some Overtaking) None)))
      (λ cause. Some (record { process = p; link = k; time = t; cause = cause }))) x
  by_tests true far low k t x = refl
  by_tests false true low k t x = refl
  by_tests false false true k t x = refl
  by_tests false false false k t x = refl

  -- What the code makes of a sending.
  record Judgement (o : Option (Sending C)) : Type 0 where
    goes : Option (Going C)
    same : as_outgoing goes ≡ outgoing plan p o
    is : judged m p outs earliest o ≡ settled (broken (outgoing plan p o)) goes

  judgement : (o : Option (Sending C)) → Judgement o
  judgement None = record { goes = None; same = refl; is = refl }
  judgement (Some y) = ⊎_elim
      (λ (short : y.port < length outs).
      let k = get_or outs y.port 0 in
      let going : Going C = record { link = k; time = y.time; cargo = y.cargo } in
      let out : outgoing plan p (Some y) ≡ as_outgoing (Some going) =
      ap (λ o. then o (λ j. Some (record { link = j; time = y.time; cargo = y.cargo }))) (at_read outs y.port 0 short) in
      record {
        goes = Some going;
        same = sym out;
        is = ap (λ b. cond b (borne m p k earliest y) (Ok None)) (lt-ltb y.port (length outs) short)
            ∙ by_tests (ltb y.time earliest) (ltb last_time y.time) (ltb (y.time + m.delay k) (m.floor k)) k y.time (Some going)
            ∙ ap (λ o. settled (broken o) (Some going)) (sym out);
      })
      (λ (past : length outs ≤ y.port).
      let out : outgoing plan p (Some y) ≡ None =
      ap (λ o. then o (λ j. Some (record { link = j; time = y.time; cargo = y.cargo }))) (at_past outs y.port past) in
      record {
        goes = None;
        same = sym out;
        is = ap (λ b. cond b (borne m p (get_or outs y.port 0) earliest y) (Ok None)) (le-ltb y.port (length outs) past)
            ∙ ap (λ o. settled (broken o) None) (sym out);
      })
      (cases_lt y.port (length outs))

  -- What a judgement that lets go says.
  pub record Lets (o : Option (Sending C)) (x : Option (Going C)) : Type 0 where
    pub kept : broken (outgoing plan p o) ≡ None
    pub out : outgoing plan p o ≡ as_outgoing x

  lets_by : (o : Option (Sending C)) (x y : Option (Going C)) (b : Option Breach) → broken (outgoing plan p o) ≡ b
      → as_outgoing y ≡ outgoing plan p o → settled b y ≡ Ok x → Lets o x
  lets_by o x y None is same e = let z : y ≡ x = cc in record { kept = is; out = sym same ∙ ap as_outgoing z }
  lets_by o x y (Some c) is same e = absurd (let z : false ≡ true = ap (λ r. elim r [ Ok a ↦ true | Err a ↦ false ]) e in true≢false (sym z))

  pub lets : (o : Option (Sending C)) (x : Option (Going C)) → judged m p outs earliest o ≡ Ok x → Lets o x
  lets o x e =
      let j = judgement o in
      lets_by o x j.goes (broken (outgoing plan p o)) refl j.same (sym j.is ∙ e)

  breaks_by : (b : Breach) (y : Option (Going C)) (c : Option Breach) → settled c y ≡ Err b → c ≡ Some b
  breaks_by b y None e = absurd (let z : true ≡ false = ap (λ r. elim r [ Ok a ↦ true | Err a ↦ false ]) e in true≢false z)
  breaks_by b y (Some c) e = let z : c ≡ b = cc in ap Some z

  -- What a judgement that is a breach says.
  pub breaks : (o : Option (Sending C)) (b : Breach) → judged m p outs earliest o ≡ Err b → broken (outgoing plan p o) ≡ Some b
  breaks o b e = let j = judgement o in breaks_by b j.goes (broken (outgoing plan p o)) (sym j.is ∙ e)

-- Where no link is full, each has a place.
pub none_full : {C : Type 0} (m : Pile C) (ks : List ℕ) → first_full m ks ≡ None → (a : ℕ) → a < length ks → 0 < m.free (get_or ks a 0)
none_full m [] e a l = absurd (omega arith)
none_full m (k ∷ ks) e zero l = search rules
none_full m (k ∷ ks) e (suc a) l = none_full m ks (search rules) a (omega arith)

-- What is let go can be put, where no out-link is full.
pub may_go : {C : Type 0} (m : Pile C) (p : ℕ) (ks : List ℕ) (t : ℕ) (o : Option (Sending C)) (x : Option (Going C)) → Below m.count ks
    → ((a : ℕ) → a < length ks → 0 < m.free (get_or ks a 0)) → judged m p ks t o ≡ Ok x → MayGo m x
may_go m p ks t None x below free e = search rules
may_go m p ks t (Some y) x below free e = let r = free y.port in let k = below y.port in search rules
