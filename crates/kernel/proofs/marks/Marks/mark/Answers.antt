use Rattle.std.proofs.Common.{◌≡◌, ℕ, ◌+◌, ◌*◌, ◌%◌, ◌^◌, ◌<◌, min, true, false, cond, sym, refl, ap, ◌∙◌, arith, eq-eqb, ne_eqb}
use lib.Bits.{bit_or}
use Rattle.std.proofs.lemmas.Nat.{one_shl}
use Rattle.model.specs.Lists.{update}
use Rattle.kernel.specs.Bits.{bit}
use Rattle.kernel.proofs.Words.{none_set, word_fits, word_marks, word_full}
use Rattle.kernel.proofs.marks.Marks.mark.Goals as goal

-- The word that the code makes has the process's digit set.
shifted : (w p : ℕ) → p < 64 → bit_or w ((1 * 2 ^ p) % 18446744073709551616) ≡ bit_or w (2 ^ p)
shifted w p h = ap (bit_or w) (one_shl p 64 h)

pub invariant_of-self-else-word-self : goal.invariant_of-self-else-word-self
invariant_of-self-else-word-self c =
    let s = c.args.self.now in
    let set = shifted s.word c.args.process (omega (arith, s.few, c.requires)) in
    record { few = s.few; within = word_fits s.processes s.word c.args.process _ c.requires s.within set }

pub returns-then-word-self : goal.returns-then-word-self
returns-then-word-self c =
    let s = c.args.self.now in
    let p = c.args.process in
    let set = shifted s.word p (omega (arith, s.few, c.requires)) in
    let full = sym (eq-eqb _ _ c.if-word-self.true) ∙ word_full s.processes s.word p _ c.requires s.within set in
    record {
      marked = λ q. none_set q ∙ ap (λ b. cond b false (update (bit s.word) p true q)) full;
      rounds = c.saturating_add-self.ensures ∙ ap (λ b. cond b (min (s.rounds + 1) 4294967295) s.rounds) full;
      processes = refl;
    }

pub returns-else-word-self : goal.returns-else-word-self
returns-else-word-self c =
    let s = c.args.self.now in
    let p = c.args.process in
    let set = shifted s.word p (omega (arith, s.few, c.requires)) in
    let open_yet = sym (ne_eqb _ _ c.if-word-self.false) ∙ word_full s.processes s.word p _ c.requires s.within set in
    record {
      marked = λ q. word_marks s.processes s.word p _ c.requires s.within set q
          ∙ ap (λ b. cond b false (update (bit s.word) p true q)) open_yet;
      rounds = ap (λ b. cond b (min (s.rounds + 1) 4294967295) s.rounds) open_yet;
      processes = refl;
    }
