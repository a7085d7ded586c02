-- Bytes put into a buffer, one piece behind another.
use Rattle.std.proofs.Common.{◌≡◌, ℕ, ◌+◌, ◌-◌, ◌<◌, ◌≤◌, List, [], ◌∷◌, ◌++◌, length, take, drop, set, sym, refl, ap, ◌∙◌, append_assoc, add-one, arith, length-append}
use borrow.Rule.Slice.PartMut.{put_mid}
use Rattle.std.proofs.lemmas.List.{drop_at, drop-drop, length-drop, length-take-le, set_split, take-append-drop, take_at}
use Rattle.text.specs.Writing.{Placed}

-- nothing put
pub nothing : (buf : List ℕ) (at : ℕ) → at ≤ length buf → Placed buf at [] at buf
nothing buf at l = record { ends = omega arith; fits = l; holds = sym (take-append-drop at buf) }

-- one byte written
pub one_byte : (buf : List ℕ) (at b : ℕ) → at < length buf → Placed buf at (b ∷ []) (at + 1) (set buf at b)
one_byte buf at b l = record {
  ends = refl;
  fits = omega arith;
  holds = set_split buf at b l ∙ ap (λ k. take at buf ++ b ∷ drop k buf) (sym (add-one at));
}

-- a part of the buffer written over
pub placed : (before bytes part : List ℕ) (at end : ℕ)
    → end ≡ at + length bytes → end ≤ length before → part ≡ bytes
    → Placed before at bytes end (put_mid at (end - at) before part)
placed before bytes part at end e fits same =
    let back : at + (end - at) ≡ end = omega arith in
    record {
      ends = e;
      fits = fits;
      holds = (λ i. take at before ++ (same i ++ (drop-drop (end - at) at before ∙ ap (λ k. drop k before) back) i));
    }

module _ {before mid : List ℕ} {at a : ℕ} (xs : List ℕ) (p : Placed before at xs a mid) where
  front : List ℕ
  front = take at before ++ xs

  front_long : length front ≡ a
  unfolding front
  front_long =
      let begin : length (take at before) ≡ at = length-take-le at before (omega (arith, p.ends, p.fits)) in
      length-append (take at before) xs ∙ ap (λ k. k + length xs) begin ∙ sym p.ends

  whole : mid ≡ front ++ drop a before
  unfolding front
  whole = p.holds ∙ sym (append_assoc (take at before) xs (drop a before))

  pub length_kept : length mid ≡ length before
  length_kept =
      ap length whole ∙ length-append front (drop a before) ∙ omega (arith, front_long, length-drop a before, p.fits)

  -- two pieces, the second from where the first ends
  pub joined : {after : List ℕ} {b : ℕ} (ys : List ℕ) → Placed mid a ys b after → Placed before at (xs ++ ys) b after
  unfolding front
  joined {after} {b} ys q =
      let begin : take a mid ≡ front = ap (take a) whole ∙ take_at front (drop a before) a front_long in
      let rest : drop a mid ≡ drop a before = ap (drop a) whole ∙ drop_at front (drop a before) a front_long in
      let past : drop b mid ≡ drop b before =
      ap (λ k. drop k mid) q.ends ∙ sym (drop-drop (length ys) a mid) ∙ ap (drop (length ys)) rest
      ∙ drop-drop (length ys) a before ∙ ap (λ k. drop k before) (sym q.ends) in
      record {
        ends = omega (arith, p.ends, q.ends, length-append xs ys);
        fits = omega (arith, q.fits, length_kept);
        holds =
            q.holds
            ∙ (λ i. begin i ++ (ys ++ past i))
            ∙ append_assoc (take at before) xs (ys ++ drop b before)
            ∙ ap (λ x. take at before ++ x) (sym (append_assoc xs ys (drop b before)));
      }

-- bytes put at the front of a buffer are its part up to where they end
pub front_part : {before bytes after : List ℕ} {end : ℕ} → Placed before 0 bytes end after → take (end - 0) after ≡ bytes
front_part {before} {bytes} {after} {end} p =
    let e : end - 0 ≡ length bytes = omega (arith, p.ends) in
    ap (λ k. take k after) e ∙ ap (take (length bytes)) p.holds ∙ take_at bytes (drop end before) (length bytes) refl
