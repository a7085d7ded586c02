-- Bytes put where they fit, and the length of a line.
use Rattle.std.proofs.Common.{◌≡◌, ℕ, ◌+◌, ◌^◌, ◌<◌, ◌≤◌, true, ◌&&◌, ltb, List, ◌++◌, length, drop, Some, None, Ok, Option, ap, ◌∙◌, append_assoc, arith, length-append}
use Rattle.std.proofs.lemmas.Bool.{and_parts, ltb-true}
use Rattle.model.specs.declared.record.Record.{Record}
use Rattle.text.specs.Decimal.{digits}
use Rattle.text.specs.Writing.{Placed, Puts}
use Rattle.text.proofs.TenthPart.{few_digits}
use Rattle.records.specs.declared.log.LogLine.{LogLine}
use Rattle.records.specs.Limits.{line_within}
use Rattle.records.specs.LogText.{comma, line_end, bytes_of, Written}

-- Bytes that fit are put.
pub placed : (before bytes after : List ℕ) (at end : ℕ) (r : Option (Unit {0}))
    → Puts before at bytes r end after → at + length bytes ≤ length before → Placed before at bytes end after
placed before bytes after at end (Some done) p l = p
placed before bytes after at end None p l = absurd (omega (arith, p.0.short))

-- How long the parts of a line are at most: 32 bytes in all.
pub record Short (e : Record) (n : ℕ) : Type 0 where
  pub process : length (digits e.process ++ comma) ≤ 3
  pub place : length (digits n ++ comma) ≤ 6
  pub time : length (digits e.time ++ comma) ≤ 7
  pub link : length (digits e.link ++ comma) ≤ 4

pub short : (e : Record) (n : ℕ) → line_within e n ≡ true → Short e n
short e n ok =
    let links = and_parts (ltb e.process 64 && ltb n 65536 && ltb e.time 1000000) (ltb e.link 128) ok in
    let times = and_parts (ltb e.process 64 && ltb n 65536) (ltb e.time 1000000) links.0 in
    let places = and_parts (ltb e.process 64) (ltb n 65536) times.0 in
    let process : e.process < 64 = ltb-true _ _ places.0 in
    let place : n < 65536 = ltb-true _ _ places.1 in
    let time : e.time < 1000000 = ltb-true _ _ times.1 in
    let link : e.link < 128 = ltb-true _ _ links.1 in
    let few : (k m : ℕ) → 0 < k → m < 10 ^ k → m < 2 ^ 64 → length (digits m ++ comma) ≤ k + 1
    = λ k m p h l. omega (arith, length-append (digits m) comma, few_digits k m p h l) in
    record {
      process = few 2 e.process (omega arith) (omega arith) (omega arith);
      place = few 5 n (omega arith) (omega arith) (omega arith);
      time = few 6 e.time (omega arith) (omega arith) (omega arith);
      link = few 3 e.link (omega arith) (omega arith) (omega arith);
    }

pub short_code : (code : ℕ) → code < 2 ^ 32 → length (digits code ++ line_end) ≤ 12
short_code code small =
    omega (arith, length-append (digits code) line_end, few_digits 10 code (omega arith) (omega arith) (omega arith))

-- The five parts, one behind another, are the line.
pub written : (before after left : List ℕ) (end : ℕ) (l : LogLine) (time code : ℕ) → 32 ≤ length before
    → time ≡ l.event.time → code ≡ l.event.code → left ≡ after
    → Placed before 0
    (((((digits l.event.process ++ comma) ++ (digits l.n ++ comma)) ++ (digits time ++ comma))
    ++ (digits l.event.link ++ comma)) ++ (digits code ++ line_end)) end after
    → Written before l (Ok end) left
written before after left end l time code long t k e p =
    let same : (((((digits l.event.process ++ comma) ++ (digits l.n ++ comma)) ++ (digits time ++ comma))
    ++ (digits l.event.link ++ comma)) ++ (digits code ++ line_end)) ≡ bytes_of l = simp (append_assoc, t, k) in
    ((λ few. omega arith), omega (arith, p.ends, ap length same), e ∙ p.holds ∙ ap (λ (x : List ℕ). x ++ drop end before) same)
