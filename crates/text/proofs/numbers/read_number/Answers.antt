use Rattle.std.proofs.Common.{◌+◌, ◌*◌, sym, ap, arith}
use Rattle.text.proofs.ReadBack.{at_end, at_no_digit, next, padded, past_limit}
use Rattle.text.proofs.numbers.read_number.Goals as goal

pub returns-then-not-is_ascii_digit : goal.returns-then-not-is_ascii_digit
returns-then-not-is_ascii_digit c =
    at_no_digit _ _ _ c.loop-byte.invariant c.loop-byte-test.true (sym c.if-not-is_ascii_digit.ensures.value)

pub returns-then-value-gt-LARGEST : goal.returns-then-value-gt-LARGEST
returns-then-value-gt-LARGEST c =
    past_limit _ _ _ c.loop-byte.invariant c.loop-byte-test.true _
    (ap (λ d. c.loop-byte.value * 10 + d) c.from.ensures) (omega arith)

pub loop-byte-preserved : goal.loop-byte-preserved
loop-byte-preserved c =
    next _ _ _ c.loop-byte.invariant c.loop-byte-test.true (sym c.if-not-is_ascii_digit.ensures.value) _
    (ap (λ d. c.loop-byte.value * 10 + d) c.from.ensures) (omega arith)

pub returns : goal.returns
returns c = at_end _ _ _ c.loop-byte.invariant c.loop-byte-test.false (sym c.if-not-is_unpadded.ensures)

pub returns-then-not-is_unpadded : goal.returns-then-not-is_unpadded
returns-then-not-is_unpadded c = padded _ (sym c.if-not-is_unpadded.ensures)
