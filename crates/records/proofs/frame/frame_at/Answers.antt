-- `frame::frame_at` meets its contract: each return knows how the tests above it went.
use Rattle.std.proofs.Common.{◌≡◌, ◌∙◌, ◌+◌, ◌-◌, ◌<◌, length, sym, arith}
use borrow.Author.Tests.{eq-eqb, ne_eqb, lt-ltb, le-ltb}
use Rattle.records.specs.Frame.{frame_at}
use Rattle.records.specs.Wire.{number_at}
use Rattle.records.proofs.Frames.{fitting}
use Rattle.records.proofs.Bytes.{length-rest, length-behind, four_at, two_behind}
use Rattle.records.proofs.frame.frame_at.Goals as goal

pub returns-then-bytes-at : goal.returns-then-bytes-at
unfolding frame_at
returns-then-bytes-at c =
    let a = c.args in
    simp (eq-eqb (length a.bytes.now - a.at) 0 (omega arith))

pub returns-in_default : goal.returns-in_default
unfolding frame_at
returns-in_default c =
    let a = c.args in
    let short : length a.bytes.now - a.at < 4 = rw (length-rest a.bytes.now a.at) at c.in_default.ensures.cases in
    simp (ne_eqb (length a.bytes.now - a.at) 0 (omega arith), lt-ltb _ _ short)

pub returns-then-odd_length : goal.returns-then-odd_length
unfolding frame_at
returns-then-odd_length c =
    let a = c.args in
    let room = length-behind a.bytes.now _ _ a.at c.in-Some.ensures.cases in
    let len : c.from_le_bytes-len.result ≡ number_at 4 a.bytes.now a.at = c.from_le_bytes-len.ensures ∙ four_at a.bytes.now _ _ a.at c.in-Some.ensures.cases in
    simp (
      ne_eqb (length a.bytes.now - a.at) 0 (omega arith),
      le-ltb (length a.bytes.now - a.at) 4 (omega (arith, room)),
      ← len,
      ← c.odd_length.ensures,
      c.if-odd_length.true,
    )

pub returns-then-behind-len : goal.returns-then-behind-len
unfolding frame_at
returns-then-behind-len c =
    let a = c.args in
    let room = length-behind a.bytes.now _ _ a.at c.in-Some.ensures.cases in
    let len : c.from_le_bytes-len.result ≡ number_at 4 a.bytes.now a.at = c.from_le_bytes-len.ensures ∙ four_at a.bytes.now _ _ a.at c.in-Some.ensures.cases in
    simp (
      ne_eqb (length a.bytes.now - a.at) 0 (omega arith),
      le-ltb (length a.bytes.now - a.at) 4 (omega (arith, room)),
      ← len,
      ← c.odd_length.ensures,
      c.if-odd_length.false,
      lt-ltb (length a.bytes.now - a.at) (4 + c.from_le_bytes-len.result) (omega (arith, room)),
    )

pub bounds-behind-0 : goal.bounds-behind-0
bounds-behind-0 c =
    let l = fitting _ (sym c.odd_length.ensures ∙ c.if-odd_length.false) in
    omega arith

pub bounds-behind-1 : goal.bounds-behind-1
bounds-behind-1 c =
    let l = fitting _ (sym c.odd_length.ensures ∙ c.if-odd_length.false) in
    omega arith

pub overflow_sub-result : goal.overflow_sub-result
overflow_sub-result c =
    let l = fitting _ (sym c.odd_length.ensures ∙ c.if-odd_length.false) in
    omega arith

pub returns : goal.returns
unfolding frame_at
returns c =
    let a = c.args in
    let l = fitting _ (sym c.odd_length.ensures ∙ c.if-odd_length.false) in
    let room = length-behind a.bytes.now _ _ a.at c.in-Some.ensures.cases in
    let len : c.from_le_bytes-len.result ≡ number_at 4 a.bytes.now a.at = c.from_le_bytes-len.ensures ∙ four_at a.bytes.now _ _ a.at c.in-Some.ensures.cases in
    let kind = c.from.ensures ∙ c.from_le_bytes.ensures ∙ two_behind a.bytes.now c.in-Some.length.now c.in-Some.behind.now a.at c.in-Some.ensures.cases (omega arith) in
    simp (
      ne_eqb (length a.bytes.now - a.at) 0 (omega arith),
      le-ltb (length a.bytes.now - a.at) 4 (omega (arith, room)),
      ← len,
      ← c.odd_length.ensures,
      c.if-odd_length.false,
      le-ltb (length a.bytes.now - a.at) (4 + c.from_le_bytes-len.result) (omega (arith, room)),
      ← kind,
    )
