-- `past` meets its contract: behind the list's end nothing stands.
use Rattle.std.proofs.Common.{rules, ◌+◌, ◌≤◌, ℕ, arith, Fits, w64, drop, length, length-drop, ap, ◌∙◌}
use Rattle.faces.proofs.Walk.{span-le, span_from}
use Rattle.faces.proofs.past.Goals as goal

pub overflow_add-result : goal.overflow_add-result
overflow_add-result c =
    let ids = c.args.ids.now in
    let long : Fits w64 (length ids) = search rules in
    let some : c.run.result ≤ length (drop c.min.result ids) = rw (c.run.ensures, c.split_at.ensures.back) (span-le c.args.separators (drop c.min.result ids)) in
    record { fits = omega (arith, long.fits, some, length-drop c.min.result ids, c.min.ensures, c.ranges.at.fits) }

pub returns : goal.returns
returns c =
    ap (λ (n : ℕ). c.args.at + n) (rw c.split_at.ensures.back at c.run.ensures
    ∙ span_from c.args.separators c.args.ids.now c.args.at c.min.result c.min.ensures)
