-- `polygon::write_sides` meets its contract: before turn i the first i sides are written, the other entries those at entry.
use borrow.Author.Rules.{rules}
use mathlib.Core.Path.{◌≡◌, sym, ◌∙◌}
use Prim.Native.Nat.{ℕ, ◌+◌, ◌<◌}
use native.Mathlib.Omega.{arith}
use native.Mathlib.Numerals.{add-one}
use mathlib.Core.List.{List}
use lib.ListN.{length, get_or}
use Rattle.base.specs.Kinds.{separator}
use Rattle.base.proofs.Lists.{front_whole}
use Rattle.faces.specs.Edges.{cycle}
use Rattle.parts.specs.Subentities.{both_ends}
use Rattle.parts.proofs.Sides.{length-sides, side_from, side_to, two_more}
use Rattle.parts.proofs.polygon.write_sides.Goals as goal

pub loop-i-preserved : goal.loop-i-preserved
loop-i-preserved c =
    let a = c.args in
    let ids : List ℕ = a.ids.now in
    let i : ℕ = c.loop-i.i in
    let f : ℕ = get_or ids 0 separator in
    let xs : List ℕ = both_ends (cycle ids) in
    let h : i < length ids = search rules in
    let from : get_or ids i 0 ≡ get_or xs (i + i) 0 = sym (side_from f ids i h) in
    let to : c.after.result ≡ get_or xs (i + i + 1) 0 = c.after.ensures ∙ rw (add-one, add-one) (sym (side_to f ids i h)) in
    let next : i + 1 + (i + 1) ≡ i + i + 1 + 1 = omega arith in
    rw (c.loop-i.invariant, from, to, next)
    (two_more xs a.out.now (i + i) (omega (arith, length-sides f ids)) (omega arith))

pub returns : goal.returns
returns c =
    let a = c.args in
    let e : c.loop-i.i + c.loop-i.i ≡ length (both_ends (cycle a.ids.now))
    = omega (arith, length-sides (get_or a.ids.now 0 separator) a.ids.now) in
    c.loop-i.invariant ∙ front_whole _ _ _ e
