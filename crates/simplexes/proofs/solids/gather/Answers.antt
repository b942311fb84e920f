-- `solids::gather` meets its contract: before turn i the first i ids are picked.
use mathlib.Core.Path.{◌≡◌, ◌∙◌, ap₂}
use mathlib.Core.List.{List}
use Prim.Native.Nat.{ℕ, ◌<◌}
use native.Mathlib.Omega.{arith}
use lib.ListN.{length, set, replicate, length-replicate}
use Rattle.base.specs.Gather.{pick, undigit}
use Rattle.base.proofs.Lists.{front_more, front_whole}
use Rattle.base.proofs.Picks.{length-undigit}
use Rattle.simplexes.proofs.Laws.{corner_read, fills}
use Rattle.simplexes.proofs.solids.gather.Goals as goal

pub loop-i-preserved : goal.loop-i-preserved
loop-i-preserved g c =
    let ids = c.args.ids.now in
    let string = c.args.string.now in
    let i = c.loop-i.i in
    let X = pick ids (undigit string) in
    let inside : i < length string = omega arith in
    ap₂ (λ (ys : List ℕ) (x : ℕ). set ys i x) c.loop-i.invariant (corner_read ids string i c.corner_of.result inside c.requires c.corner_of.ensures)
    ∙ front_more X (replicate g.row.N 0) i (omega (arith, length-undigit ids string)) (omega (arith, length-replicate {A = ℕ} g.row.N 0))

pub returns : goal.returns
returns g c =
    let ids = c.args.ids.now in
    let string = c.args.string.now in
    let X = pick ids (undigit string) in
    let zeros : List ℕ = replicate g.row.N 0 in
    let long : length X ≡ length zeros = omega (arith, length-undigit ids string, length-replicate {A = ℕ} g.row.N 0) in
    let end : c.loop-i.i ≡ length X = omega (arith, length-undigit ids string) in
    c.loop-i.invariant ∙ front_whole X zeros c.loop-i.i end ∙ fills X zeros long
