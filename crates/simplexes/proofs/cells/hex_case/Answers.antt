-- `cells::hex_case` meets its contract: the three diagonals are the definition's.
use borrow.Author.Rules.{rules}
use mathlib.Core.Path.{◌≡◌, ◌∙◌, ap}
use mathlib.Core.Bool.{Bool, cond, not}
use mathlib.Core.List.{List}
use mir.Val.{bool_byte}
use Prim.Native.Nat.{ℕ, ◌+◌, ◌*◌}
use native.Mathlib.Omega.{arith}
use lib.ListN.{length}
use Rattle.cuts.specs.Smallest.{first_diagonal}
use Rattle.cuts.specs.Split.{hex_case, quad}
use Rattle.cuts.proofs.Table.{case_few}
use Rattle.simplexes.proofs.Laws.{byte_is, quad_read}
use Rattle.simplexes.proofs.cells.hex_case.Goals as goal

-- a diagonal, counted as in the number of the case
digit : (first : Bool) (four : List ℕ) → first ≡ first_diagonal four → bool_byte (not first) ≡ cond (first_diagonal four) 0 1
digit first four e = byte_is first ∙ ap (λ (b : Bool). cond b 0 1) e

pub returns : goal.returns
returns c =
    let cell = c.args.cell.now in
    let eight : length cell ≡ 8 = search rules in
    let e1 = c.on_first-on46.ensures ∙ ap first_diagonal (quad_read cell 4 5 6 7 (omega arith) (omega arith) (omega arith) (omega arith)) in
    let e2 = c.on_first-on16.ensures ∙ ap first_diagonal (quad_read cell 1 2 6 5 (omega arith) (omega arith) (omega arith) (omega arith)) in
    let e3 = c.on_first-on27.ensures ∙ ap first_diagonal (quad_read cell 2 3 7 6 (omega arith) (omega arith) (omega arith) (omega arith)) in
    let d1 = c.from.ensures ∙ digit _ (quad cell 4567) e1 in
    let d2 = c.from-2.ensures ∙ digit _ (quad cell 1265) e2 in
    let d3 = c.from-3.ensures ∙ digit _ (quad cell 2376) e3 in
    let is : c.from.result * 4 + c.from-2.result * 2 + c.from-3.result ≡ hex_case cell = rw (d1, d2, d3) in
    (is, rw is (case_few cell))
