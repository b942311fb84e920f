-- `lengths::nodes_in` meets its contract: what is written and what is left to write make up the whole.
use mathlib.Core.Path.{◌≡◌, sym, ap, ◌∙◌}
use Prim.Native.Nat.{◌+◌, ◌-◌, ◌≤◌}
use mathlib.Core.List.{append_assoc, append-nil}
use native.Mathlib.Omega.{arith}
use lib.ListN.{length, take, length-take}
use lib.Seq.{take_all}
use borrow.Author.Rules.{rules}
use Rattle.std.proofs.lemmas.Slice.{take-put_mid}
use Rattle.recognise.specs.Recognise.{nodes_in}
use Rattle.recognise.proofs.Nodes.{filled_room, nodes_step, nodes_pass}
use Rattle.recognise.proofs.lengths.nodes_in.Goals as goal

pub slice_bounds-copy_from_slice-end : goal.slice_bounds-copy_from_slice-end
slice_bounds-copy_from_slice-end g c =
    let s = rw (nodes_step c.args.n _ _ _ c.in-Some.ensures.steps c.if-face-n.true) at c.loop-face.invariant.2 in
    let room : c.loop-face.filled + length c.in-Some.face.now ≤ length c.loop-face.out =
    filled_room _ _ _ _ c.loop-face.filled s (omega arith) (omega arith) in
    let room2 : c.loop-face.filled + c.args.n ≤ length c.loop-face.out = omega (arith, c.if-face-n.true) in
    room2

pub loop-face-preserved-then-face-n : goal.loop-face-preserved-then-face-n
loop-face-preserved-then-face-n g c =
    let s = rw (nodes_step c.args.n _ _ _ c.in-Some.ensures.steps c.if-face-n.true) at c.loop-face.invariant.2 in
    let room : c.loop-face.filled + length c.in-Some.face.now ≤ length c.loop-face.out =
    filled_room _ _ _ _ c.loop-face.filled s (omega arith) (omega arith) in
    let new : c.copy_from_slice.new.self ≡ c.in-Some.face.now = search rules in
    let t = take-put_mid c.loop-face.filled (c.loop-face.filled + c.args.n - c.loop-face.filled) c.loop-face.out c.in-Some.face.now (c.loop-face.filled + c.args.n) (omega arith) (omega arith) in
    (tt, tt, rw (new, t, append_assoc) s, omega arith)

pub loop-face-preserved : goal.loop-face-preserved
loop-face-preserved g c =
    (tt, tt, rw (nodes_pass c.args.n _ _ _ c.in-Some.ensures.steps c.if-face-n.false) at c.loop-face.invariant.2, c.loop-face.invariant.3)

pub returns : goal.returns
unfolding nodes_in
returns g c =
    let w = rw (c.in-None.ensures.steps.0, append-nil) at c.loop-face.invariant.2 in
    let long : length (take c.loop-face.filled c.loop-face.out) ≡ length c.loop-face.out = ap length w ∙ (omega arith) in
    let full : length c.loop-face.out ≤ c.loop-face.filled = omega (arith, simp length-take at long) in
    sym (take_all c.loop-face.filled c.loop-face.out full) ∙ w
