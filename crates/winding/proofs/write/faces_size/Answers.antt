-- `write::faces_size` meets its contract: the entries so far and those of the faces that are left make the whole.
use Rattle.std.proofs.Common.{List, ℕ, length, ap, arith, length-append}
use Rattle.base.specs.Kinds.{separator}
use Rattle.faces.specs.Faces.{faces, further}
use Rattle.winding.proofs.Joined.{few_entries, joined_entries}
use Rattle.winding.proofs.write.faces_size.Goals as goal

pub overflow_add-size-in-loop-face : goal.overflow_add-size-in-loop-face
unfolding further
overflow_add-size-in-loop-face c =
    let e = ap (λ (fs : List (List ℕ)). length (further separator fs)) c.in-Some.ensures.steps in
    omega (arith, e, few_entries c.args.ids.now, c.loop-face.invariant, length-append c.in-Some.face.now)

pub loop-face-preserved : goal.loop-face-preserved
unfolding further
loop-face-preserved c =
    let e = ap (λ (fs : List (List ℕ)). length (further separator fs)) c.in-Some.ensures.steps in
    omega (arith, e, c.loop-face.invariant, length-append c.in-Some.face.now)

pub returns : goal.returns
unfolding further
returns c =
    let e = ap (λ (fs : List (List ℕ)). length (further separator fs)) c.in-None.ensures.steps.0 in
    omega (arith, e, c.loop-face.invariant, c.saturating_sub.ensures, joined_entries (faces c.args.ids.now))
