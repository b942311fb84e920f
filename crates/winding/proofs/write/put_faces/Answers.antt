-- `write::put_faces` meets its contract: `Written` holds at each turn of the loop.
use Rattle.std.proofs.Common.{◌≡◌, ℕ, List, ◌∷◌, length, map, ap, sym, ◌∙◌, arith, length-append, length-drop, length-set}
use Rattle.base.specs.Kinds.{separator}
use Rattle.base.specs.Outcome.{overwrite}
use Rattle.base.proofs.Lists.{rest_whole}
use Rattle.faces.specs.declared.Faces.{Faces}
use Rattle.faces.specs.Faces.{faces, joined}
use Rattle.faces.specs.Inner.Walk.{left}
use Rattle.winding.specs.Points.{point_count}
use Rattle.winding.proofs.Points.{faces_placed}
use Rattle.winding.proofs.Written.{start, ends, fits, step}
use Rattle.winding.proofs.write.put_faces.Invariants.{turn, room}
use Rattle.winding.proofs.write.put_faces.Goals as goal

pub returns-in_default : goal.returns-in_default
unfolding joined overwrite
returns-in_default c = rw (sym c.of-rest.ensures ∙ c.in_default.ensures.steps.0)

pub invariant_of-write : goal.invariant_of-write
invariant_of-write c =
    let e = sym c.of-rest.ensures ∙ c.in-Some.ensures.steps in
    let p = rw e at (faces_placed (point_count 3 (length c.args.solid.points.now)) c.args.solid.ids.now c.args.solid.placed) in
    record { placed = p.1; some = p.0 }

pub write-requires : goal.write-requires
unfolding joined
write-requires c =
    let e = sym c.of-rest.ensures ∙ c.in-Some.ensures.steps in
    let h = rw e at c.requires in
    omega (arith, h, length-append c.in-Some.first.now)

pub loop-face-init : goal.loop-face-init
loop-face-init c =
    let a = c.args in
    let e : faces a.solid.ids.now ≡ c.in-Some.first.now ∷ left c.into_iter-face-iterator.result =
    sym c.of-rest.ensures ∙ c.in-Some.ensures.steps
    ∙ ap (λ (s : Faces). c.in-Some.first.now ∷ left s) (sym c.into_iter-face-iterator.ensures.into_iter_gives) in
    let p = rw e at (faces_placed (point_count 3 (length a.solid.points.now)) a.solid.ids.now c.args.solid.placed) in
    start _ _ _ _ _ _ _ _ (ap (λ (fs : List (List ℕ)). joined separator (map (turn a.solid.points.now a.reference) fs)) e) p c.write.ensures

pub offset_bounds-out-at : goal.offset_bounds-out-at
offset_bounds-out-at c =
    let f = fits _ _ _ _ _ _ _ _ c.in-Some-face.ensures.steps _ _ c.loop-face.invariant (room _ _ _ _ c.requires) in
    omega arith

pub bounds-out-at : goal.bounds-out-at
bounds-out-at c =
    let f = fits _ _ _ _ _ _ _ _ c.in-Some-face.ensures.steps _ _ c.loop-face.invariant (room _ _ _ _ c.requires) in
    omega arith

pub overflow_add-at : goal.overflow_add-at
overflow_add-at c =
    let f = fits _ _ _ _ _ _ _ _ c.in-Some-face.ensures.steps _ _ c.loop-face.invariant (room _ _ _ _ c.requires) in
    omega arith

pub offset_bounds-out-at-in-loop-face : goal.offset_bounds-out-at-in-loop-face
offset_bounds-out-at-in-loop-face c =
    let f = fits _ _ _ _ _ _ _ _ c.in-Some-face.ensures.steps _ _ c.loop-face.invariant (room _ _ _ _ c.requires) in
    omega arith

pub slice_bounds-write-count : goal.slice_bounds-write-count
slice_bounds-write-count c =
    let f = fits _ _ _ _ _ _ _ _ c.in-Some-face.ensures.steps _ _ c.loop-face.invariant (room _ _ _ _ c.requires) in
    simp length-set (omega arith)

pub slice_bounds-write-start : goal.slice_bounds-write-start
slice_bounds-write-start c =
    let f = fits _ _ _ _ _ _ _ _ c.in-Some-face.ensures.steps _ _ c.loop-face.invariant (room _ _ _ _ c.requires) in
    simp length-set (omega arith)

pub invariant_of-write-in-loop-face : goal.invariant_of-write-in-loop-face
invariant_of-write-in-loop-face c =
    let p = rw c.in-Some-face.ensures.steps at c.loop-face.invariant.placed in
    record { placed = p.1; some = p.0 }

pub write-requires-in-loop-face : goal.write-requires-in-loop-face
write-requires-in-loop-face c =
    let f = fits _ _ _ _ _ _ _ _ c.in-Some-face.ensures.steps _ _ c.loop-face.invariant (room _ _ _ _ c.requires) in
    rw rest_whole (simp (length-drop, length-set) (omega arith))

pub overflow_add-at-in-loop-face : goal.overflow_add-at-in-loop-face
overflow_add-at-in-loop-face c =
    let f = fits _ _ _ _ _ _ _ _ c.in-Some-face.ensures.steps _ _ c.loop-face.invariant (room _ _ _ _ c.requires) in
    omega arith

pub loop-face-preserved : goal.loop-face-preserved
loop-face-preserved c =
    step _ _ _ _ _ _ _ _ c.in-Some-face.ensures.steps _ _ c.loop-face.invariant (room _ _ _ _ c.requires) _ c.write-in-loop-face.ensures

pub returns : goal.returns
returns c = ends _ _ _ _ _ _ _ _ c.loop-face.invariant c.in-None.ensures.steps.0
