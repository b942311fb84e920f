-- `phed::tally_faces` meets its contract: what is counted and what is left make up the whole.
use mathlib.Core.Path.{◌≡◌, ap, ◌∙◌}
use mathlib.Core.List.{List, flatten}
use Prim.Native.Nat.{ℕ, suc, ◌+◌}
use native.Mathlib.Omega.{arith}
use lib.ListN.{length}
use Rattle.faces.specs.Inner.Walk.{left}
use Rattle.parts.proofs.Apart.{length_flatten, faces_few}
use Rattle.parts.proofs.phed.tally_faces.Goals as goal

pub overflow_add-tally : goal.overflow_add-tally
overflow_add-tally c =
    let more : length (left c.loop-face.face-iterator) ≡ suc (length (left c.next.new.self)) = ap length c.in-Some.ensures.steps in
    omega (arith, faces_few c.args.ids.now)

pub overflow_add-tally-in-loop-face : goal.overflow_add-tally-in-loop-face
overflow_add-tally-in-loop-face c =
    let size : length (flatten (left c.loop-face.face-iterator)) ≡ length c.in-Some.face.now + length (flatten (left c.next.new.self))
    = ap (λ (fs : List (List ℕ)). length (flatten fs)) c.in-Some.ensures.steps ∙ length_flatten _ _ in
    omega (arith, faces_few c.args.ids.now)

pub loop-face-preserved : goal.loop-face-preserved
loop-face-preserved c =
    let more : length (left c.loop-face.face-iterator) ≡ suc (length (left c.next.new.self)) = ap length c.in-Some.ensures.steps in
    let size : length (flatten (left c.loop-face.face-iterator)) ≡ length c.in-Some.face.now + length (flatten (left c.next.new.self))
    = ap (λ (fs : List (List ℕ)). length (flatten fs)) c.in-Some.ensures.steps ∙ length_flatten _ _ in
    (tt, tt, omega arith, omega arith)

pub returns : goal.returns
unfolding flatten
returns c =
    let none : length (left c.loop-face.face-iterator) ≡ 0 = ap length c.in-None.ensures.steps.0 in
    let nothing : length (flatten (left c.loop-face.face-iterator)) ≡ 0 = ap (λ (fs : List (List ℕ)). length (flatten fs)) c.in-None.ensures.steps.0 in
    (omega arith, omega arith)
