-- `lengths::other_length` meets its contract: the faces passed have a or b nodes, so what is left decides.
use mathlib.Core.Path.{◌≡◌, refl, sym, ◌∙◌}
use native.Mathlib.Omega.{arith}
use borrow.Author.Tests.{ne_eqb}
use lib.ListN.{length}
use Rattle.faces.specs.Faces.{faces}
use Rattle.recognise.specs.Recognise.{other_length}
use Rattle.recognise.proofs.Nodes.{other_here, other_pass, face-some}
use Rattle.recognise.proofs.lengths.other_length.Goals as goal

pub returns-then-face-b : goal.returns-then-face-b
returns-then-face-b c =
    let a = c.args in
    let is : other_length a.a a.b (faces a.ids.now) ≡ length c.in-Some.face.now =
    sym c.loop-face.invariant.2 ∙ other_here a.a a.b _ _ _ c.in-Some.ensures.steps c.if-face-a.true c.if-face-b.true in
    let some = face-some _ _ _ c.in-Some.ensures.steps in
    rw (is, ne_eqb (length c.in-Some.face.now) 0 (λ q. omega arith)) refl

pub loop-face-preserved : goal.loop-face-preserved
loop-face-preserved c =
    (tt, tt, sym (other_pass c.args.a c.args.b _ _ _ c.in-Some.ensures.steps c.else-face-a.either) ∙ c.loop-face.invariant.2)

pub returns : goal.returns
unfolding other_length
returns c = rw (← c.loop-face.invariant.2, c.in-None.ensures.steps.0) refl
