-- `laid::is_face` meets its contract: where nodes alone were passed, the face left decides.
use Prim.Native.Nat.{suc, ◌+◌, ◌-◌}
use mathlib.Core.Path.{◌≡◌, refl, sym, ◌∙◌}
use native.Mathlib.Omega.{arith}
use Rattle.recognise.proofs.Usual.{face_more, face-none}
use Rattle.recognise.proofs.laid.is_face.Goals as goal

pub loop-i-init : goal.loop-i-init
loop-i-init c = let z : c.args.at + c.args.n - c.args.at ≡ c.args.n = omega arith in rw z refl

pub returns-then-node : goal.returns-then-node
returns-then-node c =
    let a = c.args in
    let i = c.loop-i.i in
    let z : a.at + a.n - i ≡ suc (a.at + a.n - (i + 1)) = omega arith in
    sym (face-none a.ids.now i (a.at + a.n - i) (a.at + a.n - (i + 1)) z (sym c.node.ensures ∙ c.if-node.true)) ∙ c.loop-i.invariant

pub loop-i-preserved : goal.loop-i-preserved
loop-i-preserved c =
    let a = c.args in
    let i = c.loop-i.i in
    let z : a.at + a.n - i ≡ suc (a.at + a.n - (i + 1)) = omega arith in
    sym (face_more a.ids.now i (a.at + a.n - i) (a.at + a.n - (i + 1)) z (λ e. c.if-node.false (c.node.ensures ∙ e))) ∙ c.loop-i.invariant

pub returns : goal.returns
returns c =
    let a = c.args in
    let z : c.loop-i.i ≡ a.at + a.n = omega arith in
    let y : a.at + a.n - (a.at + a.n) ≡ 0 = omega arith in
    rw c.node-2.ensures (rw (z, y) at c.loop-i.invariant)
