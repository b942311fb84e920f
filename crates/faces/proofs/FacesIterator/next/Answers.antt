-- `next` meets its contract: the face that is found from the front is the first, and where there is none the faces have ended.
use Rattle.std.proofs.Common.{arith, ◌≡◌, ◌+◌, ◌-◌, ◌<◌, ℕ, List, ◌∷◌, take, drop, length, length-take-le, sym, ap, ◌∙◌}
use Rattle.std.proofs.lemmas.List.{drop-take}
use Rattle.faces.specs.Faces.{faces}
use Rattle.faces.specs.Inner.Walk.{left}
use Rattle.faces.proofs.Walk.{first_face, no_face}
use Rattle.faces.proofs.FacesIterator.next.Goals as goal

pub returns-then-start-end-clause-steps : goal.returns-then-start-end-clause-steps
returns-then-start-end-clause-steps c =
    let none = no_face c.args.self.now.ids.now c.next_face-start.result c.next_face-start.ensures c.if-start-end.true in
    (none, none)

pub split_at-requires : goal.split_at-requires
split_at-requires c = (first_face c.args.self.now.ids.now c.next_face-start.result c.next_face-start.ensures c.if-start-end.false).1

pub split_at-requires-2 : goal.split_at-requires-2
split_at-requires-2 c =
    let found = first_face c.args.self.now.ids.now c.next_face-start.result c.next_face-start.ensures c.if-start-end.false in
    rw c.split_at.ensures.front (omega (arith, found.0, length-take-le c.next_face-start.result.end c.args.self.now.ids.now found.1))

pub returns-clause-steps : goal.returns-clause-steps
returns-clause-steps c =
    let ids = c.args.self.now.ids.now in
    let f = c.next_face-start.result in
    let found = first_face ids f c.next_face-start.ensures c.if-start-end.false in
    let e : f.end ≡ f.start + (f.end - f.start) = omega (arith, found.0) in
    rw (c.split_at-2.ensures.back, c.split_at.ensures.front, c.split_at.ensures.back)
    (found.2 ∙ ap (λ (face : List ℕ). face ∷ faces (drop f.end ids)) (sym (ap (λ (k : ℕ). drop f.start (take k ids)) e ∙ drop-take f.start (f.end - f.start) ids)))

pub returns-clause-goes : goal.returns-clause-goes
returns-clause-goes c =
    let shorter : length (left (record { ids = c.split_at.result.1 })) < length (left c.args.self.now) = rw (returns-clause-steps c) (omega arith) in
    record { on = λ h. (tt, tt, shorter); keeps = tt; rests = λ h. tt }
