-- `phed::write_faces` meets its contract: before each turn a front of the whole is there, and the faces ahead are the rest.
use mathlib.Core.Path.{◌≡◌, sym, ap, ◌∙◌}
use mathlib.Core.List.{List, [], ◌∷◌, ◌++◌, flatten}
use mathlib.Core.Logic.{inl}
use Prim.Native.Nat.{ℕ, ◌+◌, ◌≤◌, ◌<◌}
use native.Mathlib.Omega.{arith}
use lib.ListN.{length, get_or, drop, take, length-drop}
use Rattle.std.specs.Iterator.Adapters.{enumerate_source, enumerate_count}
use Rattle.base.proofs.Lists.{front_more, rest_whole, rest_back}
use Rattle.faces.specs.Faces.{faces}
use Rattle.faces.specs.Inner.Walk.{left}
use Rattle.parts.specs.Subentities.{ends_from}
use Rattle.parts.proofs.Apart.{left_fits, left_next, write_next, next_is, all_there, length_ends, faces_few}
use Rattle.parts.proofs.phed.write_faces.Goals as goal

-- a face at the front of those ahead, where so many entries and so many ends are there, and those of the faces ahead are left
record Ahead (ids : List ℕ) (there listed : ℕ) (face : List ℕ) (ahead rest : List (List ℕ)) : Type 0 where
  found : ahead ≡ face ∷ rest
  out_in : there ≤ length (flatten (faces ids))
  ends_in : listed ≤ length (ends_from 0 (faces ids))
  out_left : drop there (flatten (faces ids)) ≡ flatten ahead
  ends_left : drop listed (ends_from 0 (faces ids)) ≡ ends_from there ahead

module _ (ids : List ℕ) (there listed : ℕ) (face : List ℕ) (ahead rest : List (List ℕ)) (a : Ahead ids there listed face ahead rest) where
  left_out : drop there (flatten (faces ids)) ≡ face ++ flatten rest
  unfolding flatten
  left_out = a.out_left ∙ rw a.found

  left_ends : drop listed (ends_from 0 (faces ids)) ≡ (there + length face) ∷ ends_from (there + length face) rest
  unfolding ends_from
  left_ends = a.ends_left ∙ rw a.found

  fits : there + length face ≤ length (flatten (faces ids))
  fits = left_fits (flatten (faces ids)) face (flatten rest) there left_out a.out_in

  next_out : drop (there + length face) (flatten (faces ids)) ≡ flatten rest
  next_out = left_next (flatten (faces ids)) face (flatten rest) there left_out a.out_in

  more : listed + 1 ≤ length (ends_from 0 (faces ids))
  more = omega (arith, ap length left_ends, length-drop listed (ends_from 0 (faces ids)))

  end_is : there + length face ≡ get_or (ends_from 0 (faces ids)) listed 0
  end_is = sym (next_is (ends_from 0 (faces ids)) (ends_from (there + length face) rest) (there + length face) listed left_ends)

  next_ends : drop (listed + 1) (ends_from 0 (faces ids)) ≡ ends_from (there + length face) rest
  next_ends =
      left_next (ends_from 0 (faces ids)) ((there + length face) ∷ []) (ends_from (there + length face) rest) listed left_ends a.ends_in

  -- the faces that are left are no more than the list has entries
  few : listed + 1 + length rest ≤ length ids
  few =
      omega (
        arith,
        ap length next_ends,
        length_ends (there + length face) rest,
        length-drop (listed + 1) (ends_from 0 (faces ids)),
        more,
        length_ends 0 (faces ids),
        faces_few ids,
      )

pub copy-requires : goal.copy-requires
copy-requires c =
    let l = c.loop-at.invariant in
    let a : Ahead c.args.ids.now c.loop-at.written (enumerate_count c.loop-at.at-iterator) c.in-Some.face.now (left (enumerate_source c.loop-at.at-iterator)) (left (enumerate_source c.next.new.self)) =
    record { found = c.in-Some.ensures.steps.0; out_in = l.2; ends_in = l.3; out_left = l.5; ends_left = l.7 } in
    rw rest_whole (simp length-drop (omega (arith, fits _ _ _ _ _ _ a)))

pub loop-at-preserved : goal.loop-at-preserved
loop-at-preserved c =
    let ids = c.args.ids.now in
    let l = c.loop-at.invariant in
    let there = c.loop-at.written in
    let listed = enumerate_count c.loop-at.at-iterator in
    let face = c.in-Some.face.now in
    let rest = left (enumerate_source c.next.new.self) in
    let step = c.in-Some.ensures.steps in
    let a : Ahead ids there listed face (left (enumerate_source c.loop-at.at-iterator)) rest =
    record { found = step.0; out_in = l.2; ends_in = l.3; out_left = l.5; ends_left = l.7 } in
    let room : there ≤ length c.args.out.now = omega (arith, fits _ _ _ _ _ _ a) in
    let slot : listed < length c.args.ends.now = omega (arith, more _ _ _ _ _ _ a, length_ends 0 (faces ids)) in (
      (tt, tt, inl (omega (arith, few _ _ _ _ _ _ a, step.2))),
      tt,
      fits _ _ _ _ _ _ a,
      rw step.2 (more _ _ _ _ _ _ a),
      ap (λ (xs : List ℕ). take there c.loop-at.out ++ xs) (rest_back c.loop-at.out _ there ∙ (rw rest_whole at c.copy.ensures))
          ∙ rw l.4 (write_next (flatten (faces ids)) face (flatten rest) there (left_out _ _ _ _ _ _ a) l.2 c.args.out.now room),
      next_out _ _ _ _ _ _ a,
      rw (step.1, step.2, l.6, end_is _ _ _ _ _ _ a)
          (front_more (ends_from 0 (faces ids)) c.args.ends.now listed (omega (arith, more _ _ _ _ _ _ a)) slot),
      rw step.2 (next_ends _ _ _ _ _ _ a),
    )

pub returns-clause-out_after : goal.returns-clause-out_after
unfolding flatten ends_from
returns-clause-out_after c =
    let l = c.loop-at.invariant in
    l.4 ∙ all_there _ _ _ (l.5 ∙ rw c.in-None.ensures.steps.0.0) l.2

pub returns-clause-ends_after : goal.returns-clause-ends_after
unfolding flatten ends_from
returns-clause-ends_after c =
    let l = c.loop-at.invariant in
    l.6 ∙ all_there _ _ _ (l.7 ∙ rw c.in-None.ensures.steps.0.0) l.3
