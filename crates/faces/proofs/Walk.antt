-- The walker's law: from a place on, the faces of a list are the next one, if there is one, and those from its end on.
use Prim.Native.Nat.{ℕ, suc, ◌+◌, ◌-◌, ◌≤◌, ◌<◌, min}
use Rattle.std.proofs.Common.{T, ltb, ltb→lt, nltb→le}
use mathlib.Core.Path.{◌≡◌, refl, sym, ap, ◌∙◌}
use mathlib.Core.List.{List, [], ◌∷◌}
use mathlib.Core.Bool.{Bool, true, false, cond, not, beq}
use native.Mathlib.Numerals.{add-one}
use native.Mathlib.Nat.{add-sub_cancel_left}
use native.Mathlib.Omega.{arith}
use lib.ListN.{length, get_or, take, drop, drop_of_length-le, length-drop}
use lib.Seq.{drop-cons, drop-drop, length-take-le}
use lib.Dec.{eqb}
use Rattle.base.specs.Kinds.{separator}
use Rattle.faces.specs.declared.Face.{Face}
use Rattle.faces.specs.Faces.{onto, runs, lead, full, faces}
use Rattle.faces.specs.Inner.Walk.{agree, span, start_of, end_of, next_face, part}

pub span-le : (t : Bool) (l : List ℕ) → span t l ≤ length l
unfolding span
span-le t [] = omega arith
span-le t (x ∷ l) = go (agree t (eqb x separator)) (span-le t l)
  where
    go : (b : Bool) → span t l ≤ length l → cond b (suc (span t l)) 0 ≤ suc (length l)
    go true p = omega arith
    go false p = omega arith

span_pos : (l : List ℕ) → 0 < length l → 0 < span true l + span false (drop (span true l) l)
unfolding span
span_pos [] h = absurd (omega arith)
span_pos (x ∷ l) h = go (eqb x separator) refl
  where
    go : (b : Bool) → eqb x separator ≡ b
        → 0 < cond b (suc (span true l)) 0 + span false (drop (cond b (suc (span true l)) 0) (x ∷ l))
    go true e = omega arith
    go false e = rw e (omega arith)

-- no id behind the separators at the front: there is nothing but separators
span_all : (l : List ℕ) → span false (drop (span true l) l) ≡ 0 → span true l ≡ length l
unfolding span
span_all [] h = refl
span_all (x ∷ l) h = go (eqb x separator) refl (span_all l) h
  where
    go : (b : Bool) → eqb x separator ≡ b → (span false (drop (span true l) l) ≡ 0 → span true l ≡ length l)
        → span false (drop (cond b (suc (span true l)) 0) (x ∷ l)) ≡ 0 → cond b (suc (span true l)) 0 ≡ suc (length l)
    go true e ih p = ap suc (ih p)
    go false e ih p = absurd (omega (arith, rw e at p))

first_run : (l : List ℕ) → (runs l).first ≡ take (span false l) l
unfolding runs span
first_run [] = refl
first_run (x ∷ l) = go (eqb x separator) (first_run l)
  where
    go : (b : Bool) → (runs l).first ≡ take (span false l) l
        → (onto b x (runs l)).first ≡ take (cond (agree false b) (suc (span false l)) 0) (x ∷ l)
    go true p = refl
    go false p = ap (λ (r : List ℕ). x ∷ r) p

rest_run : (l : List ℕ) → full (runs l).rest ≡ faces (drop (span false l) l)
unfolding runs span faces full
rest_run [] = refl
rest_run (x ∷ l) = go (eqb x separator) refl (rest_run l)
  where
    go : (b : Bool) → eqb x separator ≡ b → full (runs l).rest ≡ faces (drop (span false l) l)
        → full (onto b x (runs l)).rest ≡ faces (drop (cond (agree false b) (suc (span false l)) 0) (x ∷ l))
    go true e p = rw e
    go false e p = p

-- the faces of a list: its first run in front of the rest's
run_face : (l : List ℕ) → faces l ≡ lead (take (span false l) l) (faces (drop (span false l) l))
unfolding faces
run_face l = rw (first_run, rest_run)

-- leading separators do not matter
skip_faces : (l : List ℕ) → faces (drop (span true l) l) ≡ faces l
unfolding span faces runs full
skip_faces [] = refl
skip_faces (x ∷ l) = go (eqb x separator) refl (skip_faces l)
  where
    go : (b : Bool) → eqb x separator ≡ b → faces (drop (span true l) l) ≡ faces l
        → faces (drop (cond b (suc (span true l)) 0) (x ∷ l)) ≡ faces (x ∷ l)
    go true e p = rw e p
    go false e p = refl

-- what a walk learns at a place within the list: the next face lies ahead and within, the faces from the place on are that
-- one, if it is one, and those from its end on, and where it is none the list has ended
pub record Next (l : List ℕ) (at : ℕ) (f : Face) : Type 0 where
  pub from : at ≤ f.start
  pub run : f.start ≤ f.end
  pub within : f.end ≤ length l
  pub on : at < f.end
  pub face : faces (drop at l) ≡ lead (part l f.start f.end) (faces (drop f.end l))
  pub last : f.start ≡ f.end → f.end ≡ length l

module _ (l : List ℕ) (at : ℕ) (h : at < length l) where
  start_le : start_of l at ≤ length l
  start_le = omega (arith, span-le true (drop at l), length-drop at l)

  skip_at : faces (drop at l) ≡ faces (drop (start_of l at) l)
  skip_at = sym (rw drop-drop at (skip_faces (drop at l)))

  run_at : (i : ℕ) → faces (drop i l)
      ≡ lead (part l i (i + span false (drop i l))) (faces (drop (i + span false (drop i l)) l))
  run_at i = rw add-sub_cancel_left (rw drop-drop at (run_face (drop i l)))

  ended : start_of l at ≡ end_of l at → end_of l at ≡ length l
  ended e =
      let none : span false (drop (start_of l at) l) ≡ 0 = omega arith in
      omega (arith, span_all (drop at l) (rw drop-drop none), length-drop at l)

  found : Next l at (next_face l at)
  unfolding next_face
  found = record {
    from = omega arith;
    run = omega arith;
    within = omega (arith, start_le, span-le false (drop (start_of l at) l), length-drop (start_of l at) l);
    on = omega (arith, rw drop-drop at (span_pos (drop at l) (omega (arith, length-drop at l))));
    face = skip_at ∙ run_at (start_of l at);
    last = ended;
  }

  pub next : (f : Face) → f ≡ next_face l at → Next l at f
  next f e = rw e found

-- past the last entry there is no face left
pub no_more : (l : List ℕ) (at : ℕ) → length l ≤ at → faces (drop at l) ≡ []
unfolding faces runs full
no_more l at h = rw (drop_of_length-le l h)

-- a face was found: it is not empty, and it comes first
pub record Found (l : List ℕ) (at : ℕ) (f : Face) : Type 0 where
  pub some : f.start < f.end
  pub size : length (part l f.start f.end) ≡ f.end - f.start
  pub face : faces (drop at l) ≡ part l f.start f.end ∷ faces (drop f.end l)

lead-some : (p : List ℕ) (fs : List (List ℕ)) → 0 < length p → lead p fs ≡ p ∷ fs
lead-some [] fs h = absurd (omega arith)
lead-some (x ∷ p) fs h = refl

module _ (l : List ℕ) (at : ℕ) (f : Face) (n : Next l at f) where
  part_size : length (part l f.start f.end) ≡ f.end - f.start
  part_size = length-take-le _ (drop f.start l) (simp length-drop (omega arith))

  pub next_found : (f.start ≡ f.end → ⊥) → Found l at f
  next_found ne =
      let some : f.start < f.end = omega (arith, ne) in
      let long : 0 < length (part l f.start f.end) = rw part_size (omega arith) in
      record { some = some; size = part_size; face = n.face ∙ lead-some _ _ long }

  pub next_none : f.start ≡ f.end → faces (drop at l) ≡ []
  next_none e =
      let stop : length l ≤ f.end = omega (arith, n.last e) in
      let none : f.end - f.start ≡ 0 = omega arith in
      n.face ∙ rw none (no_more l f.end stop)

-- from the front: a face that was found stands within the list and comes first, with the others behind its end
pub first_face : (l : List ℕ) (f : Face) → f ≡ next_face l 0 → (f.start ≡ f.end → ⊥)
    → (f.start ≤ f.end) × (f.end ≤ length l) × (faces l ≡ part l f.start f.end ∷ faces (drop f.end l))
unfolding next_face span
first_face [] f e ne = absurd (ne (rw e refl))
first_face (x ∷ l) f e ne =
    let n = next (x ∷ l) 0 (omega arith) f e in
    (n.run, n.within, (next_found (x ∷ l) 0 f n ne).face)

-- and where none was found there is none
pub no_face : (l : List ℕ) (f : Face) → f ≡ next_face l 0 → f.start ≡ f.end → faces l ≡ []
unfolding faces runs full
no_face [] f e none = refl
no_face (x ∷ l) f e none = next_none (x ∷ l) 0 f (next (x ∷ l) 0 (omega arith) f e) none

-- the test of an entry, as the walk makes it
test_agrees : (t b r : Bool) → not (beq b t) ≡ r → agree t b ≡ not r
test_agrees true true r h = rw (← h)
test_agrees true false r h = rw (← h)
test_agrees false true r h = rw (← h)
test_agrees false false r h = rw (← h)

-- one step along the span at the front
pub span_step : (separators : Bool) (l : List ℕ) (i : ℕ) (stops : Bool) → i < length l
    → not (beq (eqb (get_or l i 0) separator) separators) ≡ stops
    → span separators (drop i l) ≡ cond (not stops) (suc (span separators (drop (i + 1) l))) 0
unfolding span
span_step separators l i stops h e = simp (add-one, drop-cons l i 0 h, test_agrees _ _ _ e)

pub span_end : (separators : Bool) (l : List ℕ) (i : ℕ) → length l ≤ i → span separators (drop i l) ≡ 0
unfolding span
span_end separators l i h = rw (drop_of_length-le l h)

-- at the end of the list and behind it nothing stands
pub span_from : (separators : Bool) (l : List ℕ) (at place : ℕ) → place ≡ min at (length l)
    → span separators (drop place l) ≡ span separators (drop at l)
span_from separators l at place e = go (ltb (length l) at) (ltb→lt (length l) at) (nltb→le (length l) at)
  where
    go : (t : Bool) → (T t → length l < at) → (T (not t) → at ≤ length l) → span separators (drop place l) ≡ span separators (drop at l)
    go true past within =
        let h : length l < at = past tt in
        let p : length l ≤ place = omega (arith, e, h) in
        let a : length l ≤ at = omega (arith, h) in
        rw (drop_of_length-le l p, drop_of_length-le l a) refl
    go false past within =
        let h : at ≤ length l = within tt in
        ap (λ (k : ℕ). span separators (drop k l)) (omega (arith, e, h))
