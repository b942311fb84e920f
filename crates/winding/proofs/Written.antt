-- The loop of `put_faces`: what is written, with what the faces that are left add to it, is the whole answer.
use Rattle.std.proofs.Common.{◌≡◌, ℕ, ◌+◌, ◌-◌, ◌≤◌, List, [], ◌∷◌, ◌++◌, map, length, take, drop, set, sym, ap, ◌∙◌, append_assoc, append-nil, arith, length-append}
use Rattle.base.specs.Kinds.{separator}
use Rattle.base.specs.Outcome.{overwrite}
use borrow.Rule.Slice.PartMut.{put_mid}
use Rattle.base.proofs.Lists.{length-overwrite, overwrite_more, rest_back, rest_whole}
use Rattle.faces.specs.Faces.{joined, further}
use Rattle.winding.proofs.Joined.{separator_behind}
use Rattle.winding.proofs.Points.{AllPlaced}

module _ (count : ℕ) (g : List ℕ → List ℕ) (keeps : (f : List ℕ) → length (g f) ≡ length f) (whole out₀ : List ℕ) where
  pub record Written (fs : List (List ℕ)) (out : List ℕ) (at : ℕ) : Type 0 where
    pub done : List ℕ
    pub long : length done ≡ at
    pub is_whole : whole ≡ done ++ further separator (map g fs)
    pub is : out ≡ overwrite done out₀
    pub placed : AllPlaced count fs

  -- the first face is written
  pub start : (f : List ℕ) (fs : List (List ℕ)) (out : List ℕ) → whole ≡ joined separator (map g (f ∷ fs)) → AllPlaced count (f ∷ fs)
      → out ≡ overwrite (g f) out₀ → Written fs out (length f)
  unfolding joined
  start f fs out e p o = record { done = g f; long = keeps f; is_whole = e; is = o; placed = p.2 }

  module _ (fs : List (List ℕ)) (out : List ℕ) (at : ℕ) (w : Written fs out at) where
    pub ends : fs ≡ [] → out ≡ overwrite whole out₀
    unfolding further
    ends e =
        let h : whole ≡ w.done = w.is_whole ∙ ap (λ (l : List (List ℕ)). w.done ++ further separator (map g l)) e ∙ append-nil w.done in
        rw h w.is

    module _ (room : length whole ≤ length out₀) where
      pub fit : length w.done + length (further separator (map g fs)) ≤ length out₀
      fit = omega (arith, ap length w.is_whole, length-append w.done (further separator (map g fs)))

      pub length_out : length out ≡ length out₀
      length_out = ap length w.is ∙ length-overwrite w.done out₀ (omega (arith, fit))

  -- with the next face
  module _ (f : List ℕ) (fs l : List (List ℕ)) (next : l ≡ f ∷ fs) (out : List ℕ) (at : ℕ) (w : Written l out at) (room : length whole ≤ length out₀) where
    now : Written (f ∷ fs) out at
    now = rw next at w

    -- a separator and the face fit
    pub fits : at + 1 + length f ≤ length out
    unfolding further
    fits =
        omega (arith, now.long, keeps f, fit (f ∷ fs) out at now room, length_out (f ∷ fs) out at now room, length-append (g f) (further separator (map g fs)))

    -- what is lent on from there is all of the rest
    lent_on : (xs ys : List ℕ) (i : ℕ) → ys ≡ overwrite (g f) (take (length xs - i) (drop i xs))
        → put_mid i (length xs - i) xs ys ≡ take i xs ++ overwrite (g f) (drop i xs)
    lent_on xs ys i e =
        ap (λ (l : List ℕ). take i xs ++ l) (rest_back xs ys i ∙ e ∙ ap (λ (l : List ℕ). overwrite (g f) l) (rest_whole xs i))

    pub step : (ys : List ℕ) → ys ≡ overwrite (g f) (take (length (set out at separator) - (at + 1)) (drop (at + 1) (set out at separator)))
        → Written fs (put_mid (at + 1) (length (set out at separator) - (at + 1)) (set out at separator) ys) (at + 1 + length f)
    unfolding further
    step ys e =
        let front = now.done ++ separator ∷ [] in
        let long : length front ≡ at + 1 = length-append now.done (separator ∷ []) ∙ ap (λ (n : ℕ). n + 1) now.long in
        let here : set out at separator ≡ overwrite front out₀ =
        ap (λ (l : List ℕ). set l at separator) now.is ∙ ap (λ (n : ℕ). set (overwrite now.done out₀) n separator) (sym now.long)
        ∙ separator_behind now.done out₀ (omega (arith, now.long, fits, length_out (f ∷ fs) out at now room)) in
        record {
          done = front ++ g f;
          long = length-append front (g f) ∙ omega (arith, long, keeps f);
          is_whole = now.is_whole ∙ simp append_assoc;
          is = lent_on (set out at separator) ys (at + 1) e ∙ rw (here, ← long) (overwrite_more front (g f) out₀);
          placed = now.placed.2;
        }
