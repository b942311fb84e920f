-- A walk over the edges of a cycle: from a place on they are the edge to the next node, and those from the next place on.
use Rattle.std.proofs.Common.{◌≡◌, ℕ, ◌+◌, ◌-◌, ◌<◌, ◌≤◌, List, [], ◌∷◌, length, get_or, take, drop, refl, ap, ◌∙◌, add-zero, add-one, arith, drop_of_length-le, get_or-drop, get_or-take, drop-cons}
use Rattle.base.specs.Kinds.{separator}
use Rattle.base.proofs.Picks.{within_default}
use Rattle.faces.specs.Edges.{edge, along}

-- a list of no length has no entry
pub nothing : (l : List ℕ) → length l ≡ 0 → l ≡ []
nothing [] e = refl
nothing (x ∷ xs) e = absurd (omega arith)

-- an entry behind the first
pub behind_first : (l : List ℕ) (i : ℕ) → i < length l - 1 → get_or (take (length l - 1) (drop 1 l)) i 0 ≡ get_or l (i + 1) 0
behind_first l i h =
    get_or-take (length l - 1) (drop 1 l) i 0 h ∙ get_or-drop 1 l i 0 ∙ ap (λ (k : ℕ). get_or l k 0) (omega arith)

-- the first node, to which the last edge leads back
abbrev pub head : List ℕ → ℕ
head ids = get_or ids 0 separator

-- the node that follows the one at a place
abbrev pub follower : List ℕ → ℕ → ℕ
follower ids i = get_or (drop (i + 1) ids) 0 (head ids)

module _ (ids : List ℕ) (i : ℕ) where
  pub along_step : i < length ids
      → along (head ids) (drop i ids) ≡ edge (get_or ids i 0) (follower ids i) ∷ along (head ids) (drop (i + 1) ids)
  unfolding along
  along_step h = simp (add-one, drop-cons ids i 0 h)

  pub follower_within : i + 1 < length ids → get_or ids (i + 1) 0 ≡ follower ids i
  follower_within h = rw (get_or-drop, add-zero) (within_default ids (i + 1) 0 (head ids) h)

  pub follower_last : i < length ids → length ids ≤ i + 1 → get_or ids 0 0 ≡ follower ids i
  follower_last p h = rw (drop_of_length-le ids h) (within_default ids 0 0 separator (omega arith))

  -- the edge from place i within the list leads to the next place
  pub along_within : i + 1 < length ids
      → along (head ids) (drop i ids) ≡ edge (get_or ids i 0) (get_or ids (i + 1) 0) ∷ along (head ids) (drop (i + 1) ids)
  along_within h = rw (follower_within h) (along_step (omega arith))

  -- from the last place it leads back to the first
  pub along_last : i + 1 ≡ length ids → along (head ids) (drop i ids) ≡ edge (get_or ids i 0) (get_or ids 0 0) ∷ []
  along_last h =
      let e : along (head ids) (drop (i + 1) ids) ≡ [] = unfold along in let h : length ids ≤ i + 1 = omega arith in rw (drop_of_length-le ids h) refl in
      rw (follower_last (omega arith) (omega arith), ← e) (along_step (omega arith))
