-- A text written over a lent buffer from a place on.
use Rattle.std.specs.Prelude.{ℕ, ◌+◌, ◌≡◌, ◌≤◌, List, length}
use Rattle.base.specs.Inner.Place.{put_at}
use Rattle.records.specs.declared.text.Writer.{Writer}

-- so many bytes more fit
abbrev pub HasRoom : ℕ → Writer → Type 0
HasRoom most writer = writer.at + most ≤ length writer.out.now

-- a text of at most so many bytes was put where the next byte went, and the next place is behind it
pub record Wrote (text : List ℕ) (most : ℕ) (before : Writer) (after : Writer) : Type 0 where
  pub left : after.out.now ≡ put_at text before.at before.out.now
  pub behind : after.at ≡ before.at + length text
  pub few : after.at ≤ before.at + most
  pub long : length after.out.now ≡ length before.out.now
  pub same : after.out.ghost_name ≡ before.out.ghost_name
