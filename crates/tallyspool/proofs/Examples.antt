-- Records, whole and damaged, and what the split of one answers to them.
use Prim.Native.Nat.{ℕ, ◌+◌, ◌*◌}
use mathlib.Core.Path.{◌≡◌, refl}
use mathlib.Core.List.{List, [], ◌∷◌, ◌++◌, map}
use lib.ListN.{length, replicate, take}
use Rattle.base.specs.Kinds.{separator, nodes_of}
use Rattle.base.specs.Checks.{element_refusal, input_refusal, element_fits, strays, holds_separator}
use Rattle.base.specs.Gather.{pick, digits}
use Rattle.base.specs.Outcome.{Outcome, decide, settle, settle_one, overwrite, given, refused}
use Rattle.base.specs.declared.refusals.Answer.{Answer}
use Rattle.records.specs.Frame.{frame_at, odd_length}
use Rattle.records.specs.Wire.{number, low_bytes, ids_in, id_bytes}
use Rattle.cuts.specs.Split.{cut, simplexes, split, split_count, split_kind, split_refusal, to_simplexes}
use Rattle.tallyspool.specs.Record.{split_record}

-- bytes, and what is answered where 12 entries of 7 are lent, and what they then hold
pub record Example : Type 0 where
  pub bytes : List ℕ
  pub outcome : Outcome Answer (List ℕ)

-- the record of a kind and ids
abbrev record_of : ℕ → List ℕ → List ℕ
record_of kind ids = low_bytes 4 (2 + 8 * length ids) ++ (low_bytes 2 kind ++ id_bytes ids)

abbrev refuses : List ℕ → ℕ → Example
refuses bytes why = record { bytes = bytes; outcome = record { answer = refused why; lent = replicate 12 7 } }

abbrev wedge : List ℕ
wedge = record_of 13 (10 ∷ 8 ∷ 7 ∷ 9 ∷ 11 ∷ 12 ∷ [])

abbrev pub examples : List Example
examples =
    -- the two records of document 01
    record {
      bytes = wedge;
      outcome = record { answer = given 11 3; lent = 7 ∷ 9 ∷ 11 ∷ 12 ∷ 7 ∷ 11 ∷ 9 ∷ 8 ∷ 7 ∷ 8 ∷ 9 ∷ 10 ∷ [] };
    }
    ∷ refuses (record_of 19 []) 6
    -- nothing, a length cut short, a record cut short, a byte behind it, and lengths that no record has
    ∷ refuses [] 21
    ∷ refuses (50 ∷ 0 ∷ 0 ∷ []) 21
    ∷ refuses (take 53 wedge) 21
    ∷ refuses (wedge ++ (0 ∷ [])) 21
    ∷ refuses (1 ∷ 0 ∷ 0 ∷ 0 ∷ 13 ∷ []) 21
    ∷ refuses (3 ∷ 0 ∷ 0 ∷ 0 ∷ 13 ∷ 0 ∷ 0 ∷ []) 21
    ∷ refuses (record_of 18 (replicate 4097 1)) 21
    -- 1, 3, 4 and 6 of records with more ids than any fixed kind has, and 7
    ∷ refuses (record_of 20 (replicate 22 1)) 1
    ∷ refuses (record_of 16 (replicate 22 1)) 3
    ∷ refuses (record_of 18 (replicate 22 1 ++ (separator ∷ []))) 4
    ∷ refuses (record_of 18 (replicate 22 1)) 6
    ∷ refuses (record_of 19 (replicate 22 separator)) 6
    ∷ refuses (record_of 15 (digits 8 01234567)) 7
    ∷ []

abbrev answered : Example → Example
answered e = record { bytes = e.bytes; outcome = split_record e.bytes (replicate 12 7) }

pub examples_hold : map answered examples ≡ examples
unfolding split_record frame_at odd_length number low_bytes ids_in id_bytes to_simplexes split_refusal split_kind split_count split simplexes cut settle settle_one decide overwrite pick element_refusal input_refusal element_fits strays holds_separator nodes_of
examples_hold = refl
