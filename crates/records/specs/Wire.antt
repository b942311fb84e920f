-- Numbers and ids as little-endian bytes, and what reading and writing ids answers.
use Rattle.std.specs.Prelude.{ℕ, zero, suc, ◌+◌, ◌*◌, ◌/◌, ◌%◌, cond, List, [], ◌∷◌, ◌++◌, eqb, length, take, drop}
use Rattle.base.specs.Outcome.{Outcome, settle}
use Rattle.base.specs.declared.refusals.Answer.{Answer}

-- the number that bytes stand for, the lowest byte first
unfoldable pub number : List ℕ → ℕ
number [] = 0
number (b ∷ bytes) = b + 256 * number bytes

-- the number of n bytes that begins at a place
abbrev pub number_at : ℕ → List ℕ → ℕ → ℕ
number_at n bytes at = number (take n (drop at bytes))

-- the n low bytes of a number, the lowest first
unfoldable pub low_bytes : ℕ → ℕ → List ℕ
low_bytes zero x = []
low_bytes (suc n) x = x % 256 ∷ low_bytes n (x / 256)

-- the first n ids in bytes, 8 bytes each
unfoldable pub ids_in : ℕ → List ℕ → List ℕ
ids_in zero bytes = []
ids_in (suc n) bytes = number_at 8 bytes 0 ∷ ids_in n (drop 8 bytes)

-- ids as bytes, 8 bytes each
unfoldable pub id_bytes : List ℕ → List ℕ
id_bytes [] = []
id_bytes (id ∷ ids) = low_bytes 8 id ++ id_bytes ids

-- the ids in bytes over the front of out, and their count; 21 if the bytes are no multiple of 8
unfoldable pub read_outcome : List ℕ → List ℕ → Outcome Answer (List ℕ)
read_outcome bytes out =
    settle (cond (eqb (length bytes % 8) 0) 0 21) 0 (length bytes / 8) (ids_in (length bytes / 8) bytes) out

-- the bytes of ids over the front of out, and their count
unfoldable pub write_outcome : List ℕ → List ℕ → Outcome Answer (List ℕ)
write_outcome ids out = settle 0 0 (8 * length ids) (id_bytes ids) out
