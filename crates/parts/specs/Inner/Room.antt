-- What a writer gives, and what the slice lent to it then holds.
use Rattle.std.specs.Prelude.{ℕ, ◌≡◌, ◌<◌, ◌≤◌, List, Result, Ok, Err, length}
use Rattle.base.specs.Outcome.{overwrite}
use Rattle.base.specs.declared.refusals.Refusal.{Refusal}
use Rattle.base.specs.declared.refusals.Refusal.TheVariants.{ShortOutput}

-- where there is room, what is given, and xs over the front of out; else 7, and out as it was
abbrev pub IfRoom : {T : Type 0} → T → List ℕ → List ℕ → Result T Refusal → List ℕ → Type 0
IfRoom given xs out (Ok t) left = (t ≡ given) × (length xs ≤ length out) × (left ≡ overwrite xs out)
IfRoom given xs out (Err e) left = (e ≡ ShortOutput) × (length out < length xs) × (left ≡ out)
