-- How many items fit, counted from the first. The bitmap pool and the memory cache keep by it what they keep. A limit on
-- bytes is that of Glide's LruCache; a limit on items beside it is this project's own.
use Rattle.std.specs.Prelude.{ℕ, ◌+◌, ◌-◌, ◌&&◌, nat_lt, nat_le, List, [], ◌∷◌, if◌then◌else◌}

-- Items of these sizes fit, from the first on, while each fits in the room that those before it leave, and there is a
-- slot for it.
abbrev pub fitting : {A : Type 0} → (A → ℕ) → (room slots : ℕ) → List A → ℕ
fitting size room slots [] = 0
fitting size room slots (x ∷ xs) =
    if nat_lt 0 slots && nat_le (size x) room then 1 + fitting size (room - size x) (slots - 1) xs else 0
