-- Worked examples of the store. They are this project's own.
use Rattle.std.specs.Prelude.{ℕ, false, true, List, [], ◌∷◌, ◌++◌, None, codes}
use Rattle.disk_lru.specs.Past.{DiskState}
use Rattle.store_world.specs.World.{Requests, World}
use Rattle.store_world.specs.Steps.{new_request, granted}
use Rattle.store_world.specs.StoreMachine.{files_alone}

-- a PPM text of a red and a blue pixel
abbrev pub red_and_blue : List ℕ
red_and_blue = codes "P6\n2 1\n255\n" ++ 255 ∷ 0 ∷ 0 ∷ 0 ∷ 0 ∷ 255 ∷ []

-- a store with no entries, for 100 bytes, in which these locks are wanted
abbrev pub disk_of_100 : DiskState
disk_of_100 =
    let disk = files_alone None 0 in record disk { cache = record disk.cache { maximum = 100 } }

abbrev pub store_of : Requests → World
store_of requests = record { off = false; disk = disk_of_100; content = None; requests = requests }

-- one that is off
abbrev pub store_off : World
store_off = record (store_of []) { off = true }

abbrev pub key_k : List ℕ
key_k = codes "k"

-- seat 0 wants the lock of `k`, then seat 1 too, and then seat 0 leaves
abbrev pub first_wants : Requests
first_wants = (0, new_request key_k) ∷ []

abbrev pub both_want : Requests
both_want = (0, new_request key_k) ∷ (1, new_request key_k) ∷ []

abbrev pub second_wants : Requests
second_wants = (1, new_request key_k) ∷ []

-- and seat 1 is told that it has the lock
abbrev pub second_has : Requests
second_has = (1, granted (new_request key_k)) ∷ []
