-- Words over std's finite maps that std lacks: sums over the entries, the least key that passes a test, one value changed, and each value changed. They are plain mathematics.
use Rattle.std.specs.Prelude.{ℕ, ◌+◌, Bool, false, List, [], ◌∷◌, map, Some, None, if◌then◌else◌}
use Rattle.std.specs.declared.option.Option.{Option}
use Rattle.std.specs.declared.cmp.Ordering.{Ordering}
use Rattle.std.specs.Option.{option_map}
use Rattle.std.specs.FinMap.{FinMap, entries, from_sorted, get, insert}

-- the sum of a number for each entry of a list
abbrev pub sum_over : {K X : Type 0} → (K → X → ℕ) → List (K × X) → ℕ
sum_over f [] = 0
sum_over f (e ∷ es) = f e.0 e.1 + sum_over f es

-- the first key of an entry that passes
abbrev pub first_in : {K X : Type 0} → (K → X → Bool) → List (K × X) → Option K
first_in p [] = None
first_in p (e ∷ es) = if p e.0 e.1 then Some e.0 else first_in p es

-- the sum of a number for each entry of a map
unfoldable pub total : {K X : Type 0} {R : K → K → Ordering} → (K → X → ℕ) → FinMap R X → ℕ
total f m = sum_over f (entries m)

-- the least key whose entry passes
unfoldable pub first_key : {K X : Type 0} {R : K → K → Ordering} → (K → X → Bool) → FinMap R X → Option K
first_key p m = first_in p (entries m)

-- each value changed
unfoldable pub map_values : {K X Y : Type 0} {R : K → K → Ordering} → (X → Y) → FinMap R X → FinMap R Y
map_values f m = from_sorted (map (λ e. (e.0, f e.1)) (entries m))

-- a value put at a key, where there is one to put
abbrev pub put_some : {K X : Type 0} {R : K → K → Ordering} → FinMap R X → K → Option X → FinMap R X
put_some m k None = m
put_some m k (Some v) = insert m k v

-- the value at one key changed, where the map has the key
unfoldable pub modify : {K X : Type 0} {R : K → K → Ordering} → FinMap R X → K → (X → X) → FinMap R X
modify m k f = put_some m k (option_map f (get m k))

-- whether what a key has passes; where it has nothing, it does not
abbrev pub passes : {K X : Type 0} → (K → X → Bool) → K → Option X → Bool
passes p k None = false
passes p k (Some v) = p k v
