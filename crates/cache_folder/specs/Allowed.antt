-- What a disk cache may offer, whatever fails: pairs of a key and bytes that pass a test. This project's own.
use Rattle.std.specs.Prelude.{◌≡◌, Bool, true, ℕ, List, [], ◌∷◌, ◌++◌, Some, None}
use Rattle.std.specs.declared.option.Option.{Option}
use Rattle.std.specs.List.{AllByRecursion}
use Rattle.outside.specs.Files.{Folder}
use Rattle.cache_folder.specs.Offered.{offered}
use Rattle.cache_folder.specs.Steps.{Cached, CacheStep, Doubt, Commit, Restore, Use, Drop}
use Rattle.cache_folder.specs.Tables.{Table}
use Rattle.cache_folder.specs.Sound.{listed}

-- each of the pairs passes a test
abbrev pub Pass : (List ℕ × List ℕ → Bool) → List (List ℕ × List ℕ) → Type 0
Pass allowed = AllByRecursion (λ p. allowed p ≡ true)

-- the key and values of an entry, marked or not
abbrev pub value_of : List ℕ → Option (List ℕ) → List (List ℕ × List ℕ)
value_of key None = []
value_of key (Some values) = (key, values) ∷ []

abbrev pub values_of : Cached (List ℕ) → List (List ℕ × List ℕ)
values_of [] = []
values_of (e ∷ es) = value_of e.0 e.1.values ++ values_of es

-- the pairs that steps bring in
abbrev pub handed_in : CacheStep (List ℕ) → List (List ℕ × List ℕ)
handed_in (Doubt key) = []
handed_in (Commit key values) = (key, values) ∷ []
handed_in (Restore key) = []
handed_in (Use key) = []
handed_in (Drop key) = []

abbrev pub handed_by : List (CacheStep (List ℕ)) → List (List ℕ × List ℕ)
handed_by [] = []
handed_by (step ∷ steps) = handed_in step ++ handed_by steps

-- what the folder offers, and what the table keeps, passes
pub record IsWithin (allowed : List ℕ × List ℕ → Bool) (folder : Folder) (table : Table) : Type 0 where
  pub offers_allowed : Pass allowed (offered folder)
  pub keeps_allowed : Pass allowed (values_of (listed folder table))
