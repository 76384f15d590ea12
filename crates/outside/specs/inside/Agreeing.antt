-- What sources agree on, one after the other: how the content that all tell is found. Only this crate's calls say it.
use Rattle.std.specs.Prelude.{ℕ, Bool, ◌&&◌, List, [], ◌∷◌, nat_eq, Some, None, if◌then◌else◌}
use Rattle.std.specs.declared.option.Option.{Option}
use Rattle.std.specs.FinMap.{entries}
use Rattle.std.specs.Cmp.Lexicographic.{pointwise}
use Rattle.outside.specs.Content.{Address, Contents}

-- whether two texts with their addresses are the same
abbrev pub same_entry : Address × List ℕ → Address × List ℕ → Bool
same_entry a b = pointwise nat_eq a.0.0 b.0.0 && (pointwise nat_eq a.0.1 b.0.1 && pointwise nat_eq a.1 b.1)

abbrev pub same_content : Contents → Contents → Bool
same_content a b = pointwise same_entry (entries a) (entries b)

-- what is known, where one more tells this
abbrev pub agreed : Option Contents → Option Contents → Option Contents
agreed None said = None
agreed (Some known) None = None
agreed (Some known) (Some said) = if same_content known said then Some known else None

-- what is known, where each of these tells something more
abbrev pub agreed_from : Option Contents → List (Option Contents) → Option Contents
agreed_from known [] = known
agreed_from known (said ∷ others) = agreed_from (agreed known said) others

-- what these tell together
abbrev pub told_by : List (Option Contents) → Option Contents
told_by [] = None
told_by (first ∷ others) = agreed_from first others
