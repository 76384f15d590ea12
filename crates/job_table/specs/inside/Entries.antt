-- The same searches on the entries of a table's vector. They are this project's own, as the vector is.
use Rattle.std.specs.Prelude.{ℕ, List}
use Rattle.std.specs.declared.option.Option.{Option}
use Rattle.finite_maps.specs.Maps.{first_in}
use Rattle.cache_key.specs.declared.load_spec.Priority.{Priority}
use Rattle.cache_key.specs.declared.load_spec.Priority.TheVariants.{Immediate, High, Normal, Low}
use Rattle.job_table.specs.declared.jobs.Job.{Job}
use Rattle.job_table.specs.Jobs.{is_queued_at, or_else}

abbrev pub queued_among : Priority → List (ℕ × Job) → Option ℕ
queued_among priority entries = first_in (λ number job. is_queued_at priority job) entries

abbrev pub next_among : List (ℕ × Job) → Option ℕ
next_among entries =
    or_else (queued_among Immediate entries) (or_else (queued_among High entries)
    (or_else (queued_among Normal entries) (queued_among Low entries)))
