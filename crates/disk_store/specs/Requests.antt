-- How a request changes while its seat keeps its place. It is this project's own.
use Rattle.std.specs.Prelude.{ℕ, Bool, true, false, List, Some, None}
use Rattle.std.specs.declared.option.Option.{Option}
use Rattle.std.specs.Option.{option_map}
use Rattle.store_world.specs.World.{SeatEdit, Request, Requests, request_of, with_request}
use Rattle.store_world.specs.Steps.{begun_with, with_edit, new_edit, more_written, closed_edit}

abbrev pub changed_by : Option Request → (Request → Request) → ℕ → Requests → Requests
changed_by None changed who requests = requests
changed_by (Some request) changed who requests = with_request who (changed request) requests

-- the requests with that of one seat changed, where it has one
abbrev pub change : ℕ → (Request → Request) → Requests → Requests
change who changed requests = changed_by (request_of who requests) changed who requests

-- it made its Begin, and has a new edit or none
abbrev pub begun_edit_if : Bool → Request → Request
begun_edit_if true request = begun_with (Some new_edit) request
begun_edit_if false request = begun_with None request

-- more was written to an edit, or a write that failed closed it
abbrev pub written_if : List ℕ → Bool → SeatEdit → SeatEdit
written_if bytes true edit = closed_edit edit
written_if bytes false edit = more_written bytes edit

abbrev pub written_to : List ℕ → Bool → Request → Request
written_to bytes failed request = with_edit (option_map (written_if bytes failed) request.edit) request
