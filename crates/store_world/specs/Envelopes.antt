-- The files of the store's entries. That each names the key bytes that it is kept for is this project's own.
use Rattle.std.specs.Prelude.{ℕ, ◌+◌, List, ◌++◌, length, drop, Some, None, if◌then◌else◌, codes}
use Rattle.std.specs.declared.option.Option.{Option}
use Rattle.std.specs.Str.{bytes_eq}
use Rattle.cache_key.specs.KeyBytes.{sized}

-- an entry's file: `GLD1`, and the key bytes and the payload, each behind its length
abbrev pub envelope : List ℕ → List ℕ → List ℕ
envelope bytes payload = codes "GLD1" ++ sized bytes ++ sized payload

-- how many bytes stand before the payload
abbrev pub front_size : List ℕ → ℕ
front_size bytes = length bytes + 12

-- the payload of a text that is the envelope of just these key bytes
abbrev pub payload_of : List ℕ → List ℕ → Option (List ℕ)
payload_of bytes text =
    let payload = drop (front_size bytes) text in
    if bytes_eq text (envelope bytes payload) then Some payload else None
