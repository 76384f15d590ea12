-- A reader of lines, as the definitions see it. It is this project's own, as its fields are.
use Rattle.std.specs.Prelude.{ℕ, take, drop}
use Rattle.script_lines.specs.declared.pieces.LineReader.{LineReader}
use Rattle.script_lines.specs.Reading.{Reader}
use Rattle.script_lines.specs.inside.Pieces.{Pieces}

-- the pending bytes and the line are pieces of one buffer
abbrev pub pieces_of : LineReader → Pieces
pieces_of reader =
    record {
      pending = drop reader.from (take reader.to reader.buffer.items);
      line = drop reader.begin (take reader.end reader.buffer.items);
      room = reader.room;
    }

-- a reader of scripts, which counts the lines that it was given
abbrev pub reader_of : LineReader → (lines line : ℕ) → Reader
reader_of reader lines line =
    record { pending = (pieces_of reader).pending; room = reader.room; lines = lines; line = line }
