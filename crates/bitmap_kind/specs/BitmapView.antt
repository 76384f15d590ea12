-- How the fields of a bitmap are seen.
use Rattle.std.specs.Prelude.{◌≤◌, length, drop}
use Rattle.bitmap_kind.specs.Picture.{BitmapValue, stored_size, IsSize, picture_in}
use Rattle.bitmap_kind.specs.declared.bitmaps.Bitmap.TheInside.{Inside}

-- its memory begins with the picture's bytes, and the rest is spare
abbrev pub value_of : Inside → BitmapValue
value_of b = record {
  number = b.number;
  allocation = length b.memory.items;
  picture = picture_in b.memory.items b.width b.height b.config;
  spare = drop (stored_size b.width b.height b.config) b.memory.items;
}

-- what always holds: the size is one that a bitmap may have, and its bytes lie in the memory
pub record IsWhole (b : Inside) : Type 0 where
  pub size : IsSize b.width b.height
  pub fits : stored_size b.width b.height b.config ≤ length b.memory.items
