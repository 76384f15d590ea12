use Rattle.bmp_read.proofs.TablePixels.{by_table}
use Rattle.bmp_read.proofs.rules.pixels_are_those_of_the_table.Goals as goal

pub returns : goal.returns
returns c = by_table
